-- Two records in either order: proved.
use Prim.Native.Nat.{ℕ, suc, ◌+◌, ◌*◌, ◌≤◌, ◌<◌}
use mathlib.Core.Path.{◌≡◌, refl, sym, ap, ◌∙◌}
use mathlib.Core.Bool.{Bool, true, false, cond, ◌||◌}
use mathlib.Core.List.{List}
use native.Mathlib.Omega.{arith}
use native.Mathlib.Decide.{dec_lt}
use lib.ListN.{length, drop}
use lib.Dec.{eqb}
use borrow.Author.Tests.{eq-eqb}
use Rattle.btf_view.specs.View.{View}
use Rattle.rules.specs.declared.Write.{Write}
use Rattle.rules.specs.declared.Record.{Record}
use Rattle.rules.specs.Apply.{Patch, done, stopped, code, class, is_wide, patch}
use Rattle.rules.specs.Record.{Outcome, shown, outcome, apply, index_of, in_function, record_of}
use Rattle.law_order.specs.Kept.{bytes_of, refusal_of, takes_next, patch_width, patch_width_at}
use Rattle.law_order.proofs.KeptLaws.{keeps}
use Rattle.law_order.proofs.Apart.{Apart, apart, later, at}
use Rattle.law_growth.specs.Demand3.{is_refused}
use Rattle.law_growth.proofs.One.{stages}
use Rattle.law_order.proofs.Touching.{takes-wide, left}
use Rattle.law_order.specs.AnyOrder.{touches, NoCommon, IsAccepted, EitherOrder}
use Rattle.std.specs.Prelude.{None}

-- What an outcome shows of its patch

answered : (w : Write) (p : Patch) → refusal_of p ≡ None → (outcome w p).answer ≡ shown w
answered w (done xs) h = refl
answered w (stopped q xs) h = cc

applied : (w : Write) (p : Patch) → is_refused (outcome w p).answer ≡ false → refusal_of p ≡ None
applied w (done xs) h = refl
applied w (stopped q xs) h = cc

-- An accepted record is a patch of its instruction, on these instructions and on any as many.
pub record Patches (L T : View) (section : ℕ) (insns : List ℕ) (r : Record) : Type 0 where
  pub write : Write
  pub is : (xs : List ℕ) → length xs ≡ length insns → record_of L T section xs r ≡ outcome write (patch xs (index_of section r) write)

module _ (L T : View) (section : ℕ) (insns : List ℕ) (r : Record) (h : IsAccepted L T section insns r) where
  as_patch : (xs : List ℕ) → length xs ≡ length insns
      → record_of L T section xs r ≡ outcome (stages L T section insns r h).2.0 (patch xs (index_of section r) (stages L T section insns r h).2.0)
  unfolding record_of apply
  as_patch xs e =
      let s = stages L T section insns r h in
      let there : in_function section xs r ≡ true = rw e s.1 in
      rw (s.0, there, s.2.1)

  pub patches : Patches L T section insns r
  patches = record { write = (stages L T section insns r h).2.0; is = as_patch }

-- What is touched

own : (section : ℕ) (insns : List ℕ) (r : Record) → touches section insns r (index_of section r) ≡ true
unfolding touches
own section insns r = rw (eq-eqb (index_of section r) (index_of section r) refl)

next : (section : ℕ) (insns : List ℕ) (r : Record) → is_wide (class (code (drop (8 * index_of section r) insns))) ≡ true
    → touches section insns r (suc (index_of section r)) ≡ true
unfolding touches
next section insns r h = rw (h, eq-eqb (suc (index_of section r)) (suc (index_of section r)) refl) (go (eqb (suc (index_of section r)) (index_of section r)))
  where
    go : (b : Bool) → (b || true) ≡ true
    go true = refl
    go false = refl

pub no_common_sym : (section : ℕ) (insns : List ℕ) (r s : Record) → NoCommon section insns r s → NoCommon section insns s r
no_common_sym section insns r s n k h = go (touches section insns r k) refl
  where
    go : (b : Bool) → touches section insns r k ≡ b → b ≡ false
    go false e = refl
    go true e = cc (n k e, h)

module _ (section : ℕ) (insns : List ℕ) (r s : Record) (n : NoCommon section insns r s) where
  -- not the same instruction, nor the next of a wide one
  elsewhere : (k : ℕ) → touches section insns r k ≡ true → index_of section s ≡ k → ⊥
  elsewhere k h e = cc (sym (own section insns s), ap (touches section insns s) e, n k h)

  -- so what r's patch reaches ends before s's instruction, where that stands behind
  room : (w : Write) → index_of section r < index_of section s → 8 * index_of section r + patch_width_at insns (index_of section r) w ≤ 8 * index_of section s
  unfolding patch_width
  room w l = go (takes_next (code (drop (8 * index_of section r) insns)) w) refl
    where
      go : (b : Bool) → takes_next (code (drop (8 * index_of section r) insns)) w ≡ b → 8 * index_of section r + cond b 16 8 ≤ 8 * index_of section s
      go false e = omega arith
      go true e =
          let far : index_of section s ≡ suc (index_of section r) → ⊥ =
          elsewhere (suc (index_of section r)) (next section insns r (takes-wide (code (drop (8 * index_of section r) insns)) w e)) in
          omega arith

-- An accepted record that has no instruction in common with another, accepted one

module _ (L T : View) (section : ℕ) (insns : List ℕ) (r : Record) (p : IsAccepted L T section insns r) where
  abbrev w : Write
  w = (patches L T section insns r p).write

  abbrev i : ℕ
  i = index_of section r

  -- what it leaves, and what it says
  after : (record_of L T section insns r).insns ≡ bytes_of (patch insns i w)
  after = ap (λ (o : Outcome). o.insns) ((patches L T section insns r p).is insns refl) ∙ left w (patch insns i w)

  applies : refusal_of (patch insns i w) ≡ None
  applies = applied w (patch insns i w) (sym (ap (λ (o : Outcome). is_refused o.answer) ((patches L T section insns r p).is insns refl)) ∙ p)

  -- on as many other instructions, where the patch says the same
  on : (xs : List ℕ) → length xs ≡ length insns → refusal_of (patch xs i w) ≡ refusal_of (patch insns i w)
      → (record_of L T section xs r).answer ≡ (record_of L T section insns r).answer
  on xs e f =
      ap (λ (o : Outcome). o.answer) ((patches L T section insns r p).is xs e) ∙ answered w (patch xs i w) (f ∙ applies)
      ∙ sym (ap (λ (o : Outcome). o.answer) ((patches L T section insns r p).is insns refl) ∙ answered w (patch insns i w) applies)

  leaves : (xs : List ℕ) → length xs ≡ length insns → (record_of L T section xs r).insns ≡ bytes_of (patch xs i w)
  leaves xs e = ap (λ (o : Outcome). o.insns) ((patches L T section insns r p).is xs e) ∙ left w (patch xs i w)

module _ (L T : View) (section : ℕ) (insns : List ℕ) (r s : Record) (p : IsAccepted L T section insns r) (q : IsAccepted L T section insns s)
    (n : NoCommon section insns r s) where
  abbrev i' : ℕ
  i' = index_of section r

  abbrev j' : ℕ
  j' = index_of section s

  abbrev w' : Write
  w' = w L T section insns r p

  abbrev u' : Write
  u' = w L T section insns s q

  behind : (i' < j' → ⊥) → j' < i'
  behind l = let different : j' ≡ i' → ⊥ = elsewhere section insns r s n i' (own section insns r) in omega arith

  patched : Apart insns i' w' j' u'
  patched = go (dec_lt i' j')
    where
      go : Dec (i' < j') → Apart insns i' w' j' u'
      go (yes l) = apart insns i' w' j' u' (room section insns r s n w' l)
      go (no l) =
          let a = apart insns j' u' i' w' (room section insns s r (no_common_sym section insns r s n) u' (behind l)) in
          record { first = a.second; second = a.first; bytes = sym a.bytes }

  -- Two records in either order
  pub either_order : EitherOrder L T section insns r s
  either_order = record {
    first = rw (after L T section insns s q) (on L T section insns r p (bytes_of (patch insns j' u')) (keeps insns j' u').long patched.first);
    second = rw (after L T section insns r p) (on L T section insns s q (bytes_of (patch insns i' w')) (keeps insns i' w').long patched.second);
    bytes = rw (after L T section insns r p, after L T section insns s q)
        (leaves L T section insns s q (bytes_of (patch insns i' w')) (keeps insns i' w').long ∙ patched.bytes
        ∙ sym (leaves L T section insns r p (bytes_of (patch insns j' u')) (keeps insns j' u').long));
  }

  -- The code of s's instruction is as it was after r.
  code-kept : code (drop (8 * j') (bytes_of (patch insns i' w'))) ≡ code (drop (8 * j') insns)
  code-kept = go (dec_lt i' j')
    where
      go : Dec (i' < j') → code (drop (8 * j') (bytes_of (patch insns i' w'))) ≡ code (drop (8 * j') insns)
      go (yes l) = ap code (later (8 * i' + patch_width_at insns i' w') (bytes_of (patch insns i' w')) insns (8 * j') (room section insns r s n w' l) (keeps insns i' w').rest)
      go (no l) = let m : j' < i' = behind l in at (8 * i') (bytes_of (patch insns i' w')) insns (8 * j') (omega arith) (keeps insns i' w').before

  -- so s touches what it touched.
  pub touches-kept : (k : ℕ) → touches section (record_of L T section insns r).insns s k ≡ touches section insns s k
  unfolding touches
  touches-kept k = rw (after L T section insns r p, code-kept)
