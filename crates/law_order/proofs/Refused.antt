-- A refused record leaves every instruction byte as it was, but for the partial refusals; so does a call.
use Prim.Native.Nat.{ℕ, suc, ◌+◌, ◌-◌, ◌≤◌}
use mathlib.Core.Path.{◌≡◌, refl, ◌∙◌}
use mathlib.Core.Bool.{Bool, true, false, cond, not}
use mathlib.Core.List.{List, [], ◌∷◌}
use mathlib.Core.Logic.{◌⊎◌, inl, inr}
use native.Mathlib.Nat.{sub-zero}
use native.Mathlib.Omega.{arith}
use lib.Dec.{ltb}
use lib.ListN.{take}
use Rattle.btf_view.specs.View.{View}
use Rattle.rules.specs.declared.Record.{Record}
use Rattle.rules.specs.declared.Refusal.{Refusal}
use Rattle.rules.specs.declared.Refusal.TheVariants.{KindTooBig, NotInFunction}
use Rattle.rules.specs.declared.Write.{Write}
use Rattle.rules.specs.declared.Write.TheVariants.{Put, Poison}
use Rattle.rules.specs.declared.Answer.{Answer}
use Rattle.rules.specs.declared.Answer.TheVariants.{Applied, Poisoned, Refused}
use Rattle.rules.specs.declared.Ending.TheVariants.{Stopped, Misshapen}
use Rattle.rules.specs.Kinds.{enum_value}
use Rattle.rules.specs.Refusal.{Reply, returned}
use Rattle.rules.specs.Apply.{Patch, done, stopped, patch}
use Rattle.rules.specs.Record.{Outcome, relocated, outcome, refuse, apply, index_of, in_function, record_of}
use Rattle.rules.specs.List.{follow, list_of}
use Rattle.rules.specs.Call.{records_in, end_of, run_of, shaped, unrun, relocate_read}
use Rattle.law_order.specs.Kept.{Partial, is_partial, RecordKeeps, CallKeeps}
use Rattle.law_order.proofs.KeptLaws.{keeps}
use Rattle.std.specs.Prelude.{Err, Ok}

-- What a refusal leaves, in one outcome
abbrev Leaving : List ℕ → Refusal → Outcome → Type 0
Leaving xs q o = o.answer ≡ Refused q → is_partial q ≡ false → o.insns ≡ xs

partial : (i : ℕ) (r : Refusal) → Partial i r → is_partial r ≡ true
unfolding is_partial returned
partial i r (inl e) = rw e
partial i r (inr (inl e)) = rw e
partial i r (inr (inr (inl e))) = rw e
partial i r (inr (inr (inr e))) = rw e

-- A patch that stopped
patched : (xs : List ℕ) (i : ℕ) (q : Refusal) (w : Write) (p : Patch) → patch xs i w ≡ p → Leaving xs q (outcome w p)
patched xs i q (Put n z) (done ys) e a h = absurd (cc)
patched xs i q Poison (done ys) e a h = absurd (cc)
patched xs i q w (stopped r ys) e a h = go ((keeps xs i w).refused e)
  where
    same : r ≡ q
    same = cc

    go : (ys ≡ xs) ⊎ Partial i r → ys ≡ xs
    go (inl k) = k
    go (inr k) =
        let t : is_partial q ≡ true = rw (← same) (partial i r k) in absurd (cc)

pub record_keeps : (L T : View) (section : ℕ) (xs : List ℕ) (r : Record) → RecordKeeps L T section xs r
unfolding record_of apply
record_keeps L T section xs r q = go (ltb enum_value r.kind) (not (in_function section xs r)) (relocated L T r)
  where
    i : ℕ
    i = index_of section r

    applied : (x : Reply Write) → Leaving xs q (apply xs i x)
    applied (Err s) a h = refl
    applied (Ok w) a h = patched xs i q w (patch xs i w) refl a h

    go : (b c : Bool) (x : Reply Write) → Leaving xs q (cond b (refuse xs (KindTooBig r.kind)) (cond c (refuse xs NotInFunction) (apply xs i x)))
    go true c x a h = refl
    go false true x a h = refl
    go false false x a h = applied x a h

-- A list that ends at record j, the first of it being number k

-- no record before the first is named
not_before : (k j : ℕ) (q : Refusal) (ys : List Answer) → (end_of k ys).ending ≡ Stopped j q → k ≤ j
unfolding end_of
not_before k j q [] h = absurd (cc)
not_before k j q (Applied v ∷ ys) h = omega (arith, not_before (k + 1) j q ys h)
not_before k j q (Poisoned ∷ ys) h = omega (arith, not_before (k + 1) j q ys h)
not_before k j q (Refused s ∷ ys) h = let e : k ≡ j = cc in omega arith

module _ (L T : View) (section : ℕ) where
  -- the records before it have left what is left
  list-keeps : (k j : ℕ) (q : Refusal) → is_partial q ≡ false → (xs : List ℕ) (rs : List Record) → (end_of k (list_of L T section xs rs).answers).ending ≡ Stopped j q
      → (list_of L T section xs rs).insns ≡ (list_of L T section xs (take (j - k) rs)).insns
  unfolding list_of end_of
  list-keeps k j q n xs [] h = absurd (cc)
  list-keeps k j q n xs (r ∷ rs) h = go (record_of L T section xs r).answer refl h (λ g. list-keeps (k + 1) j q n (record_of L T section xs r).insns rs g)
    where
      ys : List ℕ
      ys = (record_of L T section xs r).insns

      further : k + 1 ≤ j → j - k ≡ suc (j - (k + 1))
      further l = omega arith

      Rest : Type 0
      Rest = (end_of (k + 1) (list_of L T section ys rs).answers).ending ≡ Stopped j q
          → (list_of L T section ys rs).insns ≡ (list_of L T section ys (take (j - (k + 1)) rs)).insns

      go : (a : Answer) → (record_of L T section xs r).answer ≡ a → (end_of k (follow a ys (λ zs. list_of L T section zs rs)).answers).ending ≡ Stopped j q → Rest
          → (follow a ys (λ zs. list_of L T section zs rs)).insns ≡ (list_of L T section xs (take (j - k) (r ∷ rs))).insns
      go (Applied v) e g rest = rw (further (not_before (k + 1) j q (list_of L T section ys rs).answers g), e) (rest g)
      go Poisoned e g rest = rw (further (not_before (k + 1) j q (list_of L T section ys rs).answers g), e) (rest g)
      go (Refused s) e g rest =
          let same : s ≡ q = cc in
          let here : k ≡ j = cc in
          let none : j - k ≡ 0 = omega arith in
          rw none (record_keeps L T section xs r q (e ∙ rw same) n)

  pub call_keeps : (xs rs : List ℕ) → CallKeeps L T section xs rs (relocate_read L T xs section rs)
  unfolding relocate_read run_of end_of
  call_keeps xs rs = go (shaped xs section rs)
    where
      go : (b : Bool) → CallKeeps L T section xs rs (cond b (record { said = end_of 0 (list_of L T section xs (records_in rs)).answers; insns = (list_of L T section xs (records_in rs)).insns }) (unrun Misshapen xs))
      go true = record {
        stopped = λ k q e n. rw (sub-zero k) at (list-keeps 0 k q n xs (records_in rs) e);
        misshapen = λ e. absurd (never 0 (list_of L T section xs (records_in rs)).answers e);
      }
        where
          never : (k : ℕ) (ys : List Answer) → (end_of k ys).ending ≡ Misshapen → ⊥
          never k [] h = cc
          never k (Applied v ∷ ys) h = never (k + 1) ys h
          never k (Poisoned ∷ ys) h = never (k + 1) ys h
          never k (Refused s ∷ ys) h = cc
      go false = record { stopped = λ k q e n. absurd (cc); misshapen = λ e. refl }
