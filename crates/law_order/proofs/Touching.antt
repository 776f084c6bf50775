-- What a record's answer depends on: proved.
use Prim.Native.Nat.{ℕ, ◌+◌, ◌-◌, ◌*◌, ◌≤◌}
use mathlib.Core.Path.{◌≡◌, refl, sym, ap, ap₂, ◌∙◌, subst}
use mathlib.Core.Bool.{Bool, true, false, cond, not}
use mathlib.Core.List.{List, ◌++◌}
use native.Mathlib.Omega.{arith}
use lib.ListN.{get_or, take, drop}
use lib.Seq.{get_or-take, take-add, take-take, drop-drop}
use lib.Dec.{ltb}
use borrow.Author.Tests.{eqb-true}
use Rattle.btf_view.specs.View.{View}
use Rattle.rules.specs.declared.Refusal.{Refusal}
use Rattle.rules.specs.declared.Refusal.TheVariants.{KindTooBig, NotInFunction}
use Rattle.rules.specs.declared.Write.{Write}
use Rattle.rules.specs.declared.Write.TheVariants.{Put, Poison}
use Rattle.rules.specs.declared.Record.{Record}
use Rattle.rules.specs.Kinds.{enum_value}
use Rattle.rules.specs.Refusal.{Reply}
use Rattle.rules.specs.Apply.{Patch, done, stopped, code, class, is_wide, patch_front, patch}
use Rattle.rules.specs.Record.{relocated, Outcome, outcome, refuse, apply, index_of, in_function, record_of}
use Rattle.law_order.specs.Kept.{bytes_of, takes_next, patch_width, mapped, patch_width_at}
use Rattle.law_order.proofs.KeptLaws.{keeps}
use Rattle.law_order.proofs.Apart.{drop-take, later}
use Rattle.law_order.specs.AnyOrder.{span, Touching}
use Rattle.std.specs.Prelude.{Err, Ok}

-- A patch that takes the next instruction is of class 0.
pub takes-wide : (c : ℕ) (w : Write) → takes_next c w ≡ true → is_wide (class c) ≡ true
takes-wide c Poison h = rw (eqb-true c 0x18 h)
takes-wide c (Put n z) h = h

-- What a patch shows of the part of it that is in reach

shows : (w : Write) (f : List ℕ → List ℕ) (p : Patch) → (outcome w (mapped f p)).answer ≡ (outcome w p).answer
shows w f (done xs) = refl
shows w f (stopped q xs) = refl

kept : (w : Write) (f : List ℕ → List ℕ) (p : Patch) → (outcome w (mapped f p)).insns ≡ f (outcome w p).insns
kept w f (done xs) = refl
kept w f (stopped q xs) = refl

pub left : (w : Write) (p : Patch) → (outcome w p).insns ≡ bytes_of p
left w (done xs) = refl
left w (stopped q xs) = refl

-- A part of a list that begins another way than its reach
module _ (a r n : ℕ) (h : r ≤ n) (xs ys : List ℕ) where
  abbrev m : ℕ
  m = n - r

  whole : (zs : List ℕ) → take n (drop a zs) ≡ take r (drop a zs) ++ take m (drop (a + r) zs)
  whole zs = let e : n ≡ r + m = omega arith in ap (λ (k : ℕ). take k (drop a zs)) e ∙ take-add r m (drop a zs) ∙ ap (λ (t : List ℕ). take r (drop a zs) ++ take m t) (drop-drop r a zs)

  front_same : take n (drop a xs) ≡ take n (drop a ys) → take r (drop a xs) ≡ take r (drop a ys)
  front_same e = sym (take-take r n (drop a xs) h) ∙ ap (take r) e ∙ take-take r n (drop a ys) h

  back-same : take n (drop a xs) ≡ take n (drop a ys) → take m (drop (a + r) xs) ≡ take m (drop (a + r) ys)
  back-same e = sym (over xs) ∙ ap (drop r) e ∙ over ys
    where
      over : (zs : List ℕ) → drop r (take n (drop a zs)) ≡ take m (drop (a + r) zs)
      over zs = let e : n ≡ r + m = omega arith in ap (λ (k : ℕ). drop r (take k (drop a zs))) e ∙ drop-take r m (drop a zs) ∙ ap (take m) (drop-drop r a zs)

-- A patch of instruction i, in instructions ys, and in others that have the same touched bytes
module _ (i : ℕ) (w : Write) (ys : List ℕ) where
  abbrev a : ℕ
  a = 8 * i

  abbrev wide : ℕ
  wide = cond (is_wide (class (code (drop a ys)))) 16 8

  -- it reaches no further than what is touched
  within-span : patch_width_at ys i w ≤ wide
  unfolding patch_width
  within-span = go (takes_next (code (drop a ys)) w) refl (is_wide (class (code (drop a ys)))) refl
    where
      go : (t : Bool) → takes_next (code (drop a ys)) w ≡ t → (b : Bool) → is_wide (class (code (drop a ys))) ≡ b → cond t 16 8 ≤ cond b 16 8
      go false e true f = omega arith
      go false e false f = omega arith
      go true e true f = omega arith
      go true e false f = absurd (cc (sym (takes-wide (code (drop a ys)) w e), f))

  some-wide : 8 ≤ wide
  some-wide = go (is_wide (class (code (drop a ys))))
    where
      go : (b : Bool) → 8 ≤ cond b 16 8
      go true = omega arith
      go false = omega arith

  module _ (xs : List ℕ) (e : take wide (drop a xs) ≡ take wide (drop a ys)) where
    code_same : code (drop a xs) ≡ code (drop a ys)
    unfolding code
    code_same =
        sym (get_or-take wide (drop a xs) 0 0 (omega (arith, some-wide))) ∙ ap (λ (l : List ℕ). get_or l 0 0) e
        ∙ get_or-take wide (drop a ys) 0 0 (omega (arith, some-wide))

    reach-same : patch_width_at xs i w ≡ patch_width_at ys i w
    reach-same = ap (λ (c : ℕ). patch_width c w) code_same

    inner : take (patch_width_at xs i w) (drop a xs) ≡ take (patch_width_at ys i w) (drop a ys)
    inner = ap (λ (k : ℕ). take k (drop a xs)) reach-same ∙ front_same a (patch_width_at ys i w) wide within-span xs ys e

    fronts : patch_front (take (patch_width_at xs i w) (drop a xs)) i w ≡ patch_front (take (patch_width_at ys i w) (drop a ys)) i w
    fronts = ap (λ (l : List ℕ). patch_front l i w) inner

    says : (outcome w (patch xs i w)).answer ≡ (outcome w (patch ys i w)).answer
    says =
        sym (shows w (λ l. take (patch_width_at xs i w) (drop a l)) (patch xs i w))
        ∙ ap (λ (p : Patch). (outcome w p).answer) ((keeps xs i w).within ∙ fronts ∙ sym (keeps ys i w).within)
        ∙ shows w (λ l. take (patch_width_at ys i w) (drop a l)) (patch ys i w)

    inner-left : take (patch_width_at ys i w) (drop a (outcome w (patch xs i w)).insns) ≡ take (patch_width_at ys i w) (drop a (outcome w (patch ys i w)).insns)
    inner-left =
        ap (λ (k : ℕ). take k (drop a (outcome w (patch xs i w)).insns)) (sym reach-same)
        ∙ sym (kept w (λ l. take (patch_width_at xs i w) (drop a l)) (patch xs i w))
        ∙ ap (λ (p : Patch). (outcome w p).insns) ((keeps xs i w).within ∙ fronts ∙ sym (keeps ys i w).within)
        ∙ kept w (λ l. take (patch_width_at ys i w) (drop a l)) (patch ys i w)

    rest-left : (zs : List ℕ) → patch_width_at zs i w ≡ patch_width_at ys i w → drop (a + patch_width_at ys i w) (outcome w (patch zs i w)).insns ≡ drop (a + patch_width_at ys i w) zs
    rest-left zs f =
        ap (drop (a + patch_width_at ys i w)) (left w (patch zs i w))
        ∙ subst (λ (k : ℕ). drop (a + k) (bytes_of (patch zs i w)) ≡ drop (a + k) zs) f (keeps zs i w).rest

    leaves : take wide (drop a (outcome w (patch xs i w)).insns) ≡ take wide (drop a (outcome w (patch ys i w)).insns)
    leaves =
        whole a (patch_width_at ys i w) wide within-span xs ys (outcome w (patch xs i w)).insns
        ∙ ap₂ (λ (s t : List ℕ). s ++ t) inner-left
        (ap (take (wide - patch_width_at ys i w)) (rest-left xs reach-same) ∙ back-same a (patch_width_at ys i w) wide within-span xs ys e
        ∙ ap (take (wide - patch_width_at ys i w)) (sym (rest-left ys refl)))
        ∙ sym (whole a (patch_width_at ys i w) wide within-span xs ys (outcome w (patch ys i w)).insns)

  before-kept : take a (outcome w (patch ys i w)).insns ≡ take a ys
  before-kept = ap (take a) (left w (patch ys i w)) ∙ (keeps ys i w).before

  behind-kept : drop (a + wide) (outcome w (patch ys i w)).insns ≡ drop (a + wide) ys
  behind-kept =
      ap (drop (a + wide)) (left w (patch ys i w))
      ∙ later (a + patch_width_at ys i w) (bytes_of (patch ys i w)) ys (a + wide) (omega (arith, within-span)) (keeps ys i w).rest

-- Any record: refused before its instruction is looked at, or a patch

module _ (section : ℕ) (insns : List ℕ) (r : Record) where
  -- what its stages make of instructions xs
  abbrev stage : Bool → Bool → Reply Write → List ℕ → Outcome
  stage k b x xs = cond k (refuse xs (KindTooBig r.kind)) (cond (not b) (refuse xs NotInFunction) (apply xs (index_of section r) x))

  record Staged (f : List ℕ → Outcome) : Type 0 where
    before : take (8 * index_of section r) (f insns).insns ≡ take (8 * index_of section r) insns
    behind : drop (8 * index_of section r + span section insns r) (f insns).insns ≡ drop (8 * index_of section r + span section insns r) insns
    answer : (xs : List ℕ) → take (span section insns r) (drop (8 * index_of section r) xs) ≡ take (span section insns r) (drop (8 * index_of section r) insns)
        → (f xs).answer ≡ (f insns).answer
    bytes : (xs : List ℕ) → take (span section insns r) (drop (8 * index_of section r) xs) ≡ take (span section insns r) (drop (8 * index_of section r) insns)
        → take (span section insns r) (drop (8 * index_of section r) (f xs).insns) ≡ take (span section insns r) (drop (8 * index_of section r) (f insns).insns)

  refusing : (q : Refusal) → Staged (λ xs. refuse xs q)
  refusing q = record { before = refl; behind = refl; answer = λ xs e. refl; bytes = λ xs e. e }

  patching : (w : Write) → Staged (λ xs. outcome w (patch xs (index_of section r) w))
  unfolding span
  patching w = record {
    before = before-kept (index_of section r) w insns;
    behind = behind-kept (index_of section r) w insns;
    answer = says (index_of section r) w insns;
    bytes = leaves (index_of section r) w insns;
  }

  staged : (k b : Bool) (x : Reply Write) → Staged (stage k b x)
  unfolding apply
  staged true b x = refusing (KindTooBig r.kind)
  staged false false x = refusing NotInFunction
  staged false true (Err q) = refusing q
  staged false true (Ok w) = patching w

-- What a record's answer depends on
pub touching : (L T : View) (section : ℕ) (insns : List ℕ) (r : Record) → Touching L T section insns r
unfolding record_of
touching L T section insns r =
    let s = staged section insns r (ltb enum_value r.kind) (in_function section insns r) (relocated L T r) in
    record {
      before = s.before;
      behind = s.behind;
      answer = λ xs e f. rw e (s.answer xs f);
      bytes = λ xs e f. rw e (s.bytes xs f);
    }
