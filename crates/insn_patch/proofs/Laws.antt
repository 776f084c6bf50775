-- The ways of a patch, over plain bytes: what each branch of the code has written is what the rules say.
-- Assumes nothing.
use mathlib.Core.Path.{◌≡◌, refl, sym, ap, ap₂, ◌∙◌}
use mathlib.Core.List.{List, [], ◌∷◌, ◌++◌}
use mathlib.Core.Logic.{⊎_elim, inl, inr}
use Prim.Native.Nat.{ℕ, ◌*◌, ◌/◌, ◌%◌, ◌≤◌, ◌<◌}
use native.Mathlib.Omega.{arith}
use lib.ListN.{length, get_or, take, drop, drop_of_length-le}
use lib.Seq.{take_all}
use types.Run.{OneOf}
use borrow.Author.Tests.{eq-eqb, ne_eqb, lt-ltb, le-ltb}
use Rattle.btf_kinds.proofs.Keys.{at_key, in_range, split}
use Rattle.std.specs.Prelude.{Result, Ok, Err}
use Rattle.rules.specs.declared.Refusal.{Refusal}
use Rattle.rules.specs.declared.Refusal.TheVariants.{BadInstruction}
use Rattle.rules.specs.declared.Resize.{Resize}
use Rattle.rules.specs.Apply.{Patch, done, stopped, code, class, with_imm, patch_alu, patch_memory, patch_wide, patch_class, low, source_register, patch_front, behind, patch}
use Rattle.rules.specs.declared.Write.{Write}
use Rattle.insn_fields.specs.Patched.{patch_of}
use Rattle.insn_patch.specs.Start.{start_of}

-- Where instruction i begins
module _ (n i : ℕ) where
  pub begins : 8 * i < n → 8 * i ≡ start_of n i
  unfolding start_of
  begins h = rw (lt-ltb (8 * i) n h)

  pub ends : n ≤ 8 * i → n ≡ start_of n i
  unfolding start_of
  ends h = rw (le-ltb (8 * i) n h)

-- The part that is lent is the one from eight times the index on.
pub starts : (xs : List ℕ) (i : ℕ) → (take (start_of (length xs) i) xs ≡ take (8 * i) xs) × (drop (start_of (length xs) i) xs ≡ drop (8 * i) xs)
starts xs i =
    let n = length xs in
    ⊎_elim
    (λ (h : 8 * i < n). let e = sym (begins n i h) in (ap (λ (a : ℕ). take a xs) e, ap (λ (a : ℕ). drop a xs) e))
    (λ (h : n ≤ 8 * i). let e = sym (ends n i h) in (
      ap (λ (a : ℕ). take a xs) e ∙ take_all n xs (omega arith) ∙ sym (take_all (8 * i) xs h),
      ap (λ (a : ℕ). drop a xs) e ∙ drop_of_length-le xs {i = n} (omega arith) ∙ sym (drop_of_length-le xs {i = 8 * i} h),
    ))
    (split (8 * i) n)

-- A class
module _ (b : ℕ) (xs : List ℕ) (i n : ℕ) (z : Resize) (e : b ≡ get_or xs 0 0) where
  abbrev Here : Patch → ℕ → Type 0
  Here p c = p ≡ patch_class c xs i n z

  here : {p : Patch} → Here p (b % 8) → p ≡ patch_class (class (code xs)) xs i n z
  unfolding code
  here h = h ∙ ap (λ (k : ℕ). patch_class (k % 8) xs i n z) e

  pub alu : OneOf (4 ∷ 7 ∷ []) (b % 8) → patch_alu xs n ≡ patch_class (class (code xs)) xs i n z
  unfolding patch_class
  alu k = here (at_key (Here (patch_alu xs n)) (4 ∷ 7 ∷ []) (b % 8) (refl, (refl, tt)) k)

  pub memory : b % 8 < 4 → (OneOf (0 ∷ []) (b % 8) → ⊥) → patch_memory xs n z ≡ patch_class (class (code xs)) xs i n z
  unfolding patch_class
  memory l k =
      here (in_range (λ c. (OneOf (0 ∷ []) c → ⊥) → Here (patch_memory xs n z) c) 0 4 (b % 8)
      (λ h. absurd (h refl), (λ h. refl, (λ h. refl, (λ h. refl, tt)))) (omega arith) l k)

  pub wide : OneOf (0 ∷ []) (b % 8) → patch_wide xs i n ≡ patch_class (class (code xs)) xs i n z
  unfolding patch_class
  wide k = here (at_key (Here (patch_wide xs i n)) (0 ∷ []) (b % 8) (refl, tt) k)

  pub classless : 4 ≤ b % 8 → (OneOf (4 ∷ 7 ∷ []) (b % 8) → ⊥) → stopped (BadInstruction 5) xs ≡ patch_class (class (code xs)) xs i n z
  unfolding patch_class
  classless l k =
      here (in_range (λ c. (OneOf (4 ∷ 7 ∷ []) c → ⊥) → Here (stopped (BadInstruction 5) xs) c) 4 4 (b % 8)
      (λ h. absurd (h (inl refl)), (λ h. refl, (λ h. refl, (λ h. absurd (h (inr refl)), tt)))) l (omega arith) k)

-- An immediate operand, b being the byte of the registers
module _ (b : ℕ) (xs : List ℕ) (n : ℕ) (e : b ≡ get_or xs 1 0) where
  pub register : (b / 16 ≡ 0 → ⊥) → stopped (BadInstruction 1) xs ≡ patch_alu xs n
  unfolding patch_alu source_register
  register h = rw (← e, ne_eqb (b / 16) 0 h)

  pub immediate : b / 16 ≡ 0 → {ys : List ℕ} → ys ≡ with_imm xs (low n) → done ys ≡ patch_alu xs n
  unfolding patch_alu source_register
  immediate h p = rw (← e, eq-eqb (b / 16) 0 h, p)

-- The whole patch: the part from `at` on is split off, and left as ys with the answer p.
pub patched : (xs : List ℕ) (i : ℕ) (w : Write) {at : ℕ} {front back : List ℕ} → at ≡ start_of (length xs) i → front ≡ take at xs → back ≡ drop at xs
    → (p : Result (Unit {0}) Refusal) (ys : List ℕ) → patch_of p ys ≡ patch_front back i w → patch_of p (front ++ ys) ≡ patch xs i w
unfolding patch
patched xs i w {front = front} s f b p ys e =
    put p ∙ ap (behind front) e
    ∙ ap₂ (λ (a l : List ℕ). behind a (patch_front l i w)) (f ∙ ap (λ (k : ℕ). take k xs) s ∙ (starts xs i).0) (b ∙ ap (λ (k : ℕ). drop k xs) s ∙ (starts xs i).1)
  where
    put : (p : Result (Unit {0}) Refusal) → patch_of p (front ++ ys) ≡ behind front (patch_of p ys)
    put (Ok u) = refl
    put (Err r) = refl
