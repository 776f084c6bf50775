-- Laws of a stage's answer (rules' Refusal): what it found has a property, and a refusal is one that a candidate causes.
use Prim.Native.Nat.{ℕ}
use mathlib.Core.Path.{◌≡◌, refl}
use mathlib.Core.Bool.{Bool, true, false, cond}
use Rattle.rules.specs.declared.Refusal.{Refusal}
use Rattle.rules.specs.declared.Refusal.TheVariants.{MaximumNesting, Unresolved, BitsTooBig, TooDeep}
use Rattle.rules.specs.declared.Unsized.{Unsized}
use Rattle.rules.specs.Refusal.{Reply, bind, bit_offset}
use Rattle.rules.specs.Types.{sized}
use Rattle.law_growth.specs.Demand3.{causes}
use Rattle.std.specs.Prelude.{Err, Ok, Result}

-- What was found has P; a refusal is one that a candidate causes.
pub data Fine {A : Type 0} (P : A → Type 0) : Reply A → Type 0 where
  found : {a : A} → P a → Fine P (Ok a)
  caused : {q : Refusal} → causes q ≡ true → Fine P (Err q)

-- The same, whatever was found
abbrev pub Caused : {A : Type 0} → Reply A → Type 0
Caused x = Fine (λ a. Unit {0}) x

module _ {A : Type 0} {P : A → Type 0} where
  pub found-has : {a : A} → Fine P (Ok a) → P a
  found-has (found h) = h

  pub refused-causes : {q : Refusal} → Fine P (Err q) → causes q ≡ true
  refused-causes (caused h) = h

  -- The four refusals that a candidate causes

  pub causes_nesting : (i : ℕ) → Fine P (Err (MaximumNesting i))
  unfolding causes
  causes_nesting i = caused refl

  pub causes_unresolved : Fine P (Err Unresolved)
  unfolding causes
  causes_unresolved = caused refl

  pub causes-bits : Fine P (Err BitsTooBig)
  unfolding causes
  causes-bits = caused refl

  pub causes-deep : Fine P (Err TooDeep)
  unfolding causes
  causes-deep = caused refl

  pub cond-in : (b : Bool) {x y : Reply A} → Fine P x → Fine P y → Fine P (cond b x y)
  cond-in true p q = p
  cond-in false p q = q

  -- The stage after a size, and after an answer
  pub sized-in : {f : ℕ → Reply A} (x : Result ℕ Unsized) → ((n : ℕ) → Fine P (f n)) → Fine P (sized x f)
  sized-in (Ok n) h = h n
  sized-in (Err z) h = causes_unresolved

  pub bind-in : {B : Type 0} {Q : B → Type 0} {x : Reply B} {f : B → Reply A} → Fine Q x → ((b : B) → Q b → Fine P (f b)) → Fine P (bind x f)
  bind-in (found h) next = next _ h
  bind-in (caused h) next = caused h

  -- It is enough that the next stages agree at what was found.
  pub bind-same : {B : Type 0} {x : Reply A} {f g : A → Reply B} → Fine P x → ((a : A) → P a → f a ≡ g a) → bind x f ≡ bind x g
  bind-same (found h) eq = eq _ h
  bind-same (caused h) eq = refl

pub bit_offset-in : (n : ℕ) → Caused (bit_offset n)
bit_offset-in n = cond-in _ (found tt) causes-bits
