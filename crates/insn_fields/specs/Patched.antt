-- What the code answers, as a patch of the rules; and what a change of a successor's bytes does.
-- Assumes nothing.
use Rattle.std.specs.Prelude.{◌≡◌, ℕ, ◌+◌, List, Result, Ok, Err}
use Rattle.std.specs.Fn.{Once, FnOnceTakesAtMut, FnOnceReturnsAtMut}
use Rattle.std.specs.Borrow.{MutBor}
use Rattle.rules.specs.declared.Refusal.{Refusal}
use Rattle.rules.specs.declared.Refusal.TheVariants.{NoSuccessor, BadInstruction}
use Rattle.rules.specs.Apply.{Patch, done, stopped}

-- The answer, with the instructions as they are left
abbrev pub patch_of : Result (Unit {0}) Refusal → List ℕ → Patch
patch_of (Ok u) xs = done xs
patch_of (Err r) xs = stopped r xs

-- An instruction that is refused, and a successor that is missing
abbrev pub invalid : ℕ → Result (Unit {0}) Refusal
invalid reason = Err (BadInstruction reason)

abbrev pub no_successor : ℕ → Result (Unit {0}) Refusal
no_successor i = Err (NoSuccessor (i + 1))

-- Lent any bytes, f leaves `to` of them.
pub record Changes {F : Type 0} (g : Once F (MutBor (List ℕ) × Unit {0}) (Unit {0} × (MutBor (List ℕ) × Unit {0}))) (f : F) (to : List ℕ → List ℕ) : Type 0 where
  pub takes : (xs : List ℕ) → FnOnceTakesAtMut g f xs
  pub leaves : (xs ys : List ℕ) → FnOnceReturnsAtMut g f xs tt ys → ys ≡ to xs
