-- Laws of `digits`, as a loop over the bytes goes by them.
-- Assumes nothing.
use mathlib.Core.Path.{◌≡◌, refl}
use mathlib.Core.Bool.{Bool, true, false, cond, ◌&&◌}
use mathlib.Core.List.{List, [], ◌∷◌}
use Prim.Native.Nat.{ℕ, suc, ◌+◌, ◌-◌, ◌*◌, ◌≤◌, ◌<◌}
use native.Mathlib.Numerals.{add-one}
use native.Mathlib.Omega.{arith}
use borrow.Author.Tests.{lt-ltb, le-ltb, ltb-false, ne_eqb}
use lib.ListN.{length, get_or, drop, drop_of_length-le}
use lib.Seq.{drop-cons}
use lib.Dec.{ltb}
use Rattle.rules.specs.Limits.{number_limit}
use Rattle.rules.specs.Access.{is_digit, digits, decimal, part}
use Rattle.access_text.specs.Text.{one_digit}
use Rattle.std.specs.Prelude.{None, Option, Some}

-- a number only grows
grows : (n : ℕ) (xs : List ℕ) → number_limit ≤ n → digits n xs ≡ None
unfolding digits
grows n [] h = rw (le-ltb n number_limit h)
grows n (x ∷ xs) h = rw (grows (10 * n + (x - 48)) xs (omega arith)) (either (is_digit x))
  where
    either : (b : Bool) → ◌≡◌ {A = Option ℕ} (cond b None None) None
    either true = refl
    either false = refl

-- the digits that are left after one
abbrev onward : Option ℕ → List ℕ → Option ℕ
onward None xs = None
onward (Some n) xs = digits n xs

turn : (n x : ℕ) (xs : List ℕ) → digits n (x ∷ xs) ≡ onward (one_digit n x) xs
unfolding digits one_digit
turn n x xs = go (is_digit x) (ltb (10 * n + (x - 48)) number_limit) refl
  where
    go : (b t : Bool) → ltb (10 * n + (x - 48)) number_limit ≡ t
        → cond b (digits (10 * n + (x - 48)) xs) None ≡ onward (cond (b && t) (Some (10 * n + (x - 48))) None) xs
    go false t e = refl
    go true true e = refl
    go true false e = grows (10 * n + (x - 48)) xs (ltb-false (10 * n + (x - 48)) number_limit e)

pub decimal_none : (xs : List ℕ) → length xs ≡ 0 → decimal xs ≡ None
unfolding decimal
decimal_none [] h = refl
decimal_none (x ∷ xs) h = absurd (omega arith)

pub decimal_some : (xs : List ℕ) → 0 < length xs → decimal xs ≡ digits 0 xs
unfolding decimal
decimal_some [] h = absurd (omega arith)
decimal_some (x ∷ xs) h = refl

-- a turn of the loop, which holds n before the byte i
pub digits-turn : (n : ℕ) (xs : List ℕ) (i : ℕ) → i < length xs → digits n (drop i xs) ≡ onward (one_digit n (get_or xs i 0)) (drop (i + 1) xs)
digits-turn n xs i h = rw (add-one i, drop-cons xs i 0 h) (turn n (get_or xs i 0) (drop (suc i) xs))

pub digits-end : (n : ℕ) (xs : List ℕ) (i : ℕ) → length xs ≤ i → n < number_limit → digits n (drop i xs) ≡ Some n
unfolding digits
digits-end n xs i g h = rw (drop_of_length-le xs g, lt-ltb n number_limit h)

pub ruleset digit_steps = (decimal_none, decimal_some, digits-turn, digits-end)

-- a part without a sign
pub part_unsigned : (xs : List ℕ) → (length xs ≡ 0 → ⊥) → (get_or xs 0 0 ≡ 43 → ⊥) → part xs ≡ decimal xs
unfolding part
part_unsigned [] l h = absurd (l refl)
part_unsigned (x ∷ xs) l h = rw (ne_eqb x 43 h)

pub part_none : (xs : List ℕ) → length xs < 1 → part xs ≡ decimal xs
unfolding part decimal
part_none [] h = refl
part_none (x ∷ xs) h = absurd (omega arith)

pub ruleset part_steps = (part_none, part_unsigned)
