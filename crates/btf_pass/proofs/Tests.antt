-- Tests joined by `and`.
-- Assumes nothing.
use mathlib.Core.Path.{◌≡◌, refl}
use mathlib.Core.Bool.{Bool, true, false, ◌&&◌}

pub and_false : (x : Bool) → x && false ≡ false
and_false true = refl
and_false false = refl

pub and_true : (x : Bool) → x && true ≡ x
and_true true = refl
and_true false = refl

pub and_l : (a b : Bool) → a && b ≡ true → a ≡ true
and_l true b h = refl
and_l false b h = h

pub and_r : (a b : Bool) → a && b ≡ true → b ≡ true
and_r true b h = h
and_r false b h = cc
