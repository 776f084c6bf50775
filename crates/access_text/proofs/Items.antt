-- Laws of a list by value, whose table has 64 places: one more, where there is room and where there is none.
-- Assumes nothing.
use mathlib.Core.Path.{◌≡◌, sym, ◌∙◌}
use mathlib.Core.List.{List, [], ◌∷◌, ◌++◌}
use Prim.Native.Nat.{ℕ, ◌+◌, ◌≤◌, ◌<◌}
use native.Mathlib.Omega.{arith}
use lib.ListN.{length, take, set, length-append}
use lib.Seq.{take_all, length-take-le}
use Rattle.std.proofs.lemmas.List.{take_more_set, take-append-le}

module _ {A : Type 0} (table : List A) (count : ℕ) (item : A) (h : length table ≡ 64) where
  pub one_more : count < 64 → take (count + 1) (set table count item) ≡ take 64 (take count table ++ item ∷ [])
  one_more room =
      take_more_set table count item (omega arith)
      ∙ sym (take_all 64 (take count table ++ item ∷ []) (omega (arith, length-append (take count table) (item ∷ []), length-take-le count table (omega arith))))

  pub no_more : 64 ≤ count → take count table ≡ take 64 (take count table ++ item ∷ [])
  no_more full =
      let all : take count table ≡ table = take_all count table (omega arith) in
      sym (rw all (take-append-le 64 table (item ∷ []) (omega arith) ∙ take_all 64 table (omega arith)))
