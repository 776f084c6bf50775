-- A reading says what document 01 says of the bytes; five numbers that were said are there.
use Prim.Native.Nat.{ℕ, ◌+◌}
use mathlib.Core.List.{List}
use mathlib.Core.Path.{◌≡◌, refl}
use mathlib.Core.Bool.{Bool, true, false, cond}
use lib.Dec.{ltb}
use Rattle.btf_accept.specs.declared.Btf.{Btf}
use Rattle.btf_accept.specs.declared.Reading.TheVariants.{Read, TooShort}
use Rattle.btf_accept.specs.declared.Whole.{Whole}
use Rattle.btf_accept.specs.declared.Whole.TheVariants.{Accepted, Faulty, Over}
use Rattle.btf_accept.specs.Accept.{accepted}
use Rattle.btf_accept.specs.Table.{roomy, decode}
use Rattle.leamugi_numbers.specs.Numbers.{numbered, read_numbers, verdict}

-- A reading says just that
pub reading_says : (s : List ℕ) (room : ℕ) → read_numbers (decode s room) ≡ verdict room (accepted s)
unfolding decode read_numbers verdict
reading_says s room = go (accepted s)
  where
    fit : (b : Btf) (t : Bool) → read_numbers (cond t (Read b) (TooShort (b.last + 1))) ≡ cond t (read_numbers (Read b)) (numbered 3 (b.last + 1) 0 0 0 0)
    fit b true = refl
    fit b false = refl

    go : (w : Whole) → read_numbers (roomy room w) ≡ verdict room w
    go (Accepted b) = fit b (ltb b.last room)
    go (Faulty i) = refl
    go Over = refl
