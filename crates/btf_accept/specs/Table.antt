-- Document 01, section 3: what a read answers over a lent table, and what it leaves in it.
-- Assumes nothing.
use Rattle.std.specs.Prelude.{ℕ, zero, suc, ◌+◌, cond, List, [], ◌∷◌, ◌++◌, ltb, length, drop}
use Rattle.btf_kinds.specs.Types.{after}
use Rattle.btf_accept.specs.declared.Whole.{Whole}
use Rattle.btf_accept.specs.declared.Whole.TheVariants.{Accepted, Faulty, Over}
use Rattle.btf_accept.specs.declared.Reading.{Reading}
use Rattle.btf_accept.specs.declared.Reading.TheVariants.{Read, NoBtf, TooBig, TooShort}
use Rattle.btf_accept.specs.Sections.{types_in}
use Rattle.btf_accept.specs.Accept.{accepted}

-- where n types from `at` on begin, in bytes in which the section begins at `base`
unfoldable pub offsets : List ℕ → ℕ → ℕ → ℕ → List ℕ
offsets t base at zero = []
offsets t base at (suc n) = (base + at) ∷ offsets t base (after t at) n

-- a table with entry 0 and the offsets of n types in front
unfoldable pub laid : List ℕ → ℕ → ℕ → List ℕ → List ℕ
laid t base n table = 0 ∷ (offsets t base 0 n ++ drop (suc n) table)

-- a table needs an entry for each type and one for id 0
abbrev pub roomy : ℕ → Whole → Reading
roomy room (Accepted b) = cond (ltb b.last room) (Read b) (TooShort (b.last + 1))
roomy room (Faulty i) = NoBtf i
roomy room Over = TooBig

-- what a read answers, over a table of `room` entries
unfoldable pub decode : List ℕ → ℕ → Reading
decode s room = roomy room (accepted s)

-- a table is written only where the answer is a BTF
abbrev pub laid_if : List ℕ → List ℕ → Reading → List ℕ
laid_if s table (Read b) = laid (types_in s b) b.types.start b.last table
laid_if s table (NoBtf i) = table
laid_if s table TooBig = table
laid_if s table (TooShort n) = table

-- what it leaves in the table: all as it was, unless the BTF is read
unfoldable pub tabled : List ℕ → List ℕ → List ℕ
tabled s table = laid_if s table (decode s (length table))
