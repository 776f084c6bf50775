-- Document 01, section 4, first paragraph: the header, the two sections and the rule of the strings.
-- Assumes nothing.
use Rattle.std.specs.Prelude.{ℕ, ◌+◌, ◌-◌, Bool, cond, ◌&&◌, List, eqb, leb, ltb, length, get_or}
use Rattle.word_read.specs.Num.{half, word, section}
use Rattle.btf_accept.specs.declared.Btf.{Btf}
use Rattle.btf_accept.specs.declared.Place.{Place}
use Rattle.btf_accept.specs.declared.Head.{Head}
use Rattle.btf_accept.specs.declared.Head.TheVariants.{Sections, Broken}

-- the numbers of a header
abbrev pub magic : ℕ
magic = 0xEB9F

abbrev pub version : ℕ
version = 1

abbrev pub header_bytes : ℕ
header_bytes = 24

-- magic, version, and no flags
unfoldable pub begins : List ℕ → Bool
begins s = eqb (half s 0) magic && (eqb (get_or s 2 0) version && eqb (get_or s 3 0) 0)

-- where the header ends
abbrev pub header_length : List ℕ → ℕ
header_length s = word s 4

-- where the sections lie, offsets counted from the header's end, in a BTF whose last id is n
abbrev pub placed : List ℕ → ℕ → Btf
placed s n = record {
  types = record { start = header_length s + word s 8; size = word s 12 };
  strings = record { start = header_length s + word s 16; size = word s 20 };
  last = n;
}

-- a section lies inside the bytes
abbrev pub lies : Place → List ℕ → Bool
lies p s = leb (p.start + p.size) (length s)

-- a header of 24 bytes or more, and both sections inside the bytes; sums are of ℕ and do not wrap
unfoldable pub head_of : List ℕ → Head
head_of s =
    let b = placed s 0 in
    cond (leb header_bytes (length s) && (begins s && (leb header_bytes (header_length s) && (lies b.types s && lies b.strings s))))
    (Sections b) Broken

-- the bytes of a place, and the two sections
abbrev pub inside : List ℕ → Place → List ℕ
inside s p = section s p.start p.size

abbrev pub types_in : List ℕ → Btf → List ℕ
types_in s b = inside s b.types

abbrev pub strings_in : List ℕ → Btf → List ℕ
strings_in s b = inside s b.strings

-- at least one byte, first and last 0
unfoldable pub strings_fine : List ℕ → Bool
strings_fine z = ltb 0 (length z) && (eqb (get_or z 0 0) 0 && eqb (get_or z (length z - 1) 0) 0)
