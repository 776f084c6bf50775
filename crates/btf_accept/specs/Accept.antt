-- Document 01, sections 3 and 4: which bytes are a BTF. Byte limit, header, strings, each type in turn, then names and ids in id order.
-- Assumes nothing.
use Rattle.std.specs.Prelude.{ℕ, zero, suc, ◌+◌, Bool, true, cond, ◌&&◌, List, [], ◌∷◌, leb, ltb, length}
use Rattle.btf_kinds.specs.declared.Entry.{Entry}
use Rattle.btf_kinds.specs.Types.{Ty, type_at, after}
use Rattle.btf_pass.specs.Good.{good}
use Rattle.btf_accept.specs.declared.Btf.{Btf}
use Rattle.btf_accept.specs.declared.Head.{Head}
use Rattle.btf_accept.specs.declared.Head.TheVariants.{Sections, Broken}
use Rattle.btf_accept.specs.declared.Scan.{Scan}
use Rattle.btf_accept.specs.declared.Scan.TheVariants.{Count, Stop, Many}
use Rattle.btf_accept.specs.declared.Whole.{Whole}
use Rattle.btf_accept.specs.declared.Whole.TheVariants.{Accepted, Faulty, Over}
use Rattle.btf_accept.specs.Limits.{max_bytes, max_types}
use Rattle.btf_accept.specs.Sections.{head_of, types_in, strings_in, strings_fine}

-- the types from `at` on, n before it, `left` more allowed: how many there are in all, or the first fault, or too many
unfoldable pub scan : List ℕ → ℕ → ℕ → ℕ → Scan
scan t zero at n = cond (ltb at (length t)) Many (Count n)
scan t (suc left) at n =
    let rest = scan t left (after t at) (n + 1) in
    cond (ltb at (length t)) (cond (good t at) rest (Stop (n + 1))) (Count n)

-- a name lies in the strings, a type's id is at most the last
abbrev pub entry_fits : ℕ → ℕ → Entry → Bool
entry_fits room last e = ltb e.name room && leb e.typ last

-- so it is in every entry of a list
unfoldable pub all_fit : ℕ → ℕ → List Entry → Bool
all_fit room last [] = true
all_fit room last (e ∷ es) = entry_fits room last e && all_fit room last es

-- and in a type with its entries: what a kind has not is 0, which fits
unfoldable pub fits : ℕ → ℕ → Ty → Bool
fits room last ty = ltb ty.name room && (leb ty.ref last && (leb ty.index last && all_fit room last ty.entries))

-- the first of `left` types from `at` on, n before it, whose names or ids do not fit; 0 where all do
unfoldable pub unfit : List ℕ → ℕ → ℕ → ℕ → ℕ → ℕ → ℕ
unfit t room last zero at n = 0
unfit t room last (suc left) at n =
    let rest = unfit t room last left (after t at) (n + 1) in cond (fits room last (type_at t at)) rest (n + 1)

-- n types, unless one of them is unfit
abbrev pub first_or : ℕ → ℕ → Scan
first_or n zero = Count n
first_or n (suc i) = Stop (suc i)

-- names and ids are looked at once every type has passed
abbrev pub then_fits : List ℕ → ℕ → Scan → Scan
then_fits t room (Count n) = first_or n (unfit t room n n 0 0)
then_fits t room (Stop i) = Stop i
then_fits t room Many = Many

-- a types section and a strings section, at most `most` types: the last id, or the first fault, or too many
unfoldable pub checked : ℕ → List ℕ → List ℕ → Scan
checked most t z = cond (strings_fine z) (then_fits t (length z) (scan t most 0 0)) (Stop 0)

-- the same places, with the last id known
abbrev pub ending : Btf → ℕ → Btf
ending b n = record { types = b.types; strings = b.strings; last = n }

-- the answer of the sections, as the answer of the bytes
abbrev pub whole_of : Btf → Scan → Whole
whole_of b (Count n) = Accepted (ending b n)
whole_of b (Stop i) = Faulty i
whole_of b Many = Over

-- a header that is not one is the fault of id 0
abbrev pub in_sections : List ℕ → Head → Whole
in_sections s (Sections b) = whole_of b (checked max_types (types_in s b) (strings_in s b))
in_sections s Broken = Faulty 0

-- whether bytes are a BTF: where its sections lie and its last id; else the id of the first fault, or over a limit
unfoldable pub accepted : List ℕ → Whole
accepted s = cond (leb (length s) max_bytes) (in_sections s (head_of s)) Over
