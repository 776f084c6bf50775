-- What the exported calls say back, as numbers (document 01, section 3): the answer's own, and five beside it.
use Rattle.std.specs.Prelude.{ℕ, ◌+◌, ◌%◌, ◌^◌, List, [], ◌∷◌, cond, ltb, length, get_or}
use Rattle.btf_accept.specs.declared.Btf.{Btf}
use Rattle.btf_accept.specs.declared.Reading.{Reading}
use Rattle.btf_accept.specs.declared.Reading.TheVariants.{Read, NoBtf, TooBig, TooShort}
use Rattle.btf_accept.specs.declared.Whole.{Whole}
use Rattle.btf_accept.specs.declared.Whole.TheVariants.{Accepted, Faulty, Over}
use Rattle.btf_view.specs.View.{View}
use Rattle.btf_view.specs.Places.{no_entry}
use Rattle.leamugi_numbers.specs.declared.Numbers.{Numbers}

-- A number, and five beside it
abbrev pub numbered : ℕ → ℕ → ℕ → ℕ → ℕ → ℕ → Numbers
numbered number a b c d e = record { number = number; beside = a ∷ b ∷ c ∷ d ∷ e ∷ [] }

-- The five
abbrev pub five : Numbers → List ℕ
five n = n.beside

-- A reading: where types and strings begin, how long they are, and the last id; the id of the first fault; nothing; the entries needed
unfoldable pub read_numbers : Reading → Numbers
read_numbers (Read b) = numbered 0 b.types.start b.types.size b.strings.start b.strings.size b.last
read_numbers (NoBtf i) = numbered 1 i 0 0 0 0
read_numbers TooBig = numbered 2 0 0 0 0 0
read_numbers (TooShort n) = numbered 3 n 0 0 0 0

-- What document 01 says of bytes that are, or are not, a BTF, over a table of `room` entries: 0 with what was read, or 3 with the
-- entries needed; 1 with the id of the first fault; 2 over a limit
unfoldable pub verdict : ℕ → Whole → Numbers
verdict room (Accepted b) = cond (ltb b.last room) (read_numbers (Read b)) (numbered 3 (b.last + 1) 0 0 0 0)
verdict room (Faulty i) = numbered 1 i 0 0 0 0
verdict room Over = numbered 2 0 0 0 0 0

-- The BTF that the five numbers of a reading stand for; 0 for one that is missing
unfoldable pub btf_of : List ℕ → Btf
btf_of ns = record {
  types = record { start = get_or ns 0 0; size = get_or ns 1 0 };
  strings = record { start = get_or ns 2 0; size = get_or ns 3 0 };
  last = get_or ns 4 0 % 2 ^ 32;
}

-- What stands at an id: its kind; the name's offset in the strings and its length, the size, the type referred to, how many entries
unfoldable pub type_numbers : View → ℕ → Numbers
type_numbers T i =
    let t = T.typ i in numbered t.kind t.name (length (T.text t.name)) t.size t.ref (length t.entries)

-- The k-th entry: its type; its name's offset and length, its two words
unfoldable pub entry_numbers : View → ℕ → ℕ → Numbers
entry_numbers T i k =
    let e = get_or (T.typ i).entries k no_entry in numbered e.typ e.name (length (T.text e.name)) e.low e.high 0
