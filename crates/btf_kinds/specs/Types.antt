-- A type as it is read from bytes: one record for all kinds, with 0 and [] where a kind has none of it.
-- Assumes nothing.
use Rattle.std.specs.Prelude.{ℕ, zero, suc, ◌+◌, ◌*◌, cond, List, [], ◌∷◌, eqb, leb}
use Rattle.word_read.specs.Num.{word}
use Rattle.btf_kinds.specs.declared.Entry.{Entry}
use Rattle.btf_kinds.specs.Kinds.{vlen_in, kind_in, flag_in, is_array, extra_bytes, entry_bytes, trailing, has_size, has_type, entry_of}

pub record Ty : Type 0 where
  pub kind : ℕ
  -- where its name begins in the strings
  pub name : ℕ
  -- the info word's list length and kind flag
  pub vlen : ℕ
  pub flag : ℕ
  -- the third word where it is a size
  pub size : ℕ
  -- the type it refers to: the third word where that is an id, an array's element
  pub ref : ℕ
  -- an array's index type
  pub index : ℕ
  -- an INT's encoding, a VAR's linkage, a DECL_TAG's component, an array's length
  pub extra : ℕ
  pub entries : List Entry

-- id 0, and every id that no type has
abbrev pub void : Ty
void = record { kind = 0; name = 0; vlen = 0; flag = 0; size = 0; ref = 0; index = 0; extra = 0; entries = [] }

-- the info word of the type at a place, and its kind
abbrev pub info_at : List ℕ → ℕ → ℕ
info_at s at = word s (at + 4)

abbrev pub kind_at : List ℕ → ℕ → ℕ
kind_at s at = kind_in (info_at s at)

-- the i-th word behind the twelve bytes, where the kind has it
unfoldable pub extra_at : ℕ → ℕ → List ℕ → ℕ → ℕ
extra_at i k s at = cond (leb (4 * i + 4) (extra_bytes k)) (word s (at + (12 + 4 * i))) 0

-- an entry of a kind, at a place
unfoldable pub entry_at : ℕ → List ℕ → ℕ → Entry
entry_at k s at = entry_of k (word s at) (word s (at + 4)) (cond (eqb (entry_bytes k) 12) (word s (at + 8)) 0)

-- so many entries from a place on
unfoldable pub entries_at : ℕ → List ℕ → ℕ → ℕ → List Entry
entries_at k s at zero = []
entries_at k s at (suc n) = entry_at k s at ∷ entries_at k s (at + entry_bytes k) n

-- how many entries a type has: none where its kind has no list, whatever the info word says
unfoldable pub entry_count : ℕ → ℕ → ℕ
entry_count k v = cond (eqb (entry_bytes k) 0) 0 v

abbrev pub count_at : List ℕ → ℕ → ℕ
count_at s at = entry_count (kind_at s at) (vlen_in (info_at s at))

-- the type at a place
unfoldable pub type_at : List ℕ → ℕ → Ty
type_at s at =
    let k = kind_at s at in
    record {
      kind = k;
      name = word s at;
      vlen = vlen_in (info_at s at);
      flag = flag_in (info_at s at);
      size = cond (has_size k) (word s (at + 8)) 0;
      ref = cond (has_type k) (word s (at + 8)) (cond (is_array k) (extra_at 0 k s at) 0);
      index = extra_at 1 k s at;
      extra = cond (is_array k) (extra_at 2 k s at) (extra_at 0 k s at);
      entries = entries_at k s (at + 12) (count_at s at);
    }

-- how many bytes the type at a place takes, and where the next begins
unfoldable pub type_bytes : List ℕ → ℕ → ℕ
type_bytes s at = 12 + trailing (kind_at s at) (vlen_in (info_at s at))

abbrev pub after : List ℕ → ℕ → ℕ
after s at = at + type_bytes s at
