-- A BTF as what is above reads it: types by id and names by offset. One view is the document's, of the bytes alone;
-- the other goes by a lent table, as the code does. Where a read was accepted they are the same view (Agree).
-- Assumes nothing.
use Rattle.std.specs.Prelude.{ℕ, zero, suc, ◌-◌, Bool, cond, ◌&&◌, List, leb, ltb, length, get_or}
use Rattle.btf_kinds.specs.Types.{Ty, void, type_at, after}
use Rattle.btf_accept.specs.declared.Btf.{Btf}
use Rattle.btf_accept.specs.Sections.{types_in, strings_in}
use Rattle.btf_view.specs.Text.{text_at}

pub record View : Type 0 where
  -- the last id
  pub count : ℕ
  -- how many bytes the strings have
  pub room : ℕ
  pub typ : ℕ → Ty
  pub text : ℕ → List ℕ

-- an id that has a type
abbrev pub taken : ℕ → ℕ → Bool
taken last i = ltb 0 i && leb i last

-- where the type begins that has j types before it
unfoldable pub off : List ℕ → ℕ → ℕ → ℕ
off t at zero = at
off t at (suc j) = off t (after t at) j

-- the type with an id, in a section of so many types
unfoldable pub typ : List ℕ → ℕ → ℕ → Ty
typ t last i = cond (taken last i) (type_at t (off t 0 (i - 1))) void

-- the view of a types section and a strings section
abbrev pub view_of : List ℕ → List ℕ → ℕ → View
view_of t z last = record { count = last; room = length z; typ = typ t last; text = text_at z }

-- the document's view of bytes
abbrev pub doc_view : List ℕ → Btf → View
doc_view s b = view_of (types_in s b) (strings_in s b) b.last

-- the type that stands where a table says
unfoldable pub tab_typ : List ℕ → List ℕ → ℕ → ℕ → Ty
tab_typ s table last i = cond (taken last i && ltb i (length table)) (type_at s (get_or table i 0)) void

-- the view by a table: of any bytes, any table, any places
abbrev pub tab_view : List ℕ → List ℕ → Btf → View
tab_view s table b =
    record { count = b.last; room = length (strings_in s b); typ = tab_typ s table b.last; text = text_at (strings_in s b) }
