-- Types, views and records from literals.
-- Assumes nothing.
use Rattle.std.specs.Prelude.{ℕ, List, [], ◌∷◌, length, get_or}
use Rattle.btf_kinds.specs.declared.Entry.{Entry}
use Rattle.btf_kinds.specs.Types.{Ty, void}
use Rattle.btf_view.specs.Text.{text_at}
use Rattle.btf_view.specs.View.{View}
use Rattle.rules.specs.declared.Record.{Record}
use Rattle.btf_kinds.specs.Names.{INT, ARRAY, STRUCT, ENUM}

-- A member, or a variant: where its name begins, its type, its offset or value
abbrev pub listed : ℕ → ℕ → ℕ → Entry
listed n t v = record { name = n; typ = t; low = v; high = 0 }

-- An INT of some bytes with its encoding word: the bits, and 2^24 where it is signed
abbrev pub int_of : ℕ → ℕ → Ty
int_of s x = record { kind = INT; name = 0; vlen = 0; flag = 0; size = s; ref = 0; index = 0; extra = x; entries = [] }

-- A struct: name, bytes, members
abbrev pub struct : ℕ → ℕ → List Entry → Ty
struct n s es = record { kind = STRUCT; name = n; vlen = length es; flag = 0; size = s; ref = 0; index = 0; extra = 0; entries = es }

-- An array of some elements of a type
abbrev pub array_of : ℕ → ℕ → Ty
array_of t n = record { kind = ARRAY; name = 0; vlen = 0; flag = 0; size = 0; ref = t; index = 1; extra = n; entries = [] }

-- An ENUM, the flag 1 where it is signed
abbrev pub enum : ℕ → List Entry → Ty
enum f es = record { kind = ENUM; name = 0; vlen = length es; flag = f; size = 4; ref = 0; index = 0; extra = 0; entries = es }

-- A modifier of a type, or a pointer to it
abbrev pub to : ℕ → ℕ → Ty
to k t = record { kind = k; name = 0; vlen = 0; flag = 0; size = 0; ref = t; index = 0; extra = 0; entries = [] }

-- Types from id 1 on, and strings
abbrev pub view_from : List Ty → List ℕ → View
view_from ts z = record { count = length ts; room = length z; typ = λ i. get_or (void ∷ ts) i void; text = text_at z }

-- A record: offset, type id, where its access string begins, kind
abbrev pub rec : ℕ → ℕ → ℕ → ℕ → Record
rec o t a k = record { offset = o; typ = t; access = a; kind = k }
