-- Small views: a type to stand alone, and types by id.
use Prim.Native.Nat.{ℕ, zero, suc}
use mathlib.Core.Bool.{cond}
use mathlib.Core.List.{List, [], ◌∷◌}
use lib.Dec.{leb}
use lib.ListN.{length, get_or}
use Rattle.btf_kinds.specs.declared.Entry.{Entry}
use Rattle.btf_kinds.specs.Types.{Ty, void}
use Rattle.btf_view.specs.View.{View}
use Rattle.btf_kinds.specs.Names.{INT, ARRAY, FUNC_PROTO}

-- A kind with a size word
abbrev pub sized_as : ℕ → ℕ → Ty
sized_as k s = record { kind = k; name = 0; vlen = 0; flag = 0; size = s; ref = 0; index = 0; extra = 0; entries = [] }

-- A kind that refers to another type
abbrev pub refers : ℕ → ℕ → Ty
refers k i = record { kind = k; name = 0; vlen = 0; flag = 0; size = 0; ref = i; index = 0; extra = 0; entries = [] }

-- A kind with a name, from an offset of the strings on
abbrev pub named : ℕ → ℕ → Ty
named k n = record { kind = k; name = n; vlen = 0; flag = 0; size = 4; ref = 0; index = 0; extra = 0; entries = [] }

-- An INT of 4 bytes whose bits begin at an offset
abbrev pub int_at : ℕ → Ty
int_at word = record { kind = INT; name = 0; vlen = 0; flag = 0; size = 4; ref = 0; index = 0; extra = word; entries = [] }

abbrev pub int : Ty
int = int_at 32

-- n elements of a type
abbrev pub array : ℕ → ℕ → Ty
array n i = record { kind = ARRAY; name = 0; vlen = 0; flag = 0; size = 0; ref = i; index = 0; extra = n; entries = [] }

abbrev pub parameter : ℕ → Entry
parameter i = record { name = 0; typ = i; low = 0; high = 0 }

abbrev pub parameters : List ℕ → List Entry
parameters [] = []
parameters (i ∷ is) = parameter i ∷ parameters is

-- A function of these parameters, with a return type
abbrev pub function : List ℕ → ℕ → Ty
function is i = record { kind = FUNC_PROTO; name = 0; vlen = length is; flag = 0; size = 0; ref = i; index = 0; extra = 0; entries = parameters is }

-- Types by id, from 1 on
abbrev pub types : List Ty → ℕ → Ty
types ts i = get_or (void ∷ ts) i void

-- Void, then the ids up to n with a link to the next each, then what is given
abbrev pub linked : (ℕ → Ty) → ℕ → (ℕ → Ty) → ℕ → Ty
linked link n rest zero = void
linked link n rest (suc i) = cond (leb (suc i) n) (link (suc (suc i))) (rest (suc i))

-- INTs at all ids
abbrev pub ints : ℕ → Ty
ints i = int

-- A view of types by id and one name at offset 1
abbrev pub view_of : (ℕ → Ty) → List ℕ → View
view_of typ name = record { count = 0; room = 0; typ = typ; text = λ o. cond (leb 1 o) name [] }
