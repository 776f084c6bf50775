-- Document 01, section 4, "a type is 12 bytes" to "none for PTR": what a kind's number says of a type.
-- Assumes nothing.
use Rattle.std.specs.Prelude.{ℕ, ◌+◌, ◌*◌, ◌/◌, ◌%◌, Bool, cond, ◌&&◌, ◌||◌, eqb, leb}
pub use Rattle.word_read.specs.Bits.{bit}
use Rattle.btf_kinds.specs.Names.{INT, PTR, ARRAY, STRUCT, UNION, ENUM, TYPEDEF, FUNC_PROTO, VAR, DATASEC, FLOAT, DECL_TAG, TYPE_TAG, ENUM64}
use Rattle.btf_kinds.specs.declared.Entry.{Entry}
use Rattle.btf_kinds.specs.declared.Tail.{Tail}

-- the three fields of an info word: bits 0 to 15, 24 to 28, and 31
abbrev pub vlen_in : ℕ → ℕ
vlen_in info = info % 65536

abbrev pub kind_in : ℕ → ℕ
kind_in info = info / 16777216 % 32

abbrev pub flag_in : ℕ → ℕ
flag_in info = info / 2147483648 % 2

-- a number from a to b
abbrev pub between : ℕ → ℕ → ℕ → Bool
between a k b = leb a k && leb k b

-- INT 1 to ENUM64 19
unfoldable pub is_kind : ℕ → Bool
is_kind k = between INT k ENUM64

-- an array keeps what it refers to behind its twelve bytes
abbrev pub is_array : ℕ → Bool
is_array k = eqb k ARRAY

-- bytes that follow whatever the list
unfoldable pub extra_bytes : ℕ → ℕ
extra_bytes k = cond (eqb k INT || eqb k VAR || eqb k DECL_TAG) 4 (cond (eqb k ARRAY) 12 0)

-- bytes of each entry
unfoldable pub entry_bytes : ℕ → ℕ
entry_bytes k = cond (eqb k STRUCT || eqb k UNION || eqb k DATASEC || eqb k ENUM64) 12 (cond (eqb k ENUM || eqb k FUNC_PROTO) 8 0)

-- all that follows, for a list of v entries
abbrev pub trailing : ℕ → ℕ → ℕ
trailing k v = extra_bytes k + entry_bytes k * v

-- both numbers at once, as the code has them
abbrev pub tail_of : ℕ → Tail
tail_of k = record { once = extra_bytes k; each = entry_bytes k }

-- the third word is a size; STRUCT to ENUM are struct, union and enum
unfoldable pub has_size : ℕ → Bool
has_size k = eqb k INT || between STRUCT k ENUM || between DATASEC k FLOAT || eqb k ENUM64

-- the third word is a type id; TYPEDEF to VAR are the modifiers, functions and variables
unfoldable pub has_type : ℕ → Bool
has_type k = eqb k PTR || between TYPEDEF k VAR || between DECL_TAG k TYPE_TAG

-- at most one of the bits 24, 25 and 26 of an INT's extra word, and not bit 27
unfoldable pub encodes : ℕ → Bool
encodes x = leb (bit 24 x + bit 25 x + bit 26 x) 1 && eqb (bit 27 x) 0

-- an entry: its name, its type, and two numbers; 0 where it has none
abbrev pub entry : ℕ → ℕ → ℕ → ℕ → Entry
entry n t a b = record { name = n; typ = t; low = a; high = b }

-- what the words of an entry are: a member's name, type and offset; an enumerator's name and value; a parameter's name and type;
-- a variable's type, offset and size; a wide enumerator's name and the halves of its value
unfoldable pub entry_of : ℕ → ℕ → ℕ → ℕ → Entry
entry_of k a b c =
    cond (eqb k STRUCT || eqb k UNION) (entry a b c 0)
    (cond (eqb k ENUM) (entry a 0 b 0)
    (cond (eqb k FUNC_PROTO) (entry a b 0 0)
    (cond (eqb k DATASEC) (entry 0 a b c)
    (cond (eqb k ENUM64) (entry a 0 b c)
    (entry 0 0 0 0)))))
