-- Bytes of small BTFs, laid out as the kernel's document says: headers, types, names.
use Rattle.std.specs.Prelude.{ℕ, ◌+◌, ◌*◌, ◌/◌, ◌%◌, ◌^◌, List, [], ◌∷◌, ◌++◌, length}
use Prim.Native.String.{String}
use Rattle.rules.specs.Ascii.{ascii}

-- A number of 32 bits
abbrev pub le32 : ℕ → List ℕ
le32 n = n % 2 ^ 8 ∷ n / 2 ^ 8 % 2 ^ 8 ∷ n / 2 ^ 16 % 2 ^ 8 ∷ n / 2 ^ 24 % 2 ^ 8 ∷ []

-- A name with its zero
abbrev pub name : String → List ℕ
name n = ascii n ++ (0 ∷ [])

-- The twelve bytes of a type: name offset, kind, list length, size or type
abbrev pub common : ℕ → ℕ → ℕ → ℕ → List ℕ
common n k v s = le32 n ++ (le32 (k * 2 ^ 24 + v) ++ le32 s)

-- An entry of a struct: name offset, type, bit offset
abbrev pub member_of : ℕ → ℕ → ℕ → List ℕ
member_of n t b = le32 n ++ (le32 t ++ le32 b)

-- A variant of an enum: name offset, value
abbrev pub variant : ℕ → ℕ → List ℕ
variant n v = le32 n ++ le32 v

-- An unsigned integer, a struct of one member and of two, an enum of one variant, a typedef, an array
abbrev pub int : ℕ → List ℕ
int size = common 0 1 0 size ++ le32 (8 * size)

abbrev pub struct1 : ℕ → ℕ → List ℕ → List ℕ
struct1 n size m = common n 4 1 size ++ m

abbrev pub struct2 : ℕ → ℕ → List ℕ → List ℕ → List ℕ
struct2 n size a b = common n 4 2 size ++ (a ++ b)

abbrev pub enum1 : ℕ → List ℕ → List ℕ
enum1 n v = common n 6 1 4 ++ v

abbrev pub typedef : ℕ → ℕ → List ℕ
typedef n t = common n 8 0 t

abbrev pub array : ℕ → ℕ → ℕ → List ℕ
array element index n = common 0 3 0 0 ++ (le32 element ++ (le32 index ++ le32 n))

-- A BTF: a header of 24 bytes, the types, the strings
abbrev pub btf : List ℕ → List ℕ → List ℕ
btf types strings =
    0x9f ∷ 0xeb ∷ 1 ∷ 0 ∷ le32 24 ++ (le32 0 ++ (le32 (length types) ++ (le32 (length types) ++ (le32 (length strings) ++ (types ++ strings)))))

-- Laid out otherwise: a header of 28 bytes, the strings, two bytes of nothing, the types
abbrev pub btf_otherwise : List ℕ → List ℕ → List ℕ
btf_otherwise types strings =
    0x9f ∷ 0xeb ∷ 1 ∷ 0 ∷ le32 28 ++ (le32 (length strings + 2) ++ (le32 (length types) ++ (le32 0 ++ (le32 (length strings)
    ++ (7 ∷ 7 ∷ 7 ∷ 7 ∷ strings ++ (7 ∷ 7 ∷ types))))))

-- A record, and its bytes
abbrev pub relocation : ℕ → ℕ → ℕ → ℕ → List ℕ
relocation offset typ access kind = le32 offset ++ (le32 typ ++ (le32 access ++ le32 kind))
