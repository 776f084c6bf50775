-- What a match is worth (document 01, section 6; the crate's compute_field_relocation, compute_enum_relocation, compute_type_relocation).
use Rattle.std.specs.Prelude.{ℕ, zero, suc, ◌+◌, ◌-◌, ◌*◌, ◌/◌, cond, ◌&&◌, leb, eqb, Err, None, Ok, Option, Some}
use Rattle.rules.specs.Kinds.{is_enum, field_byte_offset, field_byte_size, field_exists, field_signed, field_lshift, type_id_target, type_exists}
use Rattle.btf_kinds.specs.Names.{INT, ENUM}
use Rattle.word_read.specs.Sign.{extended}
use Rattle.btf_kinds.specs.declared.Entry.{Entry}
use Rattle.btf_kinds.specs.Types.{Ty}
use Rattle.rules.specs.declared.Accessor.{Accessor}
use Rattle.rules.specs.declared.Value.{Value}
use Rattle.rules.specs.declared.Load.{Load}
use Rattle.rules.specs.declared.Refusal.TheVariants.{Unresolved, WrongKind}
use Rattle.rules.specs.Fields.{kflag, int_signed, bitfield_size, raw_value, nth_entry}
use Rattle.rules.specs.Refusal.{Reply, bind}
use Rattle.rules.specs.Types.{resolve, size_of, sized, own_size}
use Rattle.rules.specs.Access.{Access, whole, variant, path, last}

-- A value with nothing to compare
abbrev pub plain : ℕ → Value
plain n = record { number = n; size = 0; typ = None }

-- Fields

-- Where the s bytes that hold a bit begin, on a multiple of s
abbrev pub aligned : ℕ → ℕ → ℕ
aligned bits s = bits / 8 / s * s

-- A field's end, counted in bits from a byte offset
abbrev pub end_from : ℕ → ℕ → ℕ → ℕ
end_from offset bits width = bits + width - 8 * offset

-- The smallest of s, 2s, 4s, .. bytes that hold a bitfield, none being tried past 8; with f tries
unfoldable pub bitfield_load : ℕ → ℕ → ℕ → ℕ → Reply Load
bitfield_load zero bits width s = Err Unresolved
bitfield_load (suc f) bits width s =
    let doubled = bitfield_load f bits width (2 * s) in
    cond (leb (end_from (aligned bits s) bits width) (8 * s)) (Ok (record { offset = aligned bits s; size = s; width = width }))
    (cond (leb 8 s) (Err Unresolved) doubled)

-- A bitfield begins with its type's own size, which must be there and not be 0. From 1 byte it takes three doublings to 8.
abbrev pub bitfield : ℕ → ℕ → Option ℕ → Reply Load
bitfield bits width None = Err Unresolved
bitfield bits width (Some s) = cond (eqb s 0) (Err Unresolved) (bitfield_load 4 bits width s)

-- A plain field of s bytes
abbrev pub plain_load : ℕ → ℕ → Load
plain_load bits s = record { offset = bits / 8; size = s; width = 8 * s }

-- 1 for a signed INT or enum
unfoldable pub signedness : Ty → ℕ
signedness t = cond (eqb t.kind INT && int_signed t) 1 (cond (is_enum t.kind && kflag t) 1 0)

-- 64 less some bits, where there are no more than 64
abbrev pub shift : ℕ → Reply Value
shift n = cond (leb n 64) (Ok (plain (64 - n))) (Err Unresolved)

-- The value of a field of type t at these bits, by kind; `offset` is its value for the kind that asks for the offset
unfoldable pub load_value : ℕ → ℕ → Ty → Load → Value → Reply Value
load_value k bits t l offset =
    cond (eqb k field_byte_offset) (Ok offset)
    (cond (eqb k field_byte_size) (Ok (plain l.size))
    (cond (eqb k field_signed) (Ok (plain (signedness t)))
    (cond (eqb k field_lshift) (shift (end_from l.offset bits l.width))
    (shift l.width))))

-- A plain member of type j (t) and size s: its offset is compared by both.
unfoldable pub plain_value : ℕ → ℕ → ℕ → Ty → ℕ → Reply Value
plain_value k bits j t s = load_value k bits t (plain_load bits s) (record { number = bits / 8; size = s; typ = Some j })

-- A bitfield: its offset is not compared.
unfoldable pub bitfield_value : ℕ → ℕ → Ty → Load → Reply Value
bitfield_value k bits t l = load_value k bits t l (plain l.offset)

-- The value of a member of type j, w bits wide (0: no bitfield)
unfoldable pub member_value : (ℕ → Ty) → ℕ → ℕ → ℕ → ℕ → Reply Value
member_value typ k bits w j =
    cond (eqb w 0) (sized (size_of typ j) (plain_value k bits j (typ j)))
    (bind (bitfield bits w (own_size (typ j))) (bitfield_value k bits (typ j)))

-- The value of an element of type j
unfoldable pub element_value : (ℕ → Ty) → ℕ → ℕ → ℕ → Reply Value
element_value typ k bits j =
    cond (eqb k field_byte_offset) (sized (size_of typ j) (λ s. Ok (record { number = bits / 8; size = s; typ = Some j })))
    (cond (eqb k field_byte_size) (sized (size_of typ j) (λ s. Ok (plain s))) (Err WrongKind))

-- The value of a field, by the last accessor of its path and its bit offset
unfoldable pub field_value : (ℕ → Ty) → ℕ → Accessor → ℕ → Reply Value
field_value typ k a bits =
    let m = nth_entry (typ a.typ) a.index in
    let w = bitfield_size (typ a.typ) m in
    cond (eqb k field_exists) (Ok (plain 1))
    (cond a.named (bind (resolve typ m.typ) (member_value typ k bits w)) (element_value typ k bits a.typ))

-- Enums

-- The value of a variant of the enum t: 32 bits with their sign extended to 64 where it is a signed ENUM, else as it stands
unfoldable pub variant_value : Ty → Entry → ℕ
variant_value t e = cond (eqb t.kind ENUM && kflag t) (extended e.low) (raw_value e)

-- Types

-- The value of the type i as a whole
unfoldable pub type_value : (ℕ → Ty) → ℕ → ℕ → Reply Value
type_value typ k i =
    cond (eqb k type_id_target) (Ok (plain i))
    (cond (eqb k type_exists) (Ok (plain 1))
    (sized (size_of typ i) (λ n. Ok (plain n))))

-- The record's own, local, value. It is refused where a field has none; of types and enums nothing is asked.
unfoldable pub local_value : (ℕ → Ty) → ℕ → Access → Reply Value
local_value typ k whole = Ok (plain 0)
local_value typ k (variant i x) = Ok (plain 0)
local_value typ k (path steps bits) = field_value typ k (last steps) bits
