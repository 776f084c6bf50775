-- Document 01, section 8: the cases marked * as a list of rows, under one statement: every row holds.
-- Assumes nothing.
use Rattle.std.specs.Prelude.{ℕ, ◌≡◌, List, [], ◌∷◌, Err, Ok, Some}
use Rattle.btf_kinds.specs.declared.Entry.{Entry}
use Rattle.btf_kinds.specs.Types.{Ty}
use Rattle.rules.specs.declared.Refusal.TheVariants.{BadAccess, BadInstruction}
use Rattle.rules.specs.declared.Value.{Value}
use Rattle.rules.specs.Kinds.{field_byte_offset, field_byte_size, field_lshift, field_rshift}
use Rattle.rules.specs.Refusal.{Reply}
use Rattle.rules.specs.Access.{parse}
use Rattle.rules.specs.Value.{plain, member_value, variant_value}
use Rattle.rules.specs.Apply.{Patch, done, stopped, patch}
use Rattle.rules.specs.Record.{writing}
use Rattle.worked_rules.specs.Make.{listed, int_of, enum, view_from}

-- 1 unsigned, 4 bytes; 2 unsigned, 8 bytes; 3 signed, 8 bytes
abbrev pub types : ℕ → Ty
types = (view_from (int_of 4 32 ∷ int_of 8 64 ∷ int_of 8 0x1000040 ∷ []) (0 ∷ [])).typ

-- A row: an access string and its parts; what a bitfield of type 1 is worth to a kind, at these bits and so many wide; an instruction
-- that is patched for a local value and the target's, and what becomes of it
pub data Row : Type 0 where
  parts : List ℕ → Reply (List ℕ) → Row
  bitfield : ℕ → ℕ → ℕ → Reply Value → Row
  insn : List ℕ → Value → Value → Patch → Row

abbrev pub Holds : Row → Type 0
Holds (parts text is) = parse text ≡ is
Holds (bitfield bits width k is) = member_value types k bits width 1 ≡ is
Holds (insn xs mine theirs is) = patch xs 0 (writing types types mine (Some theirs)) ≡ is

-- Every row of a list
abbrev pub Every : List Row → Type 0
Every [] = Unit {0}
Every (r ∷ rs) = Holds r × Every rs

-- A value that is compared by its size and type
abbrev pub sized_value : ℕ → ℕ → ℕ → Value
sized_value n s t = record { number = n; size = s; typ = Some t }

-- The value of the variant 0xFFFFFFFF of a signed enum, -1, and of an unsigned one
abbrev pub ones : Entry
ones = listed 0 0 0xFFFFFFFF

abbrev pub signed : ℕ
signed = variant_value (enum 1 (ones ∷ [])) ones

abbrev pub unsigned : ℕ
unsigned = variant_value (enum 0 (ones ∷ [])) ones

-- An instruction without imm; a 64-bit immediate over two, by their imms
abbrev pub short : ℕ → ℕ → ℕ → ℕ → List ℕ
short code registers off off' = code ∷ registers ∷ off ∷ off' ∷ 0 ∷ 0 ∷ 0 ∷ 0 ∷ []

abbrev pub move : ℕ → ℕ → List ℕ
move registers imm = 0xb7 ∷ registers ∷ 0 ∷ 0 ∷ imm ∷ 0 ∷ 0 ∷ 0 ∷ []

abbrev pub wide : ℕ → ℕ → List ℕ
wide a b = 0x18 ∷ 1 ∷ 0 ∷ 0 ∷ a ∷ a ∷ a ∷ a ∷ 0 ∷ 0 ∷ 0 ∷ 0 ∷ b ∷ b ∷ b ∷ b ∷ []

abbrev pub rows : List Row
rows =
    -- `0:1` is 0, 1; `+2` is 2; empty is 7; `0::1` is 7
    parts (48 ∷ 58 ∷ 49 ∷ []) (Ok (0 ∷ 1 ∷ []))
    ∷ parts (43 ∷ 50 ∷ []) (Ok (2 ∷ []))
    ∷ parts [] (Err BadAccess)
    ∷ parts (48 ∷ 58 ∷ 58 ∷ 49 ∷ []) (Err BadAccess)
    -- bits 35, size 5, 4-byte type: offset 4, left 56, right 59
    ∷ bitfield 35 5 field_byte_offset (Ok (plain 4))
    ∷ bitfield 35 5 field_lshift (Ok (plain 56))
    ∷ bitfield 35 5 field_rshift (Ok (plain 59))
    -- bits 30, size 4: offset 0, size 8, left 30, right 60
    ∷ bitfield 30 4 field_byte_offset (Ok (plain 0))
    ∷ bitfield 30 4 field_byte_size (Ok (plain 8))
    ∷ bitfield 30 4 field_lshift (Ok (plain 30))
    ∷ bitfield 30 4 field_rshift (Ok (plain 60))
    -- `b7 01 00 00 04 00 00 00`, value 16: imm 16; `b7 11 ..`: reason 1
    ∷ insn (move 0x01 4) (plain 0) (plain 16) (done (move 0x01 16))
    ∷ insn (move 0x11 4) (plain 0) (plain 16) (stopped (BadInstruction 1) (move 0x11 4))
    -- `61 12 08 ..`, value 16, unsigned 4 to unsigned 8: `79 12 10 ..`; target signed: reason 3, leaving `61 12 10 ..`
    ∷ insn (short 0x61 0x12 8 0) (sized_value 8 4 1) (sized_value 16 8 2) (done (short 0x79 0x12 0x10 0))
    ∷ insn (short 0x61 0x12 8 0) (sized_value 8 4 1) (sized_value 16 8 3) (stopped (BadInstruction 3) (short 0x61 0x12 0x10 0))
    -- 32767 writes `ff 7f`; 32768 is reason 2
    ∷ insn (short 0x61 0x12 8 0) (plain 0) (plain 32767) (done (short 0x61 0x12 0xff 0x7f))
    ∷ insn (short 0x61 0x12 8 0) (plain 0) (plain 32768) (stopped (BadInstruction 2) (short 0x61 0x12 8 0))
    -- code 0x18, signed enum -1: both imms `ff ff ff ff`; unsigned 0xFFFFFFFF: the second is 0
    ∷ insn (wide 0 7) (plain 0) (plain signed) (done (wide 0xff 0xff))
    ∷ insn (wide 0 7) (plain 0) (plain unsigned) (done (wide 0xff 0))
    ∷ []
