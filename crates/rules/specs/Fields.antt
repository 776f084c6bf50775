-- What the words of a type and of its entries say (document 01, section 4; the kernel's BTF document).
use Rattle.std.specs.Prelude.{ℕ, ◌+◌, ◌*◌, ◌/◌, ◌%◌, ◌^◌, Bool, cond, get_or, eqb}
use Rattle.btf_kinds.specs.declared.Entry.{Entry}
use Rattle.btf_kinds.specs.Types.{Ty}
use Rattle.btf_view.specs.Places.{no_entry}

-- The kind flag
abbrev pub kflag : Ty → Bool
kflag t = eqb t.flag 1

-- An INT's extra word: its offset in bits 16 to 23, signed in bit 24
abbrev pub int_offset : Ty → ℕ
int_offset t = t.extra / 2 ^ 16 % 2 ^ 8

abbrev pub int_signed : Ty → Bool
int_signed t = eqb (t.extra / 2 ^ 24 % 2) 1

-- A member's bit offset and bitfield size: with the kind flag the offset word holds both, without it the offset alone.
abbrev pub member_bits : Ty → Entry → ℕ
member_bits t m = cond (kflag t) (m.low % 2 ^ 24) m.low

abbrev pub bitfield_size : Ty → Entry → ℕ
bitfield_size t m = cond (kflag t) (m.low / 2 ^ 24) 0

-- A variant's value as it stands: 32 bits of an ENUM, 64 of an ENUM64
abbrev pub raw_value : Entry → ℕ
raw_value e = e.low + 2 ^ 32 * e.high

-- The entry at an index: a member, a variant, a parameter
abbrev pub nth_entry : Ty → ℕ → Entry
nth_entry t k = get_or t.entries k no_entry
