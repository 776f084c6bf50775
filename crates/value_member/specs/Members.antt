-- The parts of a member's value, as the code asks for them.
use Rattle.std.specs.Prelude.{ℕ, ◌/◌, Some}
use Rattle.rules.specs.declared.Value.{Value}
use Rattle.btf_kinds.specs.Types.{Ty}
use Rattle.rules.specs.Fields.{bitfield_size, nth_entry}
use Rattle.rules.specs.Refusal.{Reply, bind}
use Rattle.rules.specs.Types.{resolve, size_of, sized, own_size}
use Rattle.rules.specs.Value.{bitfield, plain_value, bitfield_value, member_value}

-- The two halves of `member_value`: a member that is no bitfield, and one that is
abbrev pub plain_member : (ℕ → Ty) → ℕ → ℕ → ℕ → Reply Value
plain_member typ k bits j = sized (size_of typ j) (plain_value k bits j (typ j))

abbrev pub bitfield_member : (ℕ → Ty) → ℕ → ℕ → ℕ → ℕ → Reply Value
bitfield_member typ k bits w j = bind (bitfield bits w (own_size (typ j))) (bitfield_value k bits (typ j))

-- An offset with what it is compared by
abbrev pub offset_of : ℕ → ℕ → ℕ → Value
offset_of bits s j = record { number = bits / 8; size = s; typ = Some j }

-- A named field, of the type i
abbrev pub named_value : (ℕ → Ty) → ℕ → ℕ → ℕ → ℕ → Reply Value
named_value typ k i x bits =
    let m = nth_entry (typ i) x in
    bind (resolve typ m.typ) (member_value typ k bits (bitfield_size (typ i) m))
