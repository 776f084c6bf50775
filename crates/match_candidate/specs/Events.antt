-- What a candidate gives, by what the record accesses.
use Rattle.std.specs.Prelude.{ℕ, cond, List, eqb, Option, Some}
use Rattle.btf_kinds.specs.declared.Entry.{Entry}
use Rattle.btf_kinds.specs.Types.{Ty}
use Rattle.btf_view.specs.View.{View}
use Rattle.rules.specs.declared.Accessor.{Accessor}
use Rattle.rules.specs.declared.Value.{Value}
use Rattle.rules.specs.Kinds.{enum_exists}
use Rattle.rules.specs.Refusal.{Reply}
use Rattle.rules.specs.Types.{resolve, types_compatible}
use Rattle.rules.specs.Value.{plain, variant_value, type_value}
use Rattle.rules.specs.Matching.{type_event, enum_event_at, field_event, field_match, Event}

-- What the variant e of the enum t is worth to a record of kind k
abbrev pub variant_worth : ℕ → Ty → Entry → Option Value
variant_worth k t e = Some (plain (cond (eqb k enum_exists) 1 (variant_value t e)))

-- What a candidate gives to a record of kind k on the local type id as a whole
unfoldable pub type_events : View → View → ℕ → ℕ → ℕ → Event
type_events L T k id i = type_event (types_compatible L.typ T.typ id i) (type_value T.typ k i)

-- What a candidate gives to a record of kind k on a variant of this name
unfoldable pub enum_events : View → ℕ → List ℕ → ℕ → Event
enum_events T k name i = enum_event_at T k name (resolve T.typ i)

-- What a candidate gives to a record of kind k on a path of fields
unfoldable pub field_events : View → View → ℕ → Reply Value → List Accessor → ℕ → Event
field_events L T k mine steps i = field_event T.typ k mine (field_match L T steps i)
