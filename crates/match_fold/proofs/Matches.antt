-- The folds are the rules' matches.
use Prim.Native.Nat.{ℕ}
use mathlib.Core.Path.{◌≡◌, refl}
use mathlib.Core.List.{List}
use Rattle.btf_view.specs.View.{View}
use Rattle.rules.specs.declared.Accessor.{Accessor}
use Rattle.rules.specs.declared.Value.{Value}
use Rattle.rules.specs.declared.Record.{Record}
use Rattle.rules.specs.Refusal.{Reply}
use Rattle.rules.specs.Fields.{nth_entry}
use Rattle.rules.specs.Access.{whole, variant, path}
use Rattle.rules.specs.Matching.{is_candidate, event}
use Rattle.rules.specs.Record.{event_at, matches}
use Rattle.match_candidate.specs.Events.{type_events, enum_events, field_events}
use Rattle.match_fold.specs.Folded.{among, folded_by, folded}

-- The folds are the rules' matches.

module _ (L T : View) (r : Record) (mine : Reply Value) where
  pub type_all : folded L T r (type_events L T r.kind r.typ) ≡ matches L T r whole mine
  unfolding folded_by among matches event_at is_candidate type_events event
  type_all = refl

  pub enum-all : (of x : ℕ) → folded L T r (enum_events T r.kind (L.text (nth_entry (L.typ of) x).name)) ≡ matches L T r (variant of x) mine
  unfolding folded_by among matches event_at is_candidate enum_events event
  enum-all of x = refl

  pub field-all : (steps : List Accessor) (bits : ℕ) → folded L T r (field_events L T r.kind mine steps) ≡ matches L T r (path steps bits) mine
  unfolding folded_by among matches event_at is_candidate field_events event
  field-all steps bits = refl
