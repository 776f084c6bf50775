-- What an id gives, and the fold by a kind and a name that were found before: it is the record's.
-- Assumes nothing.
use Prim.Native.Nat.{ℕ}
use mathlib.Core.Path.{◌≡◌, sym, refl}
use mathlib.Core.List.{List}
use Rattle.btf_view.specs.View.{View}
use Rattle.rules.specs.declared.Record.{Record}
use Rattle.rules.specs.declared.Accessor.{Accessor}
use Rattle.rules.specs.declared.Value.{Value}
use Rattle.rules.specs.Refusal.{Reply}
use Rattle.rules.specs.Matching.{field_match, field_event, Search, Event}
use Rattle.match_candidate.specs.Events.{enum_events, field_events}
use Rattle.match_fold.specs.Folded.{folded_by, folded}

module _ (L T : View) (r : Record) {own : ℕ} {name : List ℕ} (p : own ≡ (L.typ r.typ).kind) (q : name ≡ L.text (L.typ r.typ).name) where
  pub own-fold : (f : ℕ → Event) → folded_by T own name f ≡ folded L T r f
  own-fold f = rw (p, q)

  pub variant-fold : (k : ℕ) {v w : List ℕ} → v ≡ w → folded_by T own name (enum_events T k v) ≡ folded L T r (enum_events T k w)
  variant-fold k e = rw (p, q, e)

-- What a candidate gives to a path that was followed
pub field_given : (L T : View) (k : ℕ) (mine : Reply Value) (steps : List Accessor) (i : ℕ) {s : Search} {e : Event} → s ≡ field_match L T steps i → e ≡ field_event T.typ k mine s
    → field_events L T k mine steps i ≡ e
unfolding field_events
field_given L T k mine steps i p q = sym (rw p at q)
