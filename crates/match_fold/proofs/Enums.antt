-- The variants of a candidate's enum, from the index j on: the first of the name decides what the candidate gives.
-- Assumes nothing.
use Prim.Native.Nat.{ℕ, suc, ◌+◌, ◌≤◌, ◌<◌}
use mathlib.Core.Path.{◌≡◌, ap, ◌∙◌}
use mathlib.Core.Bool.{Bool, true, false, cond}
use mathlib.Core.List.{List}
use native.Mathlib.Omega.{arith}
use native.Mathlib.Numerals.{add-one}
use lib.ListN.{length, drop, drop_of_length-le}
use Rattle.btf_kinds.specs.declared.Entry.{Entry}
use Rattle.btf_view.specs.View.{View}
use Rattle.rules.specs.declared.Refusal.{Refusal}
use Rattle.rules.specs.declared.Kept.{Kept}
use Rattle.rules.specs.Kinds.{is_enum}
use Rattle.rules.specs.Fields.{nth_entry}
use Rattle.rules.specs.Types.{resolve, same_flavourless}
use Rattle.rules.specs.Matching.{variant_named, variant_event, enum_event, matched}
use Rattle.rules.proofs.Turns.{variant-turn}
use Rattle.match_candidate.specs.Events.{variant_worth, enum_events}
use Rattle.std.specs.Prelude.{Err, None, Ok, Option, Some}

-- The candidate id, whose enum is e, at its variant j; the fold goes on behind it, at id + 1.
pub record Scanning (T : View) (k : ℕ) (name : List ℕ) (id e m j : ℕ) : Type 0 where
  pub all : m ≡ length (T.typ e).entries
  pub here : enum_events T k name id ≡ variant_event k (T.typ e) (variant_named T.text name (drop j (T.typ e).entries))

module _ (T : View) (k : ℕ) (name : List ℕ) (id : ℕ) where
  pub enum-refused : {r : Refusal} → resolve T.typ id ≡ Err r → enum_events T k name id ≡ Err r
  unfolding enum_events
  enum-refused h = rw h

  pub enum-other : {e : ℕ} → resolve T.typ id ≡ Ok e → is_enum (T.typ e).kind ≡ false → enum_events T k name id ≡ Ok None
  unfolding enum_events enum_event
  enum-other r b = rw (r, b)

  pub scanning-first : {e : ℕ} → resolve T.typ id ≡ Ok e → is_enum (T.typ e).kind ≡ true → {m : ℕ} → m ≡ length (T.typ e).entries → Scanning T k name id e m 0
  unfolding enum_events enum_event
  scanning-first r b a = record { all = a; here = rw (r, b) }

module _ {T : View} {k : ℕ} {name : List ℕ} {id e m j : ℕ} (v : Scanning T k name id e m j) where
  pub scanning-none : m ≤ j → enum_events T k name id ≡ Ok None
  unfolding variant_named
  scanning-none h = v.here ∙ rw (drop_of_length-le (T.typ e).entries {i = j} (omega (arith, v.all)))

  module _ (h : j < m) {x : Entry} {same : Bool} (p : x ≡ nth_entry (T.typ e) j) (o : same ≡ same_flavourless name (T.text x.name)) where
    turned : enum_events T k name id ≡ variant_event k (T.typ e) (cond same (Some x) (variant_named T.text name (drop (suc j) (T.typ e).entries)))
    turned =
        let g : j < length (T.typ e).entries = omega (arith, v.all) in
        v.here ∙ ap (variant_event k (T.typ e)) (variant-turn T.text name (T.typ e) j g) ∙ rw (o, p)

    pub scanning-found : same ≡ true → enum_events T k name id ≡ matched 0 (variant_worth k (T.typ e) x)
    scanning-found b = turned ∙ rw b

    pub scanning-next : same ≡ false → Scanning T k name id e m (j + 1)
    scanning-next b = record { all = v.all; here = rw add-one (turned ∙ rw b) }
