-- Two other rules for conflicts (document 01, section 10 names them as slips), and what they would do to demand 3.
use Rattle.std.specs.Prelude.{ℕ, zero, suc, ◌≡◌, Bool, true, false, cond, Err, None, Ok, Option, Some}
use Rattle.btf_view.specs.View.{View}
use Rattle.rules.specs.declared.Refusal.TheVariants.{Conflict, Unresolved}
use Rattle.rules.specs.declared.Value.{Value}
use Rattle.rules.specs.declared.Match.{Match}
use Rattle.rules.specs.declared.Kept.{Kept}
use Rattle.rules.specs.declared.Record.{Record}
use Rattle.rules.specs.Refusal.{Reply}
use Rattle.rules.specs.Value.{plain}
use Rattle.rules.specs.Record.{agree, agrees, keep, first_of, conclude, Matches}
use Rattle.law_growth.specs.Demand3.{btf_in, gives, harmful, due}
use Rattle.worked_growth.specs.Worked.{mine, old, exists_b, offset_of_b, turned, later, grown_by}
use Rattle.rules.specs.Matching.{Event}

-- What is kept after a first match, by any test of agreement; with `early` the first conflict ends all
abbrev pub keep_by : (Match → Match → Bool) → Bool → Kept → ℕ → Match → Matches
keep_by agree early k i m =
    cond (agree k.first m) (Ok (Some k))
    (cond early (Err (Conflict i 1)) (Ok (Some (record { first = k.first; conflict = first_of k.count k.conflict i; count = suc k.count }))))

-- The fold of rules' Record, by such a rule
abbrev pub turn_by : (Match → Match → Bool) → Bool → Matches → ℕ → Event → Matches
turn_by agree early (Err q) i e = Err q
turn_by agree early (Ok kept) i (Ok None) = Ok kept
turn_by agree early (Ok None) i (Ok (Some m)) = Ok (Some (keep None i m))
turn_by agree early (Ok (Some k)) i (Ok (Some m)) = keep_by agree early k i m
turn_by agree early (Ok kept) i (Err q) = Err q

unfoldable pub over_by : (Match → Match → Bool) → Bool → (ℕ → Event) → Matches → ℕ → ℕ → Matches
over_by agree early f s i zero = s
over_by agree early f s i (suc n) = over_by agree early f (turn_by agree early s i (f i)) (suc i) n

-- What a record concludes by such a rule
unfoldable pub conclude_by : (Match → Match → Bool) → Bool → View → View → Record → Reply (Option Value)
conclude_by agree early L T r = conclude r.kind (over_by agree early (gives L T r) (Ok None) 0 (suc T.count))

-- Values only
abbrev pub values_only : Match → Match → Bool
values_only first m = agree first.value m.value

pub record Refuted : Type 0 where
  -- By the rule itself: refused, as is due
  pub rule : conclude_by agrees false (btf_in mine) (btf_in (grown_by turned)) exists_b ≡ Err (Conflict 7 1)
  -- Values only: id 7 is harmful, and the record is not refused
  pub harm : harmful (btf_in mine) (btf_in old) (btf_in (grown_by turned)) exists_b 7 ≡ true
  pub values_only_keeps : conclude_by values_only false (btf_in mine) (btf_in (grown_by turned)) exists_b ≡ Ok (Some (plain 1))
  -- The first conflict stops: 14 is due, and the record is refused with 10
  pub rule_later : conclude_by agrees false (btf_in mine) (btf_in (grown_by later)) offset_of_b ≡ Err Unresolved
  pub is_due : due (btf_in mine) (btf_in old) (btf_in (grown_by later)) offset_of_b ≡ Some Unresolved
  pub early_conflicts : conclude_by agrees true (btf_in mine) (btf_in (grown_by later)) offset_of_b ≡ Err (Conflict 7 1)
