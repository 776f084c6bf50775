-- The examples meet the hypotheses of demand 3, so that it holds of them: it is not empty.
use Prim.Native.Nat.{ℕ}
use mathlib.Core.Path.{◌≡◌, ap, ◌∙◌}
use mathlib.Core.List.{List, [], ◌++◌}
use native.Mathlib.Omega.{arith}
use Rattle.btf_accept.specs.declared.Btf.{Btf}
use Rattle.rules.specs.declared.Refusal.{Refusal}
use Rattle.rules.specs.declared.Record.{Record}
use Rattle.rules.specs.declared.Answer.{Answer}
use Rattle.rules.specs.Record.{Outcome, record_of}
use Rattle.rules.specs.Call.{Effect, records_in, relocate_of}
use Rattle.law_growth.specs.Demand3.{Extended, btf_in, is_refused, Settled, Demand3, is_done, Demand3Call}
use Rattle.law_growth.proofs.One.{none-harmful}
use Rattle.law_growth.proofs.Proved.{demand3, demand3_call}
use Rattle.worked_growth.specs.Worked.{mine, old, more_names, old_sections, insns, other_valued, list, grown_by, Example}
use Rattle.worked_growth.proofs.Computed.{worked, worked_calls}
use Rattle.std.specs.Prelude.{Option}

module _ {s' : List ℕ} {places : Btf} {more : List ℕ} {r : Record} {before : Answer} {left ids : List ℕ} {owed : Option Refusal} {after : Answer} {left' : List ℕ}
    (e : Example s' places more r before left ids owed after left') where
  abbrev pub grown : Extended old s'
  grown = record {
    old = old_sections;
    new = places;
    old_accepted = worked.old_is_btf;
    new_accepted = e.is_btf;
    more_types = more;
    more_strings = more_names;
    types = e.types;
    strings = e.strings;
  }

  pub settled : Settled (btf_in mine) (btf_in old) 0 insns r
  settled = record { accepted = ap (λ (o : Outcome). is_refused o.answer) e.was ∙ e.accepts; matched = e.matches }

  pub holds : Demand3 (btf_in mine) (btf_in old) (btf_in s') 0 insns r
  holds = demand3 grown mine 0 insns r settled

  -- What is seen by computing, by the theorem: without a harmful id all stays.
  pub stays : ids ≡ [] → record_of (btf_in mine) (btf_in s') 0 insns r ≡ record_of (btf_in mine) (btf_in old) 0 insns r
  stays h = holds.kept (none-harmful (btf_in mine) (btf_in old) (btf_in s') r (e.harm ∙ h))

-- The two calls of a list, against the old target and the one with another value
pub called : Demand3Call (btf_in mine) (btf_in old) (btf_in (grown_by other_valued)) 0 (insns ++ insns) (records_in list)
    (relocate_of mine 7 old 7 (insns ++ insns) 0 list) (relocate_of mine 7 (grown_by other_valued) 8 (insns ++ insns) 0 list)
called =
    demand3_call (grown worked.other_value) mine 7 7 8 (insns ++ insns) 0 list (omega arith)
    (record { done = ap (λ (e : Effect). is_done e.said.ending) worked_calls.before; matched = worked_calls.matched })
