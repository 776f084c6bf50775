-- The loop of `match_fold::type_matches`.
use Prim.Native.Nat.{suc, ◌-◌}
use Rattle.btf_view.specs.Lent.{lent}
use Rattle.match_candidate.specs.Events.{type_events}
use Rattle.match_fold.specs.Folded.{folded_by}
use Rattle.match_fold.proofs.Folding.{Folding}
use Rattle.match_fold.proofs.type_matches.Given as goal

abbrev pub invariant-loop-id : goal.invariant-loop-id
invariant-loop-id l =
    Folding (lent l.target) l.own l.name (type_events (lent l.local) (lent l.target) l.relo.kind l.relo.typ) l.target.btf.last
    (folded_by (lent l.target) l.own l.name (type_events (lent l.local) (lent l.target) l.relo.kind l.relo.typ)) l.kept l.from

abbrev pub decreases-loop-id : goal.decreases-loop-id
decreases-loop-id l = suc l.target.btf.last - l.from
