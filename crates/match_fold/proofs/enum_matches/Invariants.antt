-- The loops of `match_fold::enum_matches`.
use Prim.Native.Nat.{suc, ◌-◌}
use Rattle.btf_view.specs.Lent.{lent}
use Rattle.match_candidate.specs.Events.{enum_events}
use Rattle.match_fold.specs.Folded.{folded_by}
use Rattle.match_fold.proofs.Folding.{Folding, Standing}
use Rattle.match_fold.proofs.Enums.{Scanning}
use Rattle.match_fold.proofs.enum_matches.Given as goal

abbrev pub invariant-loop-k : goal.invariant-loop-k
invariant-loop-k l = record {
  scan : Scanning (lent l.target) l.relo.kind l.variant l.id l.e l.k-end l.k;
  stand : Standing (lent l.target) l.own l.name (enum_events (lent l.target) l.relo.kind l.variant) l.target.btf.last
      (folded_by (lent l.target) l.own l.name (enum_events (lent l.target) l.relo.kind l.variant)) l.kept l.id;
}

abbrev pub decreases-loop-k : goal.decreases-loop-k
decreases-loop-k l = l.k-end - l.k

abbrev pub invariant-candidates : goal.invariant-candidates
invariant-candidates l =
    Folding (lent l.target) l.own l.name (enum_events (lent l.target) l.relo.kind l.variant) l.target.btf.last
    (folded_by (lent l.target) l.own l.name (enum_events (lent l.target) l.relo.kind l.variant)) l.kept l.from

abbrev pub decreases-candidates : goal.decreases-candidates
decreases-candidates l = suc l.target.btf.last - l.from
