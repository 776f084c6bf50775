-- The loop of `match_candidate::followed`.
use Rattle.btf_view.specs.Lent.{lent}
use Rattle.rules.specs.Matching.{field_match}
use Rattle.std.specs.Prelude.{take}
use Rattle.match_candidate.proofs.Fields.{Following}
use Rattle.match_candidate.proofs.followed.Given as goal

abbrev pub invariant-loop-k : goal.invariant-loop-k
invariant-loop-k l = Following (lent l.local) (lent l.target) l.path l.id (field_match (lent l.local) (lent l.target) (take 64 l.steps) l.id) l.place l.k
