-- What falls where `match_search::search_member` calls itself, and what holds at each turn of its loop.
use Rattle.btf_view.specs.Lent.{lent}
use Rattle.match_search.proofs.Searching.{Searching}
use Rattle.match_search.proofs.+search_member.Given as goal

abbrev pub decreases-search_member : goal.decreases-search_member
decreases-search_member l = l.levels

abbrev pub invariant-loop-k : goal.invariant-loop-k
invariant-loop-k l =
    Searching (lent l.local) (lent l.target) l.want l.levels l.id l.i l.name l.k-end l.k
