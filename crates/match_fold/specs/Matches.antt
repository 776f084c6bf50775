-- The rules' matches of what a record accesses.
use Rattle.btf_view.specs.View.{View}
use Rattle.rules.specs.declared.Value.{Value}
use Rattle.rules.specs.declared.Record.{Record}
use Rattle.rules.specs.Refusal.{Reply, bind}
use Rattle.rules.specs.Access.{Access}
use Rattle.rules.specs.Record.{matches, Matches}

-- The rules' matches of what a record accesses; an access that is refused ends all
abbrev pub matches_of : View → View → Record → Reply Access → Reply Value → Matches
matches_of L T r a mine = bind a (λ x. matches L T r x mine)
