-- The loop of `access_walk::walk_on`.
use mathlib.Core.Path.{◌≡◌}
use Prim.Native.Nat.{◌+◌, ◌≤◌}
use lib.ListN.{length, drop}
use Rattle.btf_view.specs.Lent.{lent}
use Rattle.rules.specs.Refusal.{bind}
use Rattle.rules.specs.Access.{begun, local_steps, found}
use Rattle.access_text.specs.Few.{items_of}
use Rattle.access_walk.specs.Replies.{walk_of}
use Rattle.access_walk.proofs.walk_on.Given as goal

abbrev pub invariant-loop-part : goal.invariant-loop-part
invariant-loop-part l = record {
  few : length (items_of l.walk.path) ≤ l.part-index + 1;
  rest : bind (local_steps (lent l.types).typ (walk_of l.walk) (drop l.part-index l.parts)) found
      ≡ bind (local_steps (lent l.types).typ (begun l.id l.index l.bits) l.parts) found;
}
