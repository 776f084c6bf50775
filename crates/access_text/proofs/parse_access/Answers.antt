-- `access_text::parse_access` meets its contract.
use mathlib.Core.Path.{◌≡◌}
use Prim.Native.Nat.{◌<◌, ◌≤◌}
use native.Mathlib.Omega.{arith}
use borrow.Author.Rules.{rules}
use borrow.Author.Tests.{tests}
use lib.ListN.{length, get_or}
use Rattle.std.proofs.lemmas.Iterator.Consumers.{YieldsList-turn, YieldsList-end}
use Rattle.std.proofs.lemmas.Iterator.Splits.{YieldsList-from_slice_split}
use Rattle.std.proofs.lemmas.Grind.{common_steps}
use Rattle.std.proofs.lemmas.List.{length_push}
use Rattle.rules.specs.Access.{split}
use Rattle.access_text.proofs.Parts.{colon, split_same, begin, bad, more, good, many}
use Rattle.access_text.proofs.parse_access.Goals as goal
use Rattle.access_text.proofs.parse_access.Goals.{In-Some, In-None}

-- the loop's next part is that of the rules
one : (c : In-Some) →
    let ps = split c.args.text.now in
    let n = length c.loop-one.yielded in
    (n < length ps) × (c.in-Some.one.now ≡ get_or ps n c.in-Some.one.now)
one c =
    let t = YieldsList-turn
    (YieldsList-from_slice_split {s = c.into_iter-one-iterator.result} _ colon c.args.text.now
    (search rules) (search rules) (search rules) (λ x r q k. search (rules, tests)))
    c.loop-one.yielded _ c.loop-one.yielded_by _ _ c.in-Some.one c.in-Some.is c.next.ensures.steps in
    rw split_same at t

-- the loop ends with the rules' parts
none : (c : In-None) → length (split c.args.text.now) ≤ length c.loop-one.yielded
none c =
    let t = YieldsList-end
    (YieldsList-from_slice_split {s = c.into_iter-one-iterator.result} _ colon c.args.text.now
    (search rules) (search rules) (search rules) (λ x r q k. search (rules, tests)))
    c.loop-one.yielded _ c.loop-one.yielded_by _ _ c.in-None.is c.next.ensures.steps in
    omega (arith, rw split_same at t.1)

pub loop-one-init : goal.loop-one-init
loop-one-init c = rw c.new-parts.ensures (begin _)

pub returns-in_err-number : goal.returns-in_err-number
returns-in_err-number c =
    let b = bad c.loop-one.invariant (one (goal.at.returns-in_err-number c).In-Some) (grind (arith, common_steps)) in
    grind (arith, common_steps)

pub loop-one-preserved : goal.loop-one-preserved
loop-one-preserved c =
    let t = one (goal.at.loop-one-preserved c).In-Some in
    rw (length_push, c.push.ensures) (more c.loop-one.invariant t c.in_ok-number.number (grind (arith, common_steps)) _ c.count_in-count.ensures.long)

pub returns-then-too_many : goal.returns-then-too_many
returns-then-too_many c = many c.loop-one.invariant (none (goal.at.returns-then-too_many c).In-None) (search rules)

pub returns : goal.returns
returns c = good c.loop-one.invariant (none (goal.at.returns c).In-None) (search rules)
