-- `word_put::bits64` meets its contract.
use mir.Syntax.{w64}
use Rattle.word_put.proofs.SignLaws.{PlainAt, plain, OtherAt, other}
use Rattle.word_put.proofs.bits64.Goals as goal
use Rattle.word_put.proofs.bits64.Goals.{Else-v-ge0, Then-v-ge0}

on : (c : Then-v-ge0) → PlainAt w64 c.args.v
on c = plain w64 c.args.v c.ranges.v c.if-v-ge0.true

off : (c : Else-v-ge0) → OtherAt w64 c.args.v
off c = other w64 c.args.v c.ranges.v c.if-v-ge0.false

pub overflow_cast-result : goal.overflow_cast-result
overflow_cast-result c = (on (goal.at.overflow_cast-result c).Then-v-ge0).cast

pub overflow_sub-result : goal.overflow_sub-result
overflow_sub-result c = (off (goal.at.overflow_sub-result c).Else-v-ge0).sub

pub overflow_cast-result-else-v-ge0 : goal.overflow_cast-result-else-v-ge0
overflow_cast-result-else-v-ge0 c = (off (goal.at.overflow_cast-result-else-v-ge0 c).Else-v-ge0).cast

pub overflow_sub-result-else-v-ge0 : goal.overflow_sub-result-else-v-ge0
overflow_sub-result-else-v-ge0 c = (off (goal.at.overflow_sub-result-else-v-ge0 c).Else-v-ge0).le

pub returns-then-v-ge0 : goal.returns-then-v-ge0
returns-then-v-ge0 c = (on (goal.at.returns-then-v-ge0 c).Then-v-ge0).is

pub returns-else-v-ge0 : goal.returns-else-v-ge0
returns-else-v-ge0 c = (off (goal.at.returns-else-v-ge0 c).Else-v-ge0).is
