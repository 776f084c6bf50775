-- `btf_pass::pass` meets its contract.
use native.Mathlib.Omega.{arith}
use Rattle.btf_pass.specs.Shape.{Seen}
use Rattle.btf_pass.proofs.StepLaws.{typed_range, step-short, step_typed}
use Rattle.btf_pass.proofs.pass.Goals as goal
use Rattle.btf_pass.proofs.pass.Goals.{After-kind_in-kind}

-- the twelve bytes that are read before the kind is looked at
abbrev SeenAt : After-kind_in-kind → Type 0
SeenAt c =
    let a = c.args in
    Seen a.types.now a.at c.kind_in-kind.result c.vlen_in-count.result c.u32_in-name.result c.u32_in-typ.result

seen : (c : After-kind_in-kind) → SeenAt c
seen c = record {
  room = omega arith;
  kind = c.kind_in-kind.ensures;
  vlen = c.vlen_in-count.ensures;
  name = c.u32_in-name.ensures;
  third = c.u32_in-typ.ensures;
}

pub returns-then-types-at : goal.returns-then-types-at
returns-then-types-at c = step-short _ _ (omega arith)

pub returns-then-types-at-lt-BTF_TYPE_BYTES : goal.returns-then-types-at-lt-BTF_TYPE_BYTES
returns-then-types-at-lt-BTF_TYPE_BYTES c = step-short _ _ (omega arith)

pub pass_low-requires : goal.pass_low-requires
pass_low-requires c = (seen (goal.at.pass_low-requires c).After-kind_in-kind, c.if-kind-lt-BTF_KIND_TYPEDEF.true)

pub pass_high-requires : goal.pass_high-requires
pass_high-requires c = (seen (goal.at.pass_high-requires c).After-kind_in-kind, c.if-bare.false)

pub returns-then-bare : goal.returns-then-bare
returns-then-bare c = step_typed (seen (goal.at.returns-then-bare c).After-kind_in-kind) (typed_range c.if-kind-lt-BTF_KIND_TYPEDEF.false c.if-bare.true)
