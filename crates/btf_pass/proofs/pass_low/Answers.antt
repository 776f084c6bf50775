-- `btf_pass::pass_low` meets its contract.
use native.Mathlib.Omega.{arith}
use mathlib.Core.Logic.{inl}
use mathlib.Core.Path.{◌∙◌}
use Rattle.btf_pass.proofs.StepLaws.{listed, typed_keys, bare_keys, no_kind, step_unknown, step_typed, step_bare, step_members, step_enumerators, step-int, step-array}
use Rattle.btf_pass.proofs.pass_low.Goals as goal

pub past_pairs-requires : goal.past_pairs-requires
past_pairs-requires c = listed c.requires.0 _ (omega arith) (omega arith)

pub past_names-requires : goal.past_names-requires
past_names-requires c = listed c.requires.0 _ (omega arith) (omega arith)

pub returns-in-2 : goal.returns-in-2
returns-in-2 c = step_typed c.requires.0 (typed_keys (inl c.in-2.is))

pub returns-in-1 : goal.returns-in-1
returns-in-1 c = c.past_int.ensures ∙ step-int c.requires.0 c.in-1.is

pub returns-in-3 : goal.returns-in-3
returns-in-3 c = c.past_array.ensures ∙ step-array c.requires.0 c.in-3.is

pub returns-in_default : goal.returns-in_default
returns-in_default c = step_unknown c.requires.0 (no_kind (omega (arith, c.in_default.in_default-own.rest, c.if-kind-lt-BTF_KIND_STRUCT.true)))

pub returns-then-kind-lt-BTF_KIND_ENUM : goal.returns-then-kind-lt-BTF_KIND_ENUM
returns-then-kind-lt-BTF_KIND_ENUM c = c.past_pairs.ensures ∙ step_members c.requires.0 c.if-kind-lt-BTF_KIND_STRUCT.false c.if-kind-lt-BTF_KIND_ENUM.true

pub returns-then-kind-lt-BTF_KIND_FWD : goal.returns-then-kind-lt-BTF_KIND_FWD
returns-then-kind-lt-BTF_KIND_FWD c = c.past_names.ensures ∙ step_enumerators c.requires.0 (omega (arith, c.if-kind-lt-BTF_KIND_FWD.true, c.if-kind-lt-BTF_KIND_ENUM.false))

pub returns-else-kind-lt-BTF_KIND_FWD : goal.returns-else-kind-lt-BTF_KIND_FWD
returns-else-kind-lt-BTF_KIND_FWD c = step_bare c.requires.0 (bare_keys (inl (omega (arith, c.requires.1, c.if-kind-lt-BTF_KIND_FWD.false))))
