-- `btf_pass::pass_high` meets its contract.
use native.Mathlib.Omega.{arith}
use mathlib.Core.Logic.{inl, inr}
use mathlib.Core.Path.{◌∙◌}
use Rattle.btf_pass.proofs.StepLaws.{listed, typed_keys, bare_keys, word_keys, no_kind-left, step_unknown, step_typed, step_bare, step-word, step-parameters, step-wide, step_variables}
use Rattle.btf_pass.proofs.pass_high.Goals as goal

pub past_pairs-requires : goal.past_pairs-requires
past_pairs-requires c = listed c.requires.0 _ (omega arith) (omega arith)

pub past_variables-requires : goal.past_variables-requires
past_variables-requires c = listed c.requires.0 _ (omega arith) (omega arith)

pub past_names-requires : goal.past_names-requires
past_names-requires c = listed c.requires.0 _ (omega arith) (omega arith)

pub returns-in-13 : goal.returns-in-13
returns-in-13 c = c.past_pairs.ensures ∙ step-parameters c.requires.0 c.in-13.is

pub returns-in-14 : goal.returns-in-14
returns-in-14 c = c.past_word.ensures ∙ step-word c.requires.0 (word_keys (inl c.in-14.is))

pub returns-in_default : goal.returns-in_default
returns-in_default c =
    c.past_variables.ensures
    ∙ step_variables c.requires.0 (omega (arith, c.in_default.in_default-own.rest, c.if-kind-lt-BTF_KIND_FLOAT.true, c.requires.1))

pub returns-in-16 : goal.returns-in-16
returns-in-16 c = step_bare c.requires.0 (bare_keys (inr c.in-16.is))

pub returns-in-17 : goal.returns-in-17
returns-in-17 c = c.past_word-in-17.ensures ∙ step-word c.requires.0 (word_keys (inr c.in-17.is))

pub returns-in-18 : goal.returns-in-18
returns-in-18 c = step_typed c.requires.0 (typed_keys (inr c.in-18.is))

pub returns-in-19 : goal.returns-in-19
returns-in-19 c = c.past_names.ensures ∙ step-wide c.requires.0 c.in-19.is

pub returns-in_default-kind : goal.returns-in_default-kind
returns-in_default-kind c = step_unknown c.requires.0 (no_kind-left (omega (arith, c.in_default-kind.in_default-kind-own.rest, c.if-kind-lt-BTF_KIND_FLOAT.false)))
