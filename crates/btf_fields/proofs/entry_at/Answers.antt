-- `btf_fields::entry_at` meets its contract.
use mathlib.Core.Path.{◌∙◌}
use native.Mathlib.Omega.{arith}
use Rattle.btf_kinds.proofs.FieldLaws.{member, enumerator, parameter, variable, wide, no_entry_lem}
use Rattle.btf_fields.proofs.entry_at.Goals as goal

pub returns-in-6 : goal.returns-in-6
returns-in-6 c =
    c.made.ensures ∙ rw c.in-6.is
    (enumerator _ _ _ _ _ c.u32_at-a.ensures c.word_at-b.ensures c.word_at-c.ensures)

pub returns-in-13 : goal.returns-in-13
returns-in-13 c =
    c.made-in-13.ensures
    ∙ rw c.in-13.is (parameter _ _ _ _ _ c.u32_at-a.ensures c.word_at-b.ensures c.word_at-c.ensures)

pub returns-in-15 : goal.returns-in-15
returns-in-15 c =
    c.made-in-15.ensures
    ∙ rw c.in-15.is (variable _ _ _ _ _ c.u32_at-a.ensures c.word_at-b.ensures c.word_at-c.ensures)

pub returns-in-19 : goal.returns-in-19
returns-in-19 c =
    c.made-in-19.ensures
    ∙ rw c.in-19.is (wide _ _ _ _ _ c.u32_at-a.ensures c.word_at-b.ensures c.word_at-c.ensures)

pub returns-in-4 : goal.returns-in-4
returns-in-4 c = c.made-in-4.ensures ∙ member _ _ _ _ _ c.u32_at-a.ensures c.word_at-b.ensures c.word_at-c.ensures _ (omega arith) (omega arith)

pub returns-in_default : goal.returns-in_default
returns-in_default c = let r = c.in_default.in_default-own.rest in no_entry_lem _ _ _ r.0.0.0.1 r.0.0.1 r.0.1 r.1 (λ e. omega arith) (λ e. omega arith)

pub returns-in_default-2 : goal.returns-in_default-2
returns-in_default-2 c = let r = c.in_default.in_default-own.rest in no_entry_lem _ _ _ r.0.0.0.1 r.0.0.1 r.0.1 r.1 (λ e. omega arith) (λ e. omega arith)
