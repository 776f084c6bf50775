-- `btf_pass::entry_word` meets its contract.
use mathlib.Core.Path.{◌∙◌, ap}
use Prim.Native.Nat.{ℕ, ◌+◌, ◌*◌}
use native.Mathlib.Omega.{arith}
use Rattle.word_read.specs.Num.{word}
use Rattle.btf_pass.proofs.PairLaws.{Place, column-place}
use Rattle.btf_pass.proofs.entry_word.Goals as goal
use Rattle.btf_pass.proofs.entry_word.Goals.{After-lesser_of}

-- where the word lies
abbrev PlaceAt : After-lesser_of → Type 0
PlaceAt c = let a = c.args in Place a.types.now a.from a.step c.lesser_of.result

place : (c : After-lesser_of) → PlaceAt c
place c = column-place _ _ _ _ _ c.requires c.lesser_of.ensures

pub overflow_mul-step : goal.overflow_mul-step
overflow_mul-step c = omega (arith, (place (goal.at.overflow_mul-step c).After-lesser_of).small)

pub overflow_cast-step : goal.overflow_cast-step
overflow_cast-step c = omega (arith, (place (goal.at.overflow_cast-step c).After-lesser_of).small)

pub overflow_add-from : goal.overflow_add-from
overflow_add-from c = omega (arith, (place (goal.at.overflow_add-from c).After-lesser_of).inside)

pub u32_in-requires : goal.u32_in-requires
u32_in-requires c = (place (goal.at.u32_in-requires c).After-lesser_of).inside

pub returns : goal.returns
returns c =
    let a = c.args in
    c.u32_in.ensures ∙ ap (λ (n : ℕ). word a.types.now (a.from + a.step * n)) c.lesser_of.ensures
