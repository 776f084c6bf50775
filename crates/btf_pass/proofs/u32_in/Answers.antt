-- `btf_pass::u32_in` meets its contract.
use native.Mathlib.Omega.{arith}
use Rattle.word_read.proofs.Laws.{four}
use Rattle.btf_pass.proofs.u32_in.Goals as goal

pub returns : goal.returns
returns c =
    let a = c.args in
    omega (arith, four a.bytes.now a.at)
