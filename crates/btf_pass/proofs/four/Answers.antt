-- `btf_pass::four` meets its contract.
use Rattle.btf_pass.proofs.PairLaws.{four_is}
use Rattle.btf_pass.proofs.four.Goals as goal

pub returns : goal.returns
returns c =
    four_is _ _ _ _ _ _ c.entry_word.ensures c.entry_word-2.ensures c.entry_word-3.ensures c.entry_word-4.ensures
    c.larger_of-a.ensures c.larger_of-b.ensures c.larger_of.ensures c.larger_of-2.ensures
