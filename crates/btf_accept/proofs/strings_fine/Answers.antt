-- `btf_accept::strings_fine` meets its contract.
use Rattle.btf_accept.proofs.HeaderLaws.{strings-none, strings-first, strings-last}
use Rattle.btf_accept.proofs.strings_fine.Goals as goal

pub returns-then-n-eq0 : goal.returns-then-n-eq0
returns-then-n-eq0 c = strings-none _ c.if-n-eq0.true

pub returns-then-strings-ne0 : goal.returns-then-strings-ne0
returns-then-strings-ne0 c = strings-first _ c.if-strings-ne0.true

pub returns : goal.returns
returns c = strings-last _ c.if-n-eq0.false c.if-strings-ne0.false
