-- `access_text::Few::push` meets its contract.
use borrow.Author.Rules.{rules}
use Rattle.access_text.proofs.Items.{one_more, no_more}
use Rattle.access_text.proofs.Few.push.Goals as goal

pub returns-then-self-lt-MAX_PARTS : goal.returns-then-self-lt-MAX_PARTS
returns-then-self-lt-MAX_PARTS g c =
    one_more c.args.self.now.items c.args.self.now.count c.args.item (search rules) c.if-self-lt-MAX_PARTS.true

pub returns-else-self-lt-MAX_PARTS : goal.returns-else-self-lt-MAX_PARTS
returns-else-self-lt-MAX_PARTS g c =
    no_more c.args.self.now.items c.args.self.now.count c.args.item (search rules) c.if-self-lt-MAX_PARTS.false
