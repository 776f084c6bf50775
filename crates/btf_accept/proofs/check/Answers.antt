-- `btf_accept::check` meets its contract.
use Rattle.btf_accept.proofs.WholeLaws.{check-strings, check-types}
use Rattle.btf_accept.proofs.MarkLaws.{unmarked_fault}
use Rattle.btf_accept.proofs.check.Goals as goal

pub returns-then-not-strings_fine : goal.returns-then-not-strings_fine
returns-then-not-strings_fine c =
    record {
      answer = check-strings _ _ _ c.strings_fine.ensures c.if-not-strings_fine.true;
      marks = unmarked_fault c.args.types.now
          c.args.marks.now 0;
    }

pub returns : goal.returns
returns c =
    record {
      answer = check-types _ _ _ c.strings_fine.ensures c.if-not-strings_fine.false
          c.survey.ensures.answer;
      marks = c.survey.ensures.marks;
    }
