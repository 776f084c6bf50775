-- `btf_accept::accept_marked` meets its contract.
use native.Mathlib.Omega.{arith}
use mathlib.Core.Path.{sym, ◌∙◌}
use Rattle.btf_accept.proofs.WholeLaws.{accept_over, accept_broken, accept_is, types-small}
use Rattle.btf_accept.proofs.MarkLaws.{unmarked_over, unmarked_bad, marked_in}
use Rattle.btf_accept.proofs.accept_marked.Goals as goal

pub returns-then-bytes-gt-MAX_BYTES : goal.returns-then-bytes-gt-MAX_BYTES
returns-then-bytes-gt-MAX_BYTES c = record { answer = accept_over _ c.if-bytes-gt-MAX_BYTES.true; marks = unmarked_over c.args.bytes.now c.args.marks.now }

pub returns-in_default : goal.returns-in_default
returns-in_default c = record { answer = accept_broken _ c.if-bytes-gt-MAX_BYTES.false (sym c.in_default.is ∙ c.header-h.ensures); marks = unmarked_bad c.args.bytes.now c.args.marks.now 0 }

pub check-c-requires : goal.check-c-requires
check-c-requires c = (omega (arith, types-small _ (sym c.in-Sections.is ∙ c.header-h.ensures) c.part.ensures, c.if-bytes-gt-MAX_BYTES.false), c.requires)

pub returns-in-Count : goal.returns-in-Count
returns-in-Count c =
    record {
      answer = accept_is _ c.if-bytes-gt-MAX_BYTES.false _ _ _ _ (sym c.in-Sections.is ∙ c.header-h.ensures) c.part.ensures c.part-2.ensures
          (sym c.in-Count.is ∙ c.check-c.ensures.answer);
      marks = marked_in _ c.part.ensures (c.check-c.ensures.marks.counted _ (sym c.in-Count.is));
    }

pub returns-in-Stop : goal.returns-in-Stop
returns-in-Stop c =
    record {
      answer = accept_is _ c.if-bytes-gt-MAX_BYTES.false _ _ _ _ (sym c.in-Sections.is ∙ c.header-h.ensures) c.part.ensures c.part-2.ensures
          (sym c.in-Stop.is ∙ c.check-c.ensures.answer);
      marks = unmarked_bad _ _ _;
    }

pub returns-in-Many : goal.returns-in-Many
returns-in-Many c =
    record {
      answer = accept_is _ c.if-bytes-gt-MAX_BYTES.false _ _ _ _ (sym c.in-Sections.is ∙ c.header-h.ensures) c.part.ensures c.part-2.ensures
          (sym c.in-Many.is ∙ c.check-c.ensures.answer);
      marks = unmarked_over _ _;
    }
