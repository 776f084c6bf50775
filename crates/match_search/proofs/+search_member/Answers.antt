-- `match_search::search_member`, which calls itself one level down, meets its contract.
use Rattle.std.proofs.Common.{rules, arith, sym, ◌≡◌, ◌∙◌, Err}
use Rattle.match_search.proofs.Searching.{searching-first, searching-end, search-endless, searching-full, searching-deep, searching-refused, searching-back, searching-settled, searching-past, searching-other, searched-parts}
use Rattle.match_search.proofs.+search_member.Goals as goal
use Rattle.match_search.proofs.+search_member.Goals.{then-text-eq0+else-deepest+in_ok-up+else-is_some, else-text-eq0+else-same_text}

pub returns-in_err-i : goal.returns-in_err-i
returns-in_err-i t c =
    let r : c.from_residual.result ≡ Err c.in_err-i.field-0.0 = search rules in
    r ∙ search-endless _ _ c.args.want _ _ (sym c.resolve_type.ensures ∙ c.in_err-i.was)

pub loop-k-init : goal.loop-k-init
loop-k-init t c = searching-first _ _ c.args.want _ _ (sym c.resolve_type.ensures ∙ c.in_ok-i.was) c.text_of-name.ensures c.members_of-k-end.ensures

pub returns-then-want-eq-MAX_SPEC_LEN : goal.returns-then-want-eq-MAX_SPEC_LEN
returns-then-want-eq-MAX_SPEC_LEN t c = searching-full c.loop-k.invariant c.loop-k-test.true c.if-want-eq-MAX_SPEC_LEN.true

pub returns-then-deepest : goal.returns-then-deepest
returns-then-deepest t c =
    searching-deep c.loop-k.invariant c.loop-k-test.true c.if-want-eq-MAX_SPEC_LEN.false c.entry_of-m.ensures c.text_of-text.ensures c.if-text-eq0.true
    c.if-deepest.true

pub grow-requires : goal.grow-requires
grow-requires t c =
    omega (arith, searched-parts _ _ c.args.want _ _ c.search_member-below.ensures, c.requires, c.if-deepest.false)

pub returns-in_err-up : goal.returns-in_err-up
returns-in_err-up t c =
    let r : c.from_residual-in_err-up.result ≡ Err c.in_err-up.field-0.0 = search rules in
    r ∙ searching-refused c.loop-k.invariant c.loop-k-test.true c.if-want-eq-MAX_SPEC_LEN.false c.entry_of-m.ensures c.text_of-text.ensures c.if-text-eq0.true
    c.if-deepest.false c.search_member-below.ensures c.member_bits.ensures c.grow.ensures c.in_err-up.was

pub returns-then-is_some : goal.returns-then-is_some
returns-then-is_some t c =
    searching-back c.loop-k.invariant c.loop-k-test.true c.if-want-eq-MAX_SPEC_LEN.false c.entry_of-m.ensures c.text_of-text.ensures c.if-text-eq0.true
    c.if-deepest.false c.search_member-below.ensures c.member_bits.ensures c.grow.ensures c.in_ok-up.was (sym c.is_some.ensures ∙ c.if-is_some.true)

pub returns-then-same_text : goal.returns-then-same_text
returns-then-same_text t c =
    c.settle.ensures
    ∙ searching-settled c.loop-k.invariant c.loop-k-test.true c.if-want-eq-MAX_SPEC_LEN.false c.entry_of-m.ensures c.text_of-text.ensures c.if-text-eq0.false
    c.same_text.ensures c.if-same_text.true

pub loop-k-preserved : goal.loop-k-preserved
loop-k-preserved t c =
    elim c.if-text-eq0.branch [
      | then-text-eq0+else-deepest+in_ok-up+else-is_some w ↦ searching-past c.loop-k.invariant c.loop-k-test.true c.if-want-eq-MAX_SPEC_LEN.false c.entry_of-m.ensures
          c.text_of-text.ensures w.if-text-eq0.true w.if-deepest.false w.search_member-below.ensures w.member_bits.ensures w.grow.ensures w.in_ok-up.was
          (sym w.is_some.ensures ∙ w.if-is_some.false)
      | else-text-eq0+else-same_text w ↦ searching-other c.loop-k.invariant c.loop-k-test.true c.if-want-eq-MAX_SPEC_LEN.false c.entry_of-m.ensures
          c.text_of-text.ensures w.if-text-eq0.false w.same_text.ensures w.if-same_text.false
    ]

pub returns : goal.returns
returns t c = searching-end c.loop-k.invariant c.loop-k-test.false
