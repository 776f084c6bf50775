-- `leamugi_numbers::type_numbers` meets its contract.
use Rattle.btf_view.proofs.PlaceLaws.{at_place, entries-long}
use Rattle.leamugi_numbers.specs.Numbers.{type_numbers}
use Rattle.leamugi_numbers.proofs.type_numbers.Goals as goal

pub returns : goal.returns
unfolding type_numbers
returns c =
    let place = c.place_of-at.ensures.0 in
    let there = at_place _ _ _ _ place in
    let many = entries-long _ _ _ _ _ place in
    rw (c.kind_at-kind.ensures, c.size_at-size.ensures, c.ref_at-referred.ensures, c.count_at-count.ensures, many, c.name_length-long.ensures, c.name_at-name.ensures, there)
    at c.said_numbers.ensures
