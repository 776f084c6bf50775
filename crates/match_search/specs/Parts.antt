-- The shape of the code, no rule: how many parts a target's access has by a search.
use Rattle.std.specs.Prelude.{ℕ, Err, None, Ok, Some}
use Rattle.rules.specs.Matching.{Search}

-- The parts that a search has come to; 0 where it found nothing
abbrev pub part_count : Search → ℕ
part_count (Ok (Some s)) = s.parts
part_count (Ok None) = 0
part_count (Err r) = 0
