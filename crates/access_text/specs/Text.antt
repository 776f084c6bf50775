-- The steps in which the code takes an access string apart (document 01, section 5; what they come to is `parse` of the rules).
use Rattle.std.specs.Prelude.{ℕ, ◌+◌, ◌-◌, ◌*◌, cond, ◌&&◌, List, ltb, None, Option, Some, Ok, Err, Result}
use Rattle.rules.specs.Limits.{number_limit}
use Rattle.rules.specs.declared.Refusal.{Refusal}
use Rattle.rules.specs.Refusal.{Reply}
use Rattle.rules.specs.Access.{is_digit}
use Rattle.access_text.specs.declared.Few.{Few}
use Rattle.access_text.specs.Few.{items_of}

-- One digit after a number; none where it is no digit, or where the number passes 64 bits
unfoldable pub one_digit : ℕ → ℕ → Option ℕ
one_digit n x = cond (is_digit x && ltb (10 * n + (x - 48)) number_limit) (Some (10 * n + (x - 48))) None

-- The parts that were found, as a list
abbrev pub parts_of : Result (Few ℕ) Refusal → Reply (List ℕ)
parts_of (Ok parts) = Ok (items_of parts)
parts_of (Err r) = Err r
