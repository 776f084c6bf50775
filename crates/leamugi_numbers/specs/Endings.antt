-- How a call ended, as numbers (document 01, section 3).
use Rattle.std.specs.Prelude.{ℕ, get_or}
use Rattle.rules.specs.declared.Refusal.{Refusal}
use Rattle.rules.specs.declared.Ending.{Ending}
use Rattle.rules.specs.declared.Said.{Said}
use Rattle.rules.specs.Refusal.{number, returned}
use Rattle.rules.specs.Call.{ending_said}
use Rattle.leamugi_numbers.specs.declared.Numbers.{Numbers}
use Rattle.leamugi_numbers.specs.Numbers.{numbered}

-- A refusal of record k after n were applied: its number; n, and what document 01 returns beside the number
unfoldable pub refusal_numbers : ℕ → ℕ → Refusal → Numbers
refusal_numbers n k r = numbered (number r) n (get_or (returned k r) 0 0) (get_or (returned k r) 1 0) 0 0

-- An ending after n records: its number; n, and what document 01 returns beside the number
unfoldable pub ending_numbers : ℕ → Ending → Numbers
ending_numbers n e = let ns = ending_said e in numbered (get_or ns 0 0) n (get_or ns 1 0) (get_or ns 2 0) 0 0

-- What a call said
abbrev pub said_numbers : Said → Numbers
said_numbers s = ending_numbers s.applied s.ending
