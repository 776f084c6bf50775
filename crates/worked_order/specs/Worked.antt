-- Q-13 by computing: two records in both orders; and two that touch a common instruction, which differ.
use Rattle.std.specs.Prelude.{ℕ, ◌≡◌, Bool, true, false, List, [], ◌∷◌}
use Rattle.rules.specs.declared.Record.{Record}
use Rattle.rules.specs.Record.{record_of}
use Rattle.rules.specs.List.{list_of}
use Rattle.law_growth.specs.Demand3.{btf_in, is_refused}
use Rattle.worked_growth.specs.Worked.{mine, old}
use Rattle.law_order.specs.AnyOrder.{touches}

-- r1 = 0 as a 64-bit immediate over two instructions, then r1 = 9
abbrev pub three_insns : List ℕ
three_insns = 0x18 ∷ 1 ∷ 0 ∷ 0 ∷ 0 ∷ 0 ∷ 0 ∷ 0 ∷ 0 ∷ 0 ∷ 0 ∷ 0 ∷ 0 ∷ 0 ∷ 0 ∷ 0 ∷ 0xb7 ∷ 1 ∷ 0 ∷ 0 ∷ 9 ∷ 0 ∷ 0 ∷ 0 ∷ []

-- their imms after
abbrev pub imms : ℕ → ℕ → ℕ → List ℕ
imms a b c = 0x18 ∷ 1 ∷ 0 ∷ 0 ∷ a ∷ 0 ∷ 0 ∷ 0 ∷ 0 ∷ 0 ∷ 0 ∷ 0 ∷ b ∷ 0 ∷ 0 ∷ 0 ∷ 0xb7 ∷ 1 ∷ 0 ∷ 0 ∷ c ∷ 0 ∷ 0 ∷ 0 ∷ []

-- the value of X, 7, at instruction 0, which is of class 0 and so touches 1
abbrev pub value_of_x0 : Record
value_of_x0 = record { offset = 0; typ = 3; access = 19; kind = 11 }

-- the offset of s.b, 4, at instruction 2; and at 1
abbrev pub offset_at2 : Record
offset_at2 = record { offset = 16; typ = 2; access = 21; kind = 0 }

abbrev pub offset_at1 : Record
offset_at1 = record { offset = 8; typ = 2; access = 21; kind = 0 }

abbrev pub leaves : List Record → List ℕ
leaves rs = (list_of (btf_in mine) (btf_in old) 0 three_insns rs).insns

abbrev pub accepts : Record → Bool
accepts r = is_refused (record_of (btf_in mine) (btf_in old) 0 three_insns r).answer

pub record WorkedOrders : Type 0 where
  -- apart: both orders leave the same
  pub accepted_x : accepts value_of_x0 ≡ false
  pub accepted_2 : accepts offset_at2 ≡ false
  pub x_then_2 : leaves (value_of_x0 ∷ offset_at2 ∷ []) ≡ imms 7 0 4
  pub two_then_x : leaves (offset_at2 ∷ value_of_x0 ∷ []) ≡ imms 7 0 4
  -- not apart, instruction 1 is touched by both: each is accepted, and the orders differ
  pub accepted_1 : accepts offset_at1 ≡ false
  pub touched_x : touches 0 three_insns value_of_x0 1 ≡ true
  pub touched_1 : touches 0 three_insns offset_at1 1 ≡ true
  pub x_then_1 : leaves (value_of_x0 ∷ offset_at1 ∷ []) ≡ imms 7 4 0
  pub one_then_x : leaves (offset_at1 ∷ value_of_x0 ∷ []) ≡ imms 7 0 0
