-- Demand 3 on small BTFs (docs/DEMAND-3.md tells them as C): an extension that changes nothing, and one of each exception.
use Rattle.std.specs.Prelude.{ℕ, ◌^◌, ◌≡◌, true, false, List, [], ◌∷◌, ◌++◌, None, Option, Some}
use Rattle.btf_accept.specs.declared.Btf.{Btf}
use Rattle.btf_accept.specs.declared.Whole.TheVariants.{Accepted}
use Rattle.btf_accept.specs.Sections.{types_in, strings_in}
use Rattle.btf_accept.specs.Accept.{accepted}
use Rattle.rules.specs.declared.Refusal.{Refusal}
use Rattle.rules.specs.declared.Refusal.TheVariants.{Conflict, MaximumNesting, Unresolved, BitsTooBig, TooDeep}
use Rattle.rules.specs.declared.Record.{Record}
use Rattle.rules.specs.declared.Answer.{Answer}
use Rattle.rules.specs.declared.Answer.TheVariants.{Applied, Poisoned, Refused}
use Rattle.rules.specs.declared.Which.TheVariants.{Target}
use Rattle.rules.specs.declared.Ending.TheVariants.{Done, TableShort, Stopped}
use Rattle.rules.specs.Record.{record_of}
use Rattle.rules.specs.Call.{records_in, ended, relocate_of}
use Rattle.law_growth.specs.Demand3.{btf_in, is_refused, is_matched, all_matched, harmful_ids, due}
use Rattle.worked_growth.specs.Make.{name, member_of, variant, int, struct1, struct2, enum1, typedef, array, btf, btf_otherwise, relocation}

-- The local BTF and the old target

-- 1 int; 2 struct s { int a; int b; }; 3 enum e { X = 7 }; 4 struct n { struct n x; }
abbrev pub common : List ℕ
common = int 4 ++ (struct2 1 8 (member_of 3 1 0) (member_of 5 1 32) ++ (enum1 7 (variant 9 7) ++ struct1 11 8 (member_of 13 4 0)))

-- 5 int[2]; 6 struct p { int v[2]; }
abbrev pub local_types : List ℕ
local_types = common ++ (array 1 1 2 ++ struct1 15 8 (member_of 17 5 0))

-- 5 int[2^31], which has no size in 32 bits; 6 struct p { int v[2^31]; }
abbrev pub old_types : List ℕ
old_types = common ++ (array 1 1 (2 ^ 31) ++ struct1 15 8 (member_of 17 5 0))

-- s at 1, a at 3, b at 5, e at 7, X at 9, n at 11, x at 13, p at 15, v at 17
abbrev pub old_names : List ℕ
old_names = 0 ∷ name "s" ++ (name "a" ++ (name "b" ++ (name "e" ++ (name "X" ++ (name "n" ++ (name "x" ++ (name "p" ++ name "v")))))))

-- 0:0:.. of 34 parts: p[0].x.x.., 33 times x
abbrev pub deep_access : List ℕ
deep_access = name "0:0:0:0:0:0:0:0:0:0:0:0:0:0:0:0:0:0:0:0:0:0:0:0:0:0:0:0:0:0:0:0:0:0"

-- behind the names: 0 at 19, 0:1 at 21, 0:0 at 25, the deep one at 29
abbrev pub mine : List ℕ
mine = btf local_types (old_names ++ (name "0" ++ (name "0:1" ++ (name "0:0" ++ deep_access))))

abbrev pub old : List ℕ
old = btf old_types old_names

-- The records, on one instruction: r1 = 0

abbrev pub insns : List ℕ
insns = 0xb7 ∷ 0x01 ∷ 0 ∷ 0 ∷ 0 ∷ 0 ∷ 0 ∷ 0 ∷ []

-- its imm after
abbrev pub imm : ℕ → List ℕ
imm n = 0xb7 ∷ 0x01 ∷ 0 ∷ 0 ∷ n ∷ 0 ∷ 0 ∷ 0 ∷ []

abbrev pub poisoned_insn : List ℕ
poisoned_insn = 0x85 ∷ 0 ∷ 0 ∷ 0 ∷ 0x10 ∷ 0x23 ∷ 0xad ∷ 0x0b ∷ []

abbrev pub asking : ℕ → ℕ → ℕ → Record
asking kind typ access = record { offset = 0; typ = typ; access = access; kind = kind }

-- the offset of s.b, whether it is there; the value of X; the offset of the deep x; that of p.v; s itself: whether it is there,
-- its id in the target, its id in the local BTF
abbrev pub offset_of_b : Record
offset_of_b = asking 0 2 21

abbrev pub exists_b : Record
exists_b = asking 2 2 21

abbrev pub value_of_x : Record
value_of_x = asking 11 3 19

abbrev pub offset_of_deep_x : Record
offset_of_deep_x = asking 0 4 29

abbrev pub offset_of_v : Record
offset_of_v = asking 0 6 25

abbrev pub exists_s : Record
exists_s = asking 8 2 19

abbrev pub target_id_of_s : Record
target_id_of_s = asking 7 2 19

abbrev pub id_of_s : Record
id_of_s = asking 6 2 19

-- The target grown: types from id 7 on; s___2 at 19, e___2 at 25, n___2 at 31, p___2 at 37

abbrev pub more_names : List ℕ
more_names = name "s___2" ++ (name "e___2" ++ (name "n___2" ++ name "p___2"))

-- 7 struct s___2 { int a; int b; }; 8 long
abbrev pub same_again : List ℕ
same_again = struct2 19 8 (member_of 3 1 0) (member_of 5 1 32) ++ int 8

-- 7 struct s___2 { int b; int a; }
abbrev pub turned : List ℕ
turned = struct2 19 8 (member_of 5 1 0) (member_of 3 1 32)

-- 7 enum e___2 { X = 8 }
abbrev pub other_valued : List ℕ
other_valued = enum1 25 (variant 9 8)

-- 7 typedef to itself; 8 struct s___2 { int a; (7) b; }
abbrev pub endless : List ℕ
endless = typedef 0 7 ++ struct2 19 8 (member_of 3 1 0) (member_of 5 7 32)

-- 7 struct { int b, at bit 2^31; }; 8 struct s___2 { struct 7, at bit 2^31; }
abbrev pub far_away : List ℕ
far_away = struct1 0 8 (member_of 5 1 (2 ^ 31)) ++ struct1 19 8 (member_of 0 7 (2 ^ 31))

-- 7 struct s___2 { struct s___2, without a name; }
abbrev pub deep : List ℕ
deep = struct1 19 8 (member_of 0 7 0)

-- 7 struct n___2 { struct m x; }; 8 struct m { struct 9; }; 9 struct { struct m x; }: each x but the first is two parts
abbrev pub long : List ℕ
long = struct1 31 8 (member_of 13 8 0) ++ (struct1 0 8 (member_of 0 9 0) ++ struct1 0 8 (member_of 13 8 0))

-- 7 struct s___2 { int b; int a; }; 8 the same
abbrev pub twice : List ℕ
twice = turned ++ turned

-- 7 struct s___2 { int b; int a; }; 8 typedef to itself; 9 struct s___2 { int a; (8) b; }
abbrev pub later : List ℕ
later = turned ++ (typedef 0 8 ++ struct2 19 8 (member_of 3 1 0) (member_of 5 8 32))

-- 7 int[2]; 8 struct p___2 { int v[2]; }
abbrev pub valueless : List ℕ
valueless = array 1 1 2 ++ struct1 37 8 (member_of 17 7 0)

-- What is shown of each

abbrev pub sections : ℕ → ℕ → ℕ → ℕ → ℕ → Btf
sections types size strings size' last =
    record { types = record { start = types; size = size }; strings = record { start = strings; size = size' }; last = last }

abbrev pub old_sections : Btf
old_sections = sections 24 144 168 19 6

-- The record r against the old target has this answer and leaves these instructions; grown by `more` the target is s', with
-- these harmful ids, this refusal due, and that answer and those instructions.
pub record Example (s' : List ℕ) (places : Btf) (more : List ℕ) (r : Record) (before : Answer) (left : List ℕ)
    (ids : List ℕ) (owed : Option Refusal) (after : Answer) (left' : List ℕ) : Type 0 where
  pub is_btf : Accepted places ≡ accepted s'
  pub types : types_in s' places ≡ types_in old old_sections ++ more
  pub strings : strings_in s' places ≡ strings_in old old_sections ++ more_names
  pub accepts : is_refused before ≡ false
  pub matches : is_matched (btf_in mine) (btf_in old) r ≡ true
  pub was : record_of (btf_in mine) (btf_in old) 0 insns r ≡ record { answer = before; insns = left }
  pub harm : harmful_ids (btf_in mine) (btf_in old) (btf_in s') r ≡ ids
  pub is_due : due (btf_in mine) (btf_in old) (btf_in s') r ≡ owed
  pub is : record_of (btf_in mine) (btf_in s') 0 insns r ≡ record { answer = after; insns = left' }

abbrev pub grown_by : List ℕ → List ℕ
grown_by more = btf (old_types ++ more) (old_names ++ more_names)

-- Nothing changes: the extension adds a candidate, with the same member at the same place
abbrev pub Same : Type 0
Same = Example (btf_otherwise (old_types ++ same_again) (old_names ++ more_names)) (sections 73 196 28 43 8) same_again offset_of_b (Applied 4) (imm 4) [] None
    (Applied 4) (imm 4)

-- Another bit offset: both targets have s.b, and still it is a conflict
abbrev pub OtherBits : Type 0
OtherBits = Example (grown_by turned) (sections 24 180 204 43 7) turned exists_b (Applied 1) (imm 1) (7 ∷ []) (Some (Conflict 7 1)) (Refused (Conflict 7 1)) insns

-- Another value at the same bit offset
abbrev pub OtherValue : Type 0
OtherValue = Example (grown_by other_valued) (sections 24 164 188 43 7) other_valued value_of_x (Applied 7) (imm 7) (7 ∷ []) (Some (Conflict 7 1))
    (Refused (Conflict 7 1)) insns

-- Two of them are counted, the first is named
abbrev pub TwoOthers : Type 0
TwoOthers = Example (grown_by twice) (sections 24 216 240 43 8) twice offset_of_b (Applied 4) (imm 4) (7 ∷ 8 ∷ []) (Some (Conflict 7 2))
    (Refused (Conflict 7 2)) insns

-- A candidate that causes a refusal: 14, 16, 17, 11
abbrev pub Gives14 : Type 0
Gives14 = Example (grown_by endless) (sections 24 192 216 43 8) endless offset_of_b (Applied 4) (imm 4) (8 ∷ []) (Some Unresolved) (Refused Unresolved) insns

abbrev pub Gives16 : Type 0
Gives16 = Example (grown_by far_away) (sections 24 192 216 43 8) far_away offset_of_b (Applied 4) (imm 4) (8 ∷ []) (Some BitsTooBig) (Refused BitsTooBig) insns

abbrev pub Gives17 : Type 0
Gives17 = Example (grown_by deep) (sections 24 168 192 43 7) deep offset_of_b (Applied 4) (imm 4) (7 ∷ []) (Some TooDeep) (Refused TooDeep) insns

abbrev pub Gives11 : Type 0
Gives11 = Example (grown_by long) (sections 24 216 240 43 9) long offset_of_deep_x (Applied 0) (imm 0) (7 ∷ []) (Some (MaximumNesting 7))
    (Refused (MaximumNesting 7)) insns

-- A candidate's own refusal comes before a conflict, though the conflict stands before it
abbrev pub ConflictThen14 : Type 0
ConflictThen14 = Example (grown_by later) (sections 24 228 252 43 9) later offset_of_b (Applied 4) (imm 4) (7 ∷ 9 ∷ []) (Some Unresolved)
    (Refused Unresolved) insns

-- The first match has no value: a later one that has one harms nothing
abbrev pub NoValue : Type 0
NoValue = Example (grown_by valueless) (sections 24 192 216 43 8) valueless offset_of_v Poisoned poisoned_insn [] None Poisoned poisoned_insn

-- A type as a whole: it exists still; but with two that match there are two ids
abbrev pub StillExists : Type 0
StillExists = Example (grown_by same_again) (sections 24 196 220 43 8) same_again exists_s (Applied 1) (imm 1) [] None (Applied 1) (imm 1)

abbrev pub OtherId : Type 0
OtherId = Example (grown_by same_again) (sections 24 196 220 43 8) same_again target_id_of_s (Applied 2) (imm 2) (7 ∷ []) (Some (Conflict 7 1))
    (Refused (Conflict 7 1)) insns

-- `TypeIdLocal` looks at no target, whatever is there
abbrev pub OwnId : Type 0
OwnId = Example (grown_by turned) (sections 24 180 204 43 7) turned id_of_s (Applied 2) (imm 2) [] None (Applied 2) (imm 2)

pub record Worked : Type 0 where
  pub old_is_btf : Accepted old_sections ≡ accepted old
  pub same : Same
  pub other_bits : OtherBits
  pub other_value : OtherValue
  pub two_others : TwoOthers
  pub gives14 : Gives14
  pub gives16 : Gives16
  pub gives17 : Gives17
  pub gives11 : Gives11
  pub conflict_then14 : ConflictThen14
  pub no_value : NoValue
  pub still_exists : StillExists
  pub other_id : OtherId
  pub own_id : OwnId

-- Two calls, of a list: offset_of_b on the first instruction, value_of_x on the second

abbrev pub list : List ℕ
list = relocation 0 2 21 0 ++ relocation 8 3 19 11

pub record WorkedCalls : Type 0 where
  -- against the old target: both applied
  pub before : relocate_of mine 7 old 7 (insns ++ insns) 0 list ≡ record { said = ended Done 2; insns = imm 4 ++ imm 7 }
  pub matched : all_matched (btf_in mine) (btf_in old) (records_in list) ≡ true
  -- nothing harmful: the same
  pub same : relocate_of mine 7 (grown_by same_again) 9 (insns ++ insns) 0 list ≡ record { said = ended Done 2; insns = imm 4 ++ imm 7 }
  -- the second record is harmed: the first stands, the second is refused and changes nothing
  pub harmed : relocate_of mine 7 (grown_by other_valued) 8 (insns ++ insns) 0 list
      ≡ record { said = ended (Stopped 1 (Conflict 7 1)) 1; insns = imm 4 ++ insns }
  -- a table that is not long enough for the grown target
  pub short : relocate_of mine 7 (grown_by other_valued) 7 (insns ++ insns) 0 list
      ≡ record { said = ended (TableShort Target 8) 0; insns = insns ++ insns }
