-- Document 01, section 9: its report, and a run that gives it.
--   local:   struct a { int x; };            struct b { int x; };
--   target:  struct a { int y[4]; int x; };
--   record 0, at instruction 2: where is x in a?    16 bytes on, so `61 12 00 ..` becomes `61 12 10 ..`
--   record 1, at instruction 4: how big is b?       there is none: 13
-- Assumes nothing.
use Rattle.std.specs.Prelude.{ℕ, ◌≡◌, refl, List, [], ◌∷◌, ◌++◌}
use Rattle.btf_kinds.specs.Kinds.{has_size}
use Rattle.word_read.specs.Put.{put_at}
use Rattle.btf_view.specs.Text.{text_at, cut}
use Rattle.btf_view.specs.View.{View}
use Rattle.rules.specs.declared.Record.{Record}
use Rattle.rules.specs.declared.Refusal.TheVariants.{KindTooBig, NoMatch}
use Rattle.rules.specs.declared.Answer.TheVariants.{Applied, Poisoned, Refused}
use Rattle.rules.specs.Kinds.{field_byte_offset, type_size}
use Rattle.rules.specs.Types.{resolve, chain, size_of, elements, flavourless, same_text, fields_compatible, fields_within, meet_fields}
use Rattle.rules.specs.Access.{parse, numbers, split, part, decimal, digits, last_from, local_first_bits, element_bits, local_member, local_step, local_steps}
use Rattle.rules.specs.Access.{first_bits, local_walk, field_access, type_access, local_access}
use Rattle.rules.specs.Value.{local_value, field_value, member_value, plain_value, load_value}
use Rattle.rules.specs.Matching.{is_candidate, event, field_match, target_steps, target_step, target_member, search, level, at_element}
use Rattle.rules.specs.Apply.{patch, patch_front, patch_class, patch_memory, resize, with_off, code}
use Rattle.rules.specs.Record.{turn, over, event_at, matches, absent, conclude, resizing, compute, accessed, relocated, apply, record_of}
use Rattle.rules.specs.List.{list_of, applied_of}
use Rattle.rules.specs.Report.{report, report_from, lines, insn_shown, value_shown, in_decimal_up_to, in_decimal as shown}
use Rattle.worked_rules.specs.Make.{listed, int_of, struct, array_of, view_from, rec}

-- Section 9's report
abbrev pub text : List ℕ
text =
    114 ∷ 101 ∷ 99 ∷ 111 ∷ 114 ∷ 100 ∷ 61 ∷ 48 ∷ 10 ∷ 97 ∷ 110 ∷ 115 ∷ 119 ∷ 101 ∷ 114 ∷ 61 ∷ 48 ∷ 10
    ∷ 105 ∷ 110 ∷ 115 ∷ 110 ∷ 61 ∷ 50 ∷ 10 ∷ 118 ∷ 97 ∷ 108 ∷ 117 ∷ 101 ∷ 61 ∷ 49 ∷ 54 ∷ 10
    ∷ 114 ∷ 101 ∷ 99 ∷ 111 ∷ 114 ∷ 100 ∷ 61 ∷ 49 ∷ 10 ∷ 97 ∷ 110 ∷ 115 ∷ 119 ∷ 101 ∷ 114 ∷ 61 ∷ 49 ∷ 51 ∷ 10
    ∷ 105 ∷ 110 ∷ 115 ∷ 110 ∷ 61 ∷ 52 ∷ 10 ∷ 118 ∷ 97 ∷ 108 ∷ 117 ∷ 101 ∷ 61 ∷ 110 ∷ 111 ∷ 110 ∷ 101 ∷ 10 ∷ []

-- The local types and strings: a at 1, x at 3, b at 5, `0:0` at 7, `0` at 11
abbrev pub L : View
L = view_from (int_of 4 0x1000020 ∷ struct 1 4 (listed 3 1 0 ∷ []) ∷ struct 5 4 (listed 3 1 0 ∷ []) ∷ [])
    (0 ∷ 97 ∷ 0 ∷ 120 ∷ 0 ∷ 98 ∷ 0 ∷ 48 ∷ 58 ∷ 48 ∷ 0 ∷ 48 ∷ 0 ∷ [])

-- The target's: a at 1, x at 3, y at 5
abbrev pub T : View
T = view_from (int_of 4 0x1000020 ∷ array_of 1 4 ∷ struct 1 20 (listed 5 2 0 ∷ listed 3 1 128 ∷ []) ∷ []) (0 ∷ 97 ∷ 0 ∷ 120 ∷ 0 ∷ 121 ∷ 0 ∷ [])

-- Five instructions; the third loads from an offset
abbrev pub other_insn : List ℕ
other_insn = 0xbf ∷ 0x16 ∷ 0 ∷ 0 ∷ 0 ∷ 0 ∷ 0 ∷ 0 ∷ []

abbrev pub five_insns : ℕ → List ℕ
five_insns o = other_insn ++ (other_insn ++ ((0x61 ∷ 0x12 ∷ o ∷ 0 ∷ 0 ∷ 0 ∷ 0 ∷ 0 ∷ []) ++ (other_insn ++ other_insn)))

abbrev pub records : List Record
records = rec 16 2 7 field_byte_offset ∷ rec 32 3 11 type_size ∷ []

-- What is answered, and the instructions afterwards
pub ran : list_of L T 0 (five_insns 0) records ≡ record { answers = Applied 16 ∷ Refused NoMatch ∷ []; insns = five_insns 16 }
unfolding text_at cut put_at resolve chain size_of elements flavourless same_text fields_compatible fields_within meet_fields parse numbers split part decimal
    digits last_from local_first_bits local_member local_step local_steps first_bits local_walk field_access type_access local_access local_value field_value member_value
    plain_value load_value is_candidate event field_match target_steps target_step target_member search level at_element element_bits patch patch_front patch_class
    patch_memory resize with_off code turn over event_at matches absent conclude resizing compute accessed relocated apply record_of list_of has_size
ran = refl

-- The report, and how many records were applied before the refusal
pub reported_run : report L T 0 (five_insns 0) records ≡ text
unfolding report report_from lines insn_shown value_shown shown in_decimal_up_to
reported_run = rw ran

pub applied-one : applied_of (Applied 16 ∷ Refused NoMatch ∷ []) ≡ 1
unfolding applied_of
applied-one = refl

-- Poison shows `poison`; a kind above 11 shows no instruction.
pub reported-none : report_from 8 0 (rec 8 1 0 0 ∷ rec 16 1 0 12 ∷ []) (Poisoned ∷ Refused (KindTooBig 12) ∷ [])
    ≡ (114 ∷ 101 ∷ 99 ∷ 111 ∷ 114 ∷ 100 ∷ 61 ∷ 48 ∷ 10 ∷ 97 ∷ 110 ∷ 115 ∷ 119 ∷ 101 ∷ 114 ∷ 61 ∷ 48 ∷ 10 ∷ 105 ∷ 110 ∷ 115 ∷ 110 ∷ 61 ∷ 48 ∷ 10
    ∷ 118 ∷ 97 ∷ 108 ∷ 117 ∷ 101 ∷ 61 ∷ 112 ∷ 111 ∷ 105 ∷ 115 ∷ 111 ∷ 110 ∷ 10 ∷ 114 ∷ 101 ∷ 99 ∷ 111 ∷ 114 ∷ 100 ∷ 61 ∷ 49 ∷ 10
    ∷ 97 ∷ 110 ∷ 115 ∷ 119 ∷ 101 ∷ 114 ∷ 61 ∷ 52 ∷ 10 ∷ 105 ∷ 110 ∷ 115 ∷ 110 ∷ 61 ∷ 110 ∷ 111 ∷ 110 ∷ 101 ∷ 10 ∷ 118 ∷ 97 ∷ 108 ∷ 117 ∷ 101 ∷ 61 ∷ 110
    ∷ 111 ∷ 110 ∷ 101 ∷ 10 ∷ [])
unfolding report_from lines insn_shown value_shown shown in_decimal_up_to
reported-none = refl
