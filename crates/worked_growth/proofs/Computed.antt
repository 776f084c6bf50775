-- The examples, computed from their bytes.
use mathlib.Core.Path.{refl}
use Rattle.word_read.specs.Num.{num_at, section}
use Rattle.word_read.specs.Put.{put_at}
use Rattle.btf_kinds.specs.Kinds.{is_kind, extra_bytes, entry_bytes, has_size, has_type, encodes, entry_of}
use Rattle.btf_kinds.specs.Types.{extra_at, entry_at, entries_at, entry_count, type_at, type_bytes}
use Rattle.btf_accept.specs.Sections.{begins, head_of, strings_fine}
use Rattle.btf_pass.specs.Good.{encoding_fine, good}
use Rattle.btf_accept.specs.Accept.{scan, all_fit, fits, unfit, checked, accepted}
use Rattle.btf_view.specs.Text.{cut, text_at}
use Rattle.btf_view.specs.View.{off, typ, tab_typ}
use Rattle.rules.specs.Refusal.{returned}
use Rattle.rules.specs.Types.{chain, resolve, elements, size_of, same_text, flavourless, pairs, params, meet, types_within, types_compatible, meet_fields, fields_within, fields_compatible}
use Rattle.rules.specs.Access.{digits, decimal, part, split, numbers, parse, last_from, local_first_bits, local_open, local_member, element_bits, local_element, local_step, local_steps, first_bits}
use Rattle.rules.specs.Access.{local_walk, field_access, type_access, variant_at, enum_access, local_access}
use Rattle.rules.specs.Value.{bitfield_load, signedness, load_value, plain_value, bitfield_value, member_value, element_value, field_value, variant_value, type_value, local_value}
use Rattle.rules.specs.Matching.{is_candidate, variant_named, enum_event, level, search, target_member, at_element, target_open, target_element, target_step, target_steps, field_match, event}
use Rattle.rules.specs.Apply.{code, source_register, with_code, with_off, with_imm, poisoned, also_next, poison, patch_alu, size_bits, with_size, resize, patch_memory, patch_wide, patch_class, patch_front, patch}
use Rattle.rules.specs.Record.{turn, over, event_at, matches, absent, conclude, resizable, resizing, compute, accessed, relocated, answer_numbers, apply, record_of}
use Rattle.rules.specs.List.{list_of, applied_of}
use Rattle.law_growth.specs.Demand3.{btf_in, gives, first_match, causes, harmful, first_own, those, harmful_ids, due, all_matched}
use Rattle.btf_accept.specs.Table.{decode}
use Rattle.rules.specs.Call.{records_from, end_of, run_of, shaped, relocate_of}
use Rattle.worked_growth.specs.Worked.{Worked, WorkedCalls}
use Rattle.worked_growth.specs.Variants.{over_by, conclude_by, Refuted}

-- One theorem, so that the definitions to compute with are listed once
computed : Worked × Refuted × WorkedCalls
unfolding num_at section put_at is_kind extra_bytes entry_bytes has_size has_type encodes entry_of extra_at entry_at entries_at entry_count type_at type_bytes begins head_of strings_fine encoding_fine good scan
    all_fit fits unfit checked accepted cut text_at off typ tab_typ returned chain resolve elements size_of same_text flavourless pairs params meet types_within types_compatible meet_fields fields_within
    fields_compatible digits decimal part split numbers parse last_from local_first_bits local_open local_member element_bits local_element local_step local_steps first_bits local_walk field_access type_access
    variant_at enum_access local_access bitfield_load signedness load_value plain_value bitfield_value member_value element_value field_value variant_value type_value local_value is_candidate variant_named
    enum_event level search target_member at_element target_open target_element target_step target_steps field_match event code source_register with_code with_off with_imm poisoned also_next poison patch_alu
    size_bits with_size resize patch_memory patch_wide patch_class patch_front patch turn over event_at matches absent conclude resizable resizing compute accessed relocated answer_numbers apply record_of
    list_of applied_of btf_in gives first_match causes harmful first_own those harmful_ids due all_matched decode records_from end_of run_of shaped relocate_of over_by conclude_by
computed = (
  record {
    old_is_btf = refl;
    same = record { is_btf = refl; types = refl; strings = refl; accepts = refl; matches = refl; was = refl; harm = refl; is_due = refl; is = refl };
    other_bits = record { is_btf = refl; types = refl; strings = refl; accepts = refl; matches = refl; was = refl; harm = refl; is_due = refl; is = refl };
    other_value = record { is_btf = refl; types = refl; strings = refl; accepts = refl; matches = refl; was = refl; harm = refl; is_due = refl; is = refl };
    two_others = record { is_btf = refl; types = refl; strings = refl; accepts = refl; matches = refl; was = refl; harm = refl; is_due = refl; is = refl };
    gives14 = record { is_btf = refl; types = refl; strings = refl; accepts = refl; matches = refl; was = refl; harm = refl; is_due = refl; is = refl };
    gives16 = record { is_btf = refl; types = refl; strings = refl; accepts = refl; matches = refl; was = refl; harm = refl; is_due = refl; is = refl };
    gives17 = record { is_btf = refl; types = refl; strings = refl; accepts = refl; matches = refl; was = refl; harm = refl; is_due = refl; is = refl };
    gives11 = record { is_btf = refl; types = refl; strings = refl; accepts = refl; matches = refl; was = refl; harm = refl; is_due = refl; is = refl };
    conflict_then14 = record { is_btf = refl; types = refl; strings = refl; accepts = refl; matches = refl; was = refl; harm = refl; is_due = refl; is = refl };
    no_value = record { is_btf = refl; types = refl; strings = refl; accepts = refl; matches = refl; was = refl; harm = refl; is_due = refl; is = refl };
    still_exists = record { is_btf = refl; types = refl; strings = refl; accepts = refl; matches = refl; was = refl; harm = refl; is_due = refl; is = refl };
    other_id = record { is_btf = refl; types = refl; strings = refl; accepts = refl; matches = refl; was = refl; harm = refl; is_due = refl; is = refl };
    own_id = record { is_btf = refl; types = refl; strings = refl; accepts = refl; matches = refl; was = refl; harm = refl; is_due = refl; is = refl };
  },
  record { rule = refl; harm = refl; values_only_keeps = refl; rule_later = refl; is_due = refl; early_conflicts = refl },
  record { before = refl; matched = refl; same = refl; harmed = refl; short = refl },
)

pub worked : Worked
worked = computed.0

pub refuted : Refuted
refuted = computed.1

pub worked_calls : WorkedCalls
worked_calls = computed.2
