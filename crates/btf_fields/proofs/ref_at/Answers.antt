-- `btf_fields::ref_at` meets its contract.
use Rattle.btf_kinds.proofs.FieldLaws.{ref_typed, ref-array, ref-none}
use Rattle.btf_fields.proofs.ref_at.Goals as goal

pub returns-then-has_type : goal.returns-then-has_type
returns-then-has_type c = ref_typed _ _ _ c.kind_at-kind.ensures c.has_type.ensures c.if-has_type.true c.word_at.ensures

pub returns-then-kind-eq-BTF_KIND_ARRAY : goal.returns-then-kind-eq-BTF_KIND_ARRAY
returns-then-kind-eq-BTF_KIND_ARRAY c =
    ref-array _ _ _ c.kind_at-kind.ensures c.has_type.ensures c.if-has_type.false c.if-kind-eq-BTF_KIND_ARRAY.true
    c.extra_word.ensures

pub returns-else-kind-eq-BTF_KIND_ARRAY : goal.returns-else-kind-eq-BTF_KIND_ARRAY
returns-else-kind-eq-BTF_KIND_ARRAY c = ref-none _ _ _ c.kind_at-kind.ensures c.has_type.ensures c.if-has_type.false c.if-kind-eq-BTF_KIND_ARRAY.false
