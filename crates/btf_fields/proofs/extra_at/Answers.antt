-- `btf_fields::extra_at` meets its contract.
use Rattle.btf_kinds.proofs.FieldLaws.{extra-array, extra-other}
use Rattle.btf_fields.proofs.extra_at.Goals as goal

pub returns-then-kind-eq-BTF_KIND_ARRAY : goal.returns-then-kind-eq-BTF_KIND_ARRAY
returns-then-kind-eq-BTF_KIND_ARRAY c = extra-array _ _ _ c.kind_at-kind.ensures c.if-kind-eq-BTF_KIND_ARRAY.true c.extra_word.ensures

pub returns-else-kind-eq-BTF_KIND_ARRAY : goal.returns-else-kind-eq-BTF_KIND_ARRAY
returns-else-kind-eq-BTF_KIND_ARRAY c = extra-other _ _ _ c.kind_at-kind.ensures c.if-kind-eq-BTF_KIND_ARRAY.false c.extra_word-else-kind-eq-BTF_KIND_ARRAY.ensures
