-- `btf_accept::bytes_in` meets its contract.
use native.Mathlib.Omega.{arith}
use mathlib.Core.Path.{◌≡◌, ◌∙◌}
use Prim.Native.Nat.{◌/◌, ◌%◌}
use Rattle.btf_kinds.specs.Kinds.{tail_of}
use Rattle.btf_kinds.proofs.RowLaws.{columns-row}
use Rattle.btf_kinds.specs.Types.{type_at}
use Rattle.btf_kinds.proofs.FieldLaws.{long, extra-small}
use Rattle.btf_accept.proofs.bytes_in.Goals as goal
use Rattle.btf_accept.proofs.bytes_in.Goals.{After-tail_in-tail, After-u32_at-info}

-- the info word's kind and list length are the type's
kind-is : (c : After-u32_at-info) → let a = c.args in c.u32_at-info.result / 16777216 % 32 ≡ (type_at a.types.now a.at).kind
unfolding type_at
kind-is c = rw c.u32_at-info.ensures

vlen-is : (c : After-u32_at-info) → let a = c.args in c.u32_at-info.result % 65536 ≡ (type_at a.types.now a.at).vlen
unfolding type_at
vlen-is c = rw c.u32_at-info.ensures

tail-is : (c : After-tail_in-tail) → c.tail_in-tail.result ≡ tail_of (c.u32_at-info.result / 16777216 % 32)
tail-is c = c.tail_in-tail.ensures ∙ columns-row _ _ _ c.requires.1

pub overflow_add-result : goal.overflow_add-result
overflow_add-result c = omega (arith, extra-small _ _ (tail-is (goal.at.overflow_add-result c).After-tail_in-tail))

pub overflow_mul-result : goal.overflow_mul-result
overflow_mul-result c = omega (arith, long _ _ _ (kind-is (goal.at.overflow_mul-result c).After-u32_at-info) _ _ (tail-is (goal.at.overflow_mul-result c).After-tail_in-tail) (vlen-is (goal.at.overflow_mul-result c).After-u32_at-info))

pub overflow_add-result-2 : goal.overflow_add-result-2
overflow_add-result-2 c = omega (arith, long _ _ _ (kind-is (goal.at.overflow_add-result-2 c).After-u32_at-info) _ _ (tail-is (goal.at.overflow_add-result-2 c).After-tail_in-tail) (vlen-is (goal.at.overflow_add-result-2 c).After-u32_at-info))

pub returns : goal.returns
returns c = (long _ _ _ (kind-is (goal.at.returns c).After-u32_at-info) _ _ (tail-is (goal.at.returns c).After-tail_in-tail) (vlen-is (goal.at.returns c).After-u32_at-info)).is
