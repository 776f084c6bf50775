-- `btf_accept::header` meets its contract.
use native.Mathlib.Omega.{arith}
use Rattle.btf_accept.proofs.HeaderLaws.{head-short, head-begins, head_small, head-types, head-strings, head-is}
use Rattle.btf_accept.proofs.header.Goals as goal

pub returns-then-bytes-lt-BTF_HEADER_BYTES : goal.returns-then-bytes-lt-BTF_HEADER_BYTES
returns-then-bytes-lt-BTF_HEADER_BYTES c = head-short _ (omega arith)

pub returns-then-not-begins_fine : goal.returns-then-not-begins_fine
returns-then-not-begins_fine c = head-begins _ c.begins_fine.ensures c.if-not-begins_fine.true

pub returns-then-length-lt-BTF_HEADER_BYTES : goal.returns-then-length-lt-BTF_HEADER_BYTES
returns-then-length-lt-BTF_HEADER_BYTES c = head_small _ (omega arith)

pub returns-then-a-b : goal.returns-then-a-b
returns-then-a-b c = head-types _ (omega arith)

pub returns-then-c-d : goal.returns-then-c-d
returns-then-c-d c = head-strings _ (omega arith)

pub returns : goal.returns
returns c =
    head-is _ _ _ _ _ _ c.u32_at-length.ensures c.u32_at.ensures c.u32_at-b.ensures c.u32_at-2.ensures c.u32_at-d.ensures (omega arith)
    c.begins_fine.ensures c.if-not-begins_fine.false (omega arith) (omega arith) (omega arith)
