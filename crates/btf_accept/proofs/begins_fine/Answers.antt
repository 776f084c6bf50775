-- `btf_accept::begins_fine` meets its contract.
use Rattle.btf_accept.proofs.HeaderLaws.{begins-magic, begins-version, begins-is}
use Rattle.btf_accept.proofs.begins_fine.Goals as goal

pub returns-then-u16_at-ne-BTF_MAGIC : goal.returns-then-u16_at-ne-BTF_MAGIC
returns-then-u16_at-ne-BTF_MAGIC c = begins-magic _ c.u16_at.ensures c.if-u16_at-ne-BTF_MAGIC.true

pub returns-then-u8_at-ne-BTF_VERSION : goal.returns-then-u8_at-ne-BTF_VERSION
returns-then-u8_at-ne-BTF_VERSION c = begins-version _ c.u8_at.ensures c.if-u8_at-ne-BTF_VERSION.true

pub returns : goal.returns
returns c = begins-is _ c.u16_at.ensures c.if-u16_at-ne-BTF_MAGIC.false c.u8_at.ensures c.if-u8_at-ne-BTF_VERSION.false c.u8_at-2.ensures
