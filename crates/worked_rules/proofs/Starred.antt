-- Every starred case of document 01, section 8, holds, by computing.
use mathlib.Core.Path.{refl}
use Rattle.btf_kinds.specs.Kinds.{has_size}
use Rattle.rules.specs.Access.{parse, numbers, split, part, decimal, digits}
use Rattle.rules.specs.Value.{member_value, bitfield_value, bitfield_load, load_value, variant_value}
use Rattle.rules.specs.Apply.{patch, patch_front, patch_class, patch_alu, patch_memory, resize, size_bits, with_size, patch_wide, also_next, with_imm}
use Rattle.rules.specs.Apply.{with_off, with_code, code, source_register}
use Rattle.word_read.specs.Sign.{extended}
use Rattle.rules.specs.Record.{resizable, resizing}
use Rattle.word_read.specs.Put.{put_at}
use Rattle.worked_rules.specs.Starred.{rows, Every}

pub starred : Every rows
unfolding parse numbers split part decimal digits member_value bitfield_value bitfield_load load_value variant_value extended resizing resizable
    patch patch_front patch_class patch_alu patch_memory resize size_bits with_size patch_wide also_next with_imm with_off with_code code source_register put_at has_size
starred = (refl, (refl, (refl, (refl, (refl, (refl, (refl, (refl, (refl, (refl, (refl, (refl, (refl, (refl, (refl, (refl, (refl, (refl, (refl, tt)))))))))))))))))))
