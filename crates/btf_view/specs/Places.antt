-- The shape of the code, no rule: a place for each id, past the end where there is no type; an entry past the last.
-- Assumes nothing.
use Rattle.std.specs.Prelude.{ℕ, cond, ◌&&◌, List, ltb, length, get_or}
use Rattle.btf_kinds.specs.declared.Entry.{Entry}
use Rattle.btf_kinds.specs.Kinds.{entry}
use Rattle.btf_view.specs.View.{taken}

unfoldable pub table_place : List ℕ → List ℕ → ℕ → ℕ → ℕ
table_place s table last i = cond (taken last i && ltb i (length table)) (get_or table i 0) (length s)

abbrev pub no_entry : Entry
no_entry = entry 0 0 0 0
