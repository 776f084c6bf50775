-- What a function sees of the types of a BTF that are lent to it: the view by the table.
-- Assumes nothing.
use Rattle.btf_view.specs.declared.Types.{Types}
use Rattle.btf_view.specs.View.{View, tab_view}

abbrev pub lent : Types → View
lent t = tab_view t.bytes.now t.table.now t.btf
