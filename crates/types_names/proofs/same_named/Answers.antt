-- `types_names::same_named` meets its contract.
use Prim.Native.Nat.{ℕ}
use mathlib.Core.Path.{ap, ◌∙◌}
use mathlib.Core.List.{List}
use Rattle.btf_view.specs.Text.{text_at}
use Rattle.rules.specs.Types.{same_text, flavourless, same_flavourless}
use Rattle.types_names.proofs.Names.{text-from}
use Rattle.types_names.proofs.same_named.Goals as goal

pub returns : goal.returns
returns c =
    let name = c.args.name.now in
    let o = c.args.offset in
    let z = c.strings-strings.result.now in
    c.same_in.ensures
    ∙ ap (λ (t : List ℕ). same_text (flavourless name) (flavourless t)) (text-from z o c.min-from.ensures)
    ∙ ap (λ (s : List ℕ). same_flavourless name (text_at s o)) c.strings-strings.ensures
