-- `btf_view::text_of` meets its contract.
use Prim.Native.Nat.{ℕ}
use mathlib.Core.Path.{◌∙◌, ap}
use mathlib.Core.List.{List}
use Rattle.btf_view.specs.Text.{text_at}
use Rattle.btf_view.proofs.Types.text_of.Goals as goal

pub returns : goal.returns
returns c = c.text_in.ensures ∙ ap (λ (z : List ℕ). text_at z c.args.offset) c.strings.ensures
