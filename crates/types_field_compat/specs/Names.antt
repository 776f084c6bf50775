-- A field compatibility check where the two are not both arrays (document 01, section 5).
use Rattle.std.specs.Prelude.{ℕ, Bool, Err}
use Rattle.btf_view.specs.View.{View}
use Rattle.rules.specs.Types.{same_flavourless, Compat}
use Rattle.rules.specs.declared.Refusal.TheVariants.{Unresolved}

-- Where no step leads further
abbrev pub no_further : ℕ → ℕ → Compat
no_further a b = Err Unresolved

-- Two types' names, the same but for flavours
abbrev pub names_agree : View → View → ℕ → ℕ → Bool
names_agree L T i j = same_flavourless (L.text (L.typ i).name) (T.text (T.typ j).name)
