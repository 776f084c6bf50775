-- The list of records equals its records one by one, up to the first refusal (document 01, sections 3 and 11).
use Rattle.std.specs.Prelude.{ℕ, suc, List, [], ◌∷◌}
use Rattle.btf_view.specs.View.{View}
use Rattle.rules.specs.declared.Record.{Record}
use Rattle.rules.specs.declared.Answer.{Answer}
use Rattle.rules.specs.declared.Answer.TheVariants.{Applied, Poisoned, Refused}
use Rattle.rules.specs.Record.{record_of}

-- The answers, up to and including the first refusal, and the instructions afterwards
pub record Run : Type 0 where
  pub answers : List Answer
  pub insns : List ℕ

-- One answer more, in front
abbrev pub before : Answer → Run → Run
before a r = record { answers = a ∷ r.answers; insns = r.insns }

-- Where the first record was applied, the others follow on its instructions.
abbrev pub follow : Answer → List ℕ → (List ℕ → Run) → Run
follow (Applied v) xs rest = before (Applied v) (rest xs)
follow Poisoned xs rest = before Poisoned (rest xs)
follow (Refused r) xs rest = record { answers = Refused r ∷ []; insns = xs }

-- All records, in order
unfoldable pub list_of : View → View → ℕ → List ℕ → List Record → Run
list_of L T section xs [] = record { answers = []; insns = xs }
list_of L T section xs (r ∷ rs) =
    let one = record_of L T section xs r in
    follow one.answer one.insns (λ ys. list_of L T section ys rs)

-- How many records were applied
unfoldable pub applied_of : List Answer → ℕ
applied_of [] = 0
applied_of (Applied v ∷ more) = suc (applied_of more)
applied_of (Poisoned ∷ more) = suc (applied_of more)
applied_of (Refused r ∷ more) = applied_of more
