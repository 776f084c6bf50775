-- The exported calls together: what `leamugi_read` left and said is handed on as it is. What follows of a function relocated between
-- two BTFs stands in proofs/Together.antt.
-- Assumes nothing.
use Rattle.std.specs.Prelude.{◌%◌, ◌^◌, ◌≤◌, ◌≡◌, ℕ, List, [], ◌∷◌, length}
use Rattle.std.proofs.Common.{arith}
use Rattle.std.proofs.lemmas.List.Edits.{sets}
use Rattle.btf_accept.specs.declared.Btf.{Btf}
use Rattle.btf_accept.specs.declared.Reading.TheVariants.{Read}
use Rattle.btf_accept.specs.Table.{decode, tabled}
use Rattle.btf_accept.proofs.WholeLaws.{read_accepted, told-accepted, known-most}
use Rattle.btf_view.specs.View.{View, tab_view}
use Rattle.leamugi_numbers.specs.Numbers.{five, read_numbers, btf_of}

-- The BTF that the other calls take a reading's buffer for, once `leamugi_read` has said its five numbers there
abbrev pub handed : List ℕ → List ℕ → List ℕ → Btf
handed s table buffer = btf_of (sets buffer 0 (five (read_numbers (decode s (length table)))))

-- The types and names that they then see, by the table that it filled
abbrev pub seen : List ℕ → List ℕ → List ℕ → View
seen s table buffer = tab_view s (tabled s table) (handed s table buffer)

-- A buffer of five entries and more hands on what was read.
pub handed-on : (s table buffer : List ℕ) (b : Btf) → Read b ≡ decode s (length table) → 5 ≤ length buffer → handed s table buffer ≡ b
unfolding btf_of read_numbers
handed-on s table buffer b p h = rw (← p) (go buffer h)
  where
    last : b.last % 2 ^ 32 ≡ b.last
    last = omega (arith, known-most (told-accepted s b (read_accepted s (length table) b p)))

    go : (xs : List ℕ) → 5 ≤ length xs → btf_of (sets xs 0 (five (read_numbers (Read b)))) ≡ b
    go [] l = absurd (omega arith)
    go (x0 ∷ []) l = absurd (omega arith)
    go (x0 ∷ x1 ∷ []) l = absurd (omega arith)
    go (x0 ∷ x1 ∷ x2 ∷ []) l = absurd (omega arith)
    go (x0 ∷ x1 ∷ x2 ∷ x3 ∷ []) l = absurd (omega arith)
    go (x0 ∷ x1 ∷ x2 ∷ x3 ∷ x4 ∷ xs) l = rw last
