-- The library's decimal is the rules'.
use Rattle.std.proofs.Common.{◌≡◌, ℕ, ◌+◌, ◌/◌, ◌%◌, ◌^◌, ◌<◌, ◌≤◌, zero, suc, true, false, List, [], ◌∷◌, ◌++◌, refl, sym, ◌∙◌, arith, append_assoc, append-nil, Bool, cond}
use native.Mathlib.Nat.{pow-suc}
use borrow.Author.Tests.{lt-ltb, ltb-true, ltb-false, ne_eqb}
use lib.Dec.{ltb}
use Rattle.std.specs.Fmt.{digits, digits_onto, digit_glyph, decimal}
use Rattle.rules.specs.Report.{digit_shown, in_decimal_up_to, in_decimal}

-- The last digit
glyph : (n : ℕ) → digit_glyph false (n % 10) ≡ 48 + n % 10
glyph n = let h : n % 10 < 10 = omega arith in rw (lt-ltb (n % 10) 10 h)

-- One digit
one : (k n : ℕ) (acc : List ℕ) → n < 10 → digits_onto (suc k) 10 false n acc ≡ digit_shown n ++ acc
one k n acc h = let e : n / 10 ≡ 0 = omega arith in let d : n % 10 ≡ n = omega arith in rw (glyph n, e, d)

-- Digits in front of what is there; those that are allowed and not needed change nothing.
onto : (f k n : ℕ) (acc : List ℕ) → f < k → n < 10 ^ suc f → digits_onto k 10 false n acc ≡ in_decimal_up_to (suc f) n ++ acc
unfolding in_decimal_up_to
onto f zero n acc j h = absurd (omega arith)
onto zero (suc k) n acc j h = rw (lt-ltb n 10 h) (one k n acc h)
onto (suc f) (suc k) n acc j h =
    let small : n / 10 < 10 ^ suc f = omega (arith, pow-suc 10 (suc f)) in
    go (ltb n 10) refl (onto f k (n / 10) ((48 + n % 10) ∷ acc) (omega arith) small)
  where
    go : (t : Bool) → ltb n 10 ≡ t
        → digits_onto k 10 false (n / 10) ((48 + n % 10) ∷ acc) ≡ in_decimal_up_to (suc f) (n / 10) ++ ((48 + n % 10) ∷ acc)
        → digits_onto (suc k) 10 false n acc ≡ cond t (digit_shown n) (in_decimal_up_to (suc f) (n / 10) ++ digit_shown (n % 10)) ++ acc
    go true e r = one k n acc (ltb-true n 10 e)
    go false e r =
        let two : 10 ≤ n = ltb-false n 10 e in
        let rest : n / 10 ≡ 0 → ⊥ = λ z. omega (arith, z) in
        rw (ne_eqb (n / 10) 0 rest, glyph n) (r ∙ sym (append_assoc (in_decimal_up_to (suc f) (n / 10)) (digit_shown (n % 10)) acc))

-- A number of 64 bits
pub same : (n : ℕ) → n < 2 ^ 64 → decimal n ≡ in_decimal n
unfolding digits in_decimal
same n h = onto 19 64 n [] (omega arith) (omega arith) ∙ append-nil _
