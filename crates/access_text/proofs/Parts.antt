-- Laws of `numbers`: where the loop over the parts of an access string stands, and what it comes to.
-- Assumes nothing.
use mathlib.Core.Path.{◌≡◌, refl, sym, ap, ◌∙◌}
use mathlib.Core.Bool.{Bool, true, false}
use mathlib.Core.List.{List, [], ◌∷◌, ◌++◌}
use Prim.Native.Nat.{ℕ, ◌+◌, ◌≤◌, ◌<◌, min}
use native.Mathlib.Numerals.{add-one}
use native.Mathlib.Omega.{arith}
use borrow.Author.Tests.{le-leb, lt-leb, lt-ltb, le-ltb, leb-true, leb-false, ltb-true, ltb-false}
use lib.ListN.{length, get_or, take, drop, length-append, drop_of_length-le}
use lib.Seq.{take_all, drop-cons}
use lib.Dec.{eqb, leb, ltb}
use Rattle.std.specs.List.{slice_split, onto_first}
use Rattle.std.specs.Prelude.{Err, None, Ok, Option, Some}
use Rattle.std.proofs.lemmas.List.{take-append-le, length-take}
use Rattle.rules.specs.declared.Refusal.TheVariants.{BadAccess, TooManyParts}
use Rattle.rules.specs.Access.{onto, split, part, also, numbers, parse}

abbrev pub colon : ℕ → Bool
colon x = eqb x 58

-- std's parts, cut at the colons, are those of the rules
onto_same : (x : ℕ) (ps : List (List ℕ)) → onto_first x ps ≡ onto x ps
onto_same x [] = refl
onto_same x (p ∷ ps) = refl

pub split_same : (xs : List ℕ) → slice_split colon xs ≡ split xs
unfolding split
split_same [] = refl
split_same (x ∷ xs) = rw (split_same xs, onto_same x (split xs))

-- numbers that are known, before others
abbrev before : List ℕ → Option (List ℕ) → Option (List ℕ)
before [] w = w
before (d ∷ ds) w = also (Some d) (before ds w)

known : (ds : List ℕ) (n : ℕ) (w : Option (List ℕ)) → before (ds ++ n ∷ []) w ≡ before ds (also (Some n) w)
known [] n w = refl
known (d ∷ ds) n w = ap (also (Some d)) (known ds n w)

lost : (ds : List ℕ) → before ds None ≡ None
lost [] = refl
lost (d ∷ ds) = ap (also (Some d)) (lost ds)

all : (ds : List ℕ) → before ds (Some []) ≡ Some ds
all [] = refl
all (d ∷ ds) = ap (also (Some d)) (all ds)

-- where the loop stands, i parts on: the numbers that it has met, of which the first 64 are kept, and what is left
pub record Going (text kept : List ℕ) (too_many : Bool) (i : ℕ) : Type 0 where
  pub met : List ℕ
  pub count : length met ≡ i
  pub first : kept ≡ take 64 met
  pub past : too_many ≡ ltb 64 i
  pub rest : numbers (split text) ≡ before met (numbers (drop i (split text)))

pub begin : (text : List ℕ) → Going text [] false 0
begin text = record { met = []; count = refl; first = refl; past = refl; rest = refl }

module _ {text kept : List ℕ} {too_many : Bool} {i : ℕ} (g : Going text kept too_many i) where
  -- a part more
  module _ {one : List ℕ} (h : (i < length (split text)) × (one ≡ get_or (split text) i one)) where
    on : {r : Option ℕ} → r ≡ part one → numbers (split text) ≡ before g.met (also r (numbers (drop (i + 1) (split text))))
    unfolding numbers
    on e = g.rest ∙ rw (drop-cons (split text) i one h.0, ← h.1, ← e, add-one i)

    pub bad : None ≡ part one → Err BadAccess ≡ parse text
    unfolding parse
    bad e = rw (on e, lost g.met)

    -- it is kept where there is room
    module _ (n : ℕ) (e : Some n ≡ part one) where
      long : length kept ≡ min 64 i
      long = ap length g.first ∙ length-take 64 g.met ∙ ap (min 64) g.count

      kept_more : take 64 (kept ++ n ∷ []) ≡ take 64 (g.met ++ n ∷ [])
      kept_more = go (leb 64 i) refl
        where
          go : (b : Bool) → leb 64 i ≡ b → take 64 (kept ++ n ∷ []) ≡ take 64 (g.met ++ n ∷ [])
          go false b = rw (g.first, take_all 64 g.met (omega (arith, g.count, leb-false 64 i b))) refl
          go true b =
              let many : 64 ≤ i = leb-true 64 i b in
              take-append-le 64 kept (n ∷ []) (omega (arith, long)) ∙ take_all 64 kept (omega (arith, long)) ∙ g.first
              ∙ sym (take-append-le 64 g.met (n ∷ []) (omega (arith, g.count)))

      full : (b : Bool) → leb 64 (length kept) ≡ b → b ≡ ltb 64 (i + 1)
      full true b = sym (lt-ltb 64 (i + 1) (omega (arith, long, leb-true 64 (length kept) b)))
      full false b = sym (le-ltb 64 (i + 1) (omega (arith, long, leb-false 64 (length kept) b)))

      pub more : (k : ℕ) → k ≡ length kept → Going text (take 64 (kept ++ n ∷ [])) (leb 64 k) (i + 1)
      more k c = record {
        met = g.met ++ n ∷ [];
        count = omega (arith, g.count, length-append g.met (n ∷ []));
        first = kept_more;
        past = rw c (full (leb 64 (length kept)) refl);
        rest = on e ∙ sym (known g.met n (numbers (drop (i + 1) (split text))));
      }

  -- no part more
  module _ (h : length (split text) ≤ i) where
    whole : numbers (split text) ≡ Some g.met
    unfolding numbers
    whole = g.rest ∙ rw (drop_of_length-le (split text) h, all g.met)

    pub good : too_many ≡ false → Ok kept ≡ parse text
    unfolding parse
    good f =
        let few : length g.met ≤ 64 = omega (arith, g.count, ltb-false 64 i (sym g.past ∙ f)) in
        rw (whole, le-leb (length g.met) 64 few, g.first, take_all 64 g.met few)

    pub many : too_many ≡ true → Err TooManyParts ≡ parse text
    unfolding parse
    many f = rw (whole, lt-leb (length g.met) 64 (omega (arith, g.count, ltb-true 64 i (sym g.past ∙ f))))
