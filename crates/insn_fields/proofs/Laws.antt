-- Fields of an instruction, its successor and poison, over plain bytes: what each branch of the code has written is what the rules say.
-- Assumes nothing.
use mathlib.Core.Path.{◌≡◌, sym, ap, ◌∙◌}
use mathlib.Core.Bool.{true, false}
use mathlib.Core.List.{List, ◌++◌}
use mathlib.Core.Logic.{⊎_elim}
use Prim.Native.Nat.{ℕ, ◌+◌, ◌/◌, ◌≤◌, ◌<◌}
use native.Mathlib.Omega.{arith}
use lib.IntN.{ℤ}
use lib.ListN.{length, get_or, take, drop, set}
use mir.Syntax.{Width}
use mir.Val.{Fits, of_z, to_z}
use mir.ValLaws.{of_z-to_z}
use lib.Dec.{leb}
use borrow.Author.Tests.{eq-eqb, ne_eqb, lt-ltb, le-ltb, le-leb, lt-leb, ltb-true}
use Rattle.word_read.specs.Num.{little}
use Rattle.word_read.specs.Put.{put_at}
use Rattle.btf_kinds.proofs.Keys.{split}
use Rattle.rules.specs.declared.Refusal.TheVariants.{NoSuccessor}
use Rattle.rules.specs.Apply.{done, stopped, has_slot, code, poisoned, also_next, poison}

-- A call hands a signed number on as its bits; those of the number that v is read as are v.
pub signed : (w : Width) (v : ℕ) (z : ℤ) → Fits w v → z ≡ to_z w v → of_z w (to_z w (of_z w z)) ≡ v
signed w v z f e = ap (λ (y : ℤ). of_z w (to_z w (of_z w y))) e ∙ ap (λ (k : ℕ). of_z w (to_z w k)) (of_z-to_z w v f) ∙ of_z-to_z w v f

-- Poison, byte by byte
pub poisons : {a b c d : List ℕ} (xs : List ℕ) → a ≡ set xs 0 0x85 → b ≡ set a 1 0 → c ≡ put_at little 2 b 2 0 → d ≡ put_at little 4 c 4 0x0bad2310 → d ≡ poisoned xs
unfolding put_at poisoned
poisons xs e f g h = rw (h, g, f, e)

-- The successor is there when there are sixteen bytes.
pub sixteen : (xs : List ℕ) → leb 16 (length xs) ≡ has_slot xs 1
sixteen xs =
    ⊎_elim
    (λ (h : length xs < 16). lt-leb 16 (length xs) h ∙ sym (le-ltb 1 (length xs / 8) (omega arith)))
    (λ (h : 16 ≤ length xs). le-leb 16 (length xs) h ∙ sym (lt-ltb 1 (length xs / 8) (omega arith)))
    (split (length xs) 16)

pub room : (xs : List ℕ) → has_slot xs 1 ≡ true → 8 ≤ length xs
room xs h = omega (arith, ltb-true 1 (length xs / 8) h)

-- The successor is missing, or is split off and left as zs.
module _ (change : List ℕ → List ℕ) (xs : List ℕ) (i : ℕ) where
  pub missing : has_slot xs 1 ≡ false → stopped (NoSuccessor (i + 1)) xs ≡ also_next change xs i
  unfolding also_next
  missing h = rw h

  pub changed : has_slot xs 1 ≡ true → {front zs : List ℕ} → front ≡ take 8 xs → zs ≡ change (drop 8 xs) → done (front ++ zs) ≡ also_next change xs i
  unfolding also_next
  changed h e f = rw (h, e, f)

-- Poison: ys has the first instruction poisoned, b is the code that it had.
module _ (b : ℕ) (xs ys : List ℕ) (i : ℕ) (e : b ≡ get_or xs 0 0) (p : ys ≡ poisoned xs) where
  pub poison-one : (b ≡ 0x18 → ⊥) → done ys ≡ poison xs i
  unfolding poison code
  poison-one h = rw (← e, ne_eqb b 0x18 h, p)

  pub poison-two : b ≡ 0x18 → also_next poisoned ys i ≡ poison xs i
  unfolding poison code
  poison-two h = rw (← e, eq-eqb b 0x18 h, p)
