-- The laws of the header and the strings: one for each way of a function.
-- Assumes nothing.
use Prim.Native.Nat.{ℕ, ◌+◌, ◌-◌, ◌≤◌, ◌<◌}
use mathlib.Core.Path.{◌≡◌, refl, sym, ◌∙◌}
use mathlib.Core.Bool.{Bool, true, false, cond, ◌&&◌}
use mathlib.Core.List.{List}
use native.Mathlib.Omega.{arith}
use lib.ListN.{length, get_or}
use lib.Dec.{leb, eqb}
use borrow.Author.Tests.{lt-ltb, le-ltb, le-leb, lt-leb, leb-true, eq-eqb, ne_eqb}
use Rattle.word_read.specs.Num.{half, word}
use Rattle.btf_accept.specs.declared.Btf.{Btf}
use Rattle.btf_accept.specs.declared.Head.TheVariants.{Sections, Broken}
use Rattle.btf_accept.specs.Sections.{begins, header_length, placed, lies, head_of, strings_fine}
use Rattle.btf_pass.proofs.Tests.{and_false}

-- the header
module _ (s : List ℕ) where
  pub head-short : length s < 24 → Broken ≡ head_of s
  unfolding head_of
  head-short h = rw (lt-leb 24 (length s) h)

  pub head-begins : {b : Bool} → b ≡ begins s → b ≡ false → Broken ≡ head_of s
  unfolding head_of
  head-begins e h = let q : begins s ≡ false = sym e ∙ h in rw (q, and_false)

  pub head_small : word s 4 < 24 → Broken ≡ head_of s
  unfolding head_of
  head_small h = rw (lt-leb 24 (word s 4) h) (simp and_false)

  pub head-types : length s < word s 4 + word s 8 + word s 12 → Broken ≡ head_of s
  unfolding head_of
  head-types h = rw (lt-leb (word s 4 + word s 8 + word s 12) (length s) h) (simp and_false)

  pub head-strings : length s < word s 4 + word s 16 + word s 20 → Broken ≡ head_of s
  unfolding head_of
  head-strings h = rw (lt-leb (word s 4 + word s 16 + word s 20) (length s) h) (simp and_false)

  pub head-is : {g : Bool} (x a b c d : ℕ) → x ≡ word s 4 → a ≡ word s 8 → b ≡ word s 12 → c ≡ word s 16 → d ≡ word s 20
      → 24 ≤ length s → g ≡ begins s → g ≡ true → 24 ≤ x → x + a + b ≤ length s → x + c + d ≤ length s
      → Sections (record { types = record { start = x + a; size = b }; strings = record { start = x + c; size = d }; last = 0 }) ≡ head_of s
  unfolding head_of
  head-is x a b c d ex ea eb ec ed l eg g m p q =
      let f : begins s ≡ true = sym eg ∙ g in
      rw (← ex, ← ea, ← eb, ← ec, ← ed, le-leb 24 (length s) l, f, le-leb 24 x m, le-leb (x + a + b) (length s) p, le-leb (x + c + d) (length s) q)

  pub begins-magic : {x : ℕ} → x ≡ half s 0 → (x ≡ 0xEB9F → ⊥) → false ≡ begins s
  unfolding begins
  begins-magic {x} e h = rw (← e, ne_eqb x 0xEB9F h)

  pub begins-version : {x : ℕ} → x ≡ get_or s 2 0 → (x ≡ 1 → ⊥) → false ≡ begins s
  unfolding begins
  begins-version {x} e h = rw (← e, ne_eqb x 1 h, and_false)

  pub begins-is : {x y z : ℕ} → x ≡ half s 0 → x ≡ 0xEB9F → y ≡ get_or s 2 0 → y ≡ 1 → z ≡ get_or s 3 0 → eqb z 0 ≡ begins s
  unfolding begins
  begins-is {x} {y} {z} e h f k g = rw (← e, eq-eqb x 0xEB9F h, ← f, eq-eqb y 1 k, ← g)

  -- what a header tells
  pub told-head : {b : Btf} → Sections b ≡ head_of s → (b.types.start + b.types.size ≤ length s) × (b.strings.start + b.strings.size ≤ length s)
  unfolding head_of
  told-head {b} = go (leb 24 (length s)) (begins s) (leb 24 (header_length s)) (lies (placed s 0).types s) refl (lies (placed s 0).strings s) refl
    where
      go : (u v w x : Bool) → lies (placed s 0).types s ≡ x → (y : Bool) → lies (placed s 0).strings s ≡ y
          → Sections b ≡ cond (u && (v && (w && (x && y)))) (Sections (placed s 0)) Broken → (b.types.start + b.types.size ≤ length s) × (b.strings.start + b.strings.size ≤ length s)
      go true true true true p true q h =
          let e : b ≡ placed s 0 = cc in
          rw e (leb-true (word s 4 + word s 8 + word s 12) (length s) p, leb-true (word s 4 + word s 16 + word s 20) (length s) q)
      go true true true true p false q h = let z : ◌≡◌ {A = ℕ} 0 1 = cc in absurd (omega arith)
      go true true true false p y q h = let z : ◌≡◌ {A = ℕ} 0 1 = cc in absurd (omega arith)
      go true true false x p y q h = let z : ◌≡◌ {A = ℕ} 0 1 = cc in absurd (omega arith)
      go true false w x p y q h = let z : ◌≡◌ {A = ℕ} 0 1 = cc in absurd (omega arith)
      go false v w x p y q h = let z : ◌≡◌ {A = ℕ} 0 1 = cc in absurd (omega arith)

-- the strings
module _ (z : List ℕ) where
  pub strings-none : length z ≡ 0 → false ≡ strings_fine z
  unfolding strings_fine
  strings-none h = rw (le-ltb 0 (length z) (omega arith))

  pub strings-first : (get_or z 0 0 ≡ 0 → ⊥) → false ≡ strings_fine z
  unfolding strings_fine
  strings-first h = rw (ne_eqb (get_or z 0 0) 0 h, and_false)

  pub strings-last : (length z ≡ 0 → ⊥) → get_or z 0 0 ≡ 0 → eqb (get_or z (length z - 1) 0) 0 ≡ strings_fine z
  unfolding strings_fine
  strings-last h p = rw (lt-ltb 0 (length z) (omega arith), eq-eqb (get_or z 0 0) 0 p)
