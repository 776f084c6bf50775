-- The laws of acceptance and of a read, and what is known of bytes that are accepted.
-- Assumes nothing.
use Prim.Native.Nat.{ℕ, zero, suc, ◌+◌, ◌≤◌, ◌<◌}
use mathlib.Core.Path.{◌≡◌, refl, sym, ap, ◌∙◌}
use mathlib.Core.Bool.{Bool, true, false, cond}
use mathlib.Core.List.{List}
use native.Mathlib.Omega.{arith}
use lib.ListN.{length}
use lib.Dec.{leb, ltb}
use borrow.Author.Tests.{lt-ltb, le-ltb, le-leb, lt-leb, leb-true}
use Rattle.word_read.proofs.Parts.{section-length}
use Rattle.btf_accept.specs.declared.Btf.{Btf}
use Rattle.btf_accept.specs.declared.Head.{Head}
use Rattle.btf_accept.specs.declared.Head.TheVariants.{Sections, Broken}
use Rattle.btf_accept.specs.declared.Scan.{Scan}
use Rattle.btf_accept.specs.declared.Scan.TheVariants.{Count, Stop, Many}
use Rattle.btf_accept.specs.declared.Whole.{Whole}
use Rattle.btf_accept.specs.declared.Whole.TheVariants.{Accepted, Faulty, Over}
use Rattle.btf_accept.specs.declared.Reading.{Reading}
use Rattle.btf_accept.specs.declared.Reading.TheVariants.{Read, NoBtf, TooBig, TooShort}
use Rattle.btf_accept.specs.Limits.{max_bytes, max_types}
use Rattle.btf_accept.specs.Sections.{head_of, types_in, strings_in, strings_fine}
use Rattle.btf_accept.specs.Accept.{scan, unfit, first_or, then_fits, checked, ending, whole_of, in_sections, accepted}
use Rattle.btf_accept.specs.Table.{laid, roomy, decode, tabled}
use Rattle.btf_accept.proofs.HeaderLaws.{told-head}
use Rattle.btf_accept.specs.Shape.{Walking, Lies}
use Rattle.btf_accept.proofs.ScanLaws.{walking-first, walking-most, walking-lies}

-- what is known of sections that are accepted
pub record Sound (most : ℕ) (t z : List ℕ) (n : ℕ) : Type 0 where
  pub strings : strings_fine z ≡ true
  pub walk : Walking most t n 0 0
  pub fit : unfit t (length z) n n 0 0 ≡ 0

module _ (most : ℕ) (t z : List ℕ) where
  pub check-strings : {b : Bool} → b ≡ strings_fine z → b ≡ false → Stop 0 ≡ checked most t z
  unfolding checked
  check-strings e h = let q : strings_fine z ≡ false = sym e ∙ h in rw q

  module _ {b : Bool} (e : b ≡ strings_fine z) (h : b ≡ true) where
    fine : strings_fine z ≡ true
    fine = sym e ∙ h

    pub check-types : {c : Scan} → c ≡ then_fits t (length z) (scan t most 0 0) → c ≡ checked most t z
    unfolding checked
    check-types p = p ∙ sym (rw fine)

  pub told-checked : {n : ℕ} → Count n ≡ checked most t z → Sound most t z n
  unfolding checked
  told-checked {n} = go (strings_fine z) refl
    where
      third : (m u : ℕ) → Count n ≡ first_or m u → (n ≡ m) × (u ≡ 0)
      third m zero h = (cc, refl)
      third m (suc u) h = (cc, cc)

      second : strings_fine z ≡ true → (c : Scan) → c ≡ scan t most 0 0 → Count n ≡ then_fits t (length z) c → Sound most t z n
      second f (Stop i) q h = let y : ◌≡◌ {A = ℕ} 0 1 = cc in absurd (omega arith)
      second f Many q h = let y : ◌≡◌ {A = ℕ} 0 1 = cc in absurd (omega arith)
      second f (Count m) q h =
          let k : (n ≡ m) × (unfit t (length z) m m 0 0 ≡ 0) = third m (unfit t (length z) m m 0 0) h in
          record { strings = f; walk = rw k.0 (walking-first most t m q); fit = rw k.0 k.1 }

      go : (b : Bool) → strings_fine z ≡ b → Count n ≡ cond b (then_fits t (length z) (scan t most 0 0)) (Stop 0) → Sound most t z n
      go true f h = second f (scan t most 0 0) refl h
      go false f h = let y : ◌≡◌ {A = ℕ} 0 1 = cc in absurd (omega arith)

-- whole bytes
module _ (s : List ℕ) where
  pub accept_over : max_bytes < length s → Over ≡ accepted s
  unfolding accepted
  accept_over h = rw (lt-leb (length s) max_bytes h)

  module _ (small : length s ≤ max_bytes) where
    pub accept_broken : Broken ≡ head_of s → Faulty 0 ≡ accepted s
    unfolding accepted
    accept_broken p = rw (le-leb (length s) max_bytes small, ← p)

    pub accept_is : (b : Btf) (c : Scan) (t z : List ℕ) → Sections b ≡ head_of s → t ≡ types_in s b → z ≡ strings_in s b → c ≡ checked max_types t z
        → whole_of b c ≡ accepted s
    unfolding accepted
    accept_is b c t z p e f q =
        let r : c ≡ checked max_types (types_in s b) (strings_in s b) = q ∙ rw (e, f) in rw (le-leb (length s) max_bytes small, ← p, ← r)

-- what is known of bytes that are accepted
pub record Known (s : List ℕ) (b : Btf) : Type 0 where
  pub small : length s ≤ max_bytes
  pub types : b.types.start + b.types.size ≤ length s
  pub strings : b.strings.start + b.strings.size ≤ length s
  pub sound : Sound max_types (types_in s b) (strings_in s b) b.last

pub told-accepted : (s : List ℕ) (b : Btf) → Accepted b ≡ accepted s → Known s b
unfolding accepted
told-accepted s b = go (leb (length s) max_bytes) refl
  where
    third : length s ≤ max_bytes → (a : Btf) → Sections a ≡ head_of s → (c : Scan) → c ≡ checked max_types (types_in s a) (strings_in s a) → Accepted b ≡ whole_of a c → Known s b
    third l a p (Stop i) q h = let y : ◌≡◌ {A = ℕ} 0 1 = cc in absurd (omega arith)
    third l a p Many q h = let y : ◌≡◌ {A = ℕ} 0 1 = cc in absurd (omega arith)
    third l a p (Count n) q h =
        let e : b ≡ ending a n = cc in
        let k = told-head s p in
        rw e (record { small = l; types = k.0; strings = k.1; sound = told-checked max_types (types_in s a) (strings_in s a) q })

    second : length s ≤ max_bytes → (d : Head) → d ≡ head_of s → Accepted b ≡ in_sections s d → Known s b
    second l Broken p h = let y : ◌≡◌ {A = ℕ} 0 1 = cc in absurd (omega arith)
    second l (Sections a) p h = third l a p (checked max_types (types_in s a) (strings_in s a)) refl h

    go : (x : Bool) → leb (length s) max_bytes ≡ x → Accepted b ≡ cond x (in_sections s (head_of s)) Over → Known s b
    go true e h = second (leb-true (length s) max_bytes e) (head_of s) refl h
    go false e h = let y : ◌≡◌ {A = ℕ} 0 1 = cc in absurd (omega arith)

-- what is read is accepted
pub read_accepted : (s : List ℕ) (room : ℕ) (b : Btf) → Read b ≡ decode s room → Accepted b ≡ accepted s
unfolding decode
read_accepted s room b = go (accepted s)
  where
    fit : (c : Btf) (t : Bool) → Read b ≡ cond t (Read c) (TooShort (c.last + 1)) → Accepted b ≡ Accepted c
    fit c true h = cc
    fit c false h = let y : ◌≡◌ {A = ℕ} 0 1 = cc in absurd (omega arith)

    go : (w : Whole) → Read b ≡ roomy room w → Accepted b ≡ w
    go (Accepted c) h = fit c (ltb c.last room) h
    go (Faulty i) h = let y : ◌≡◌ {A = ℕ} 0 1 = cc in absurd (omega arith)
    go Over h = let y : ◌≡◌ {A = ℕ} 0 1 = cc in absurd (omega arith)

pub types-length : {s : List ℕ} {b : Btf} → Known s b → length (types_in s b) ≡ b.types.size
types-length {s} {b} k = section-length s b.types.start b.types.size k.types

-- what the last pass asks
pub known_fill : {s : List ℕ} {b : Btf} {t : List ℕ} → Known s b → t ≡ types_in s b → (b.types.start + length t ≤ max_bytes) × Lies t b.last
known_fill {s} {b} {t} k e =
    let l : length t ≡ b.types.size = ap length e ∙ types-length k in (omega (arith, k.types, k.small), rw e (walking-lies k.sound.walk))

-- a types section is no longer than the bytes
pub types-small : (s : List ℕ) {b : Btf} {t : List ℕ} → Sections b ≡ head_of s → t ≡ types_in s b → length t ≤ length s
types-small s {b} p e = let k = told-head s p in omega (arith, k, ap length e ∙ section-length s b.types.start b.types.size k.0)

pub known-most : {s : List ℕ} {b : Btf} → Known s b → b.last ≤ max_types
known-most k = walking-most k.sound.walk

-- the read
module _ (s table : List ℕ) where
  abbrev Says : Reading → List ℕ → Type 0
  Says a left = (a ≡ decode s (length table)) × (left ≡ tabled s table)

  pub read_bad : {i : ℕ} → Faulty i ≡ accepted s → Says (NoBtf i) table
  unfolding decode tabled
  read_bad p = (rw (← p), rw (← p))

  pub read_over : Over ≡ accepted s → Says TooBig table
  unfolding decode tabled
  read_over p = (rw (← p), rw (← p))

  module _ (b : Btf) (p : Accepted b ≡ accepted s) where
    pub read_short : length table ≤ b.last → Says (TooShort (b.last + 1)) table
    unfolding decode tabled
    read_short h = (rw (← p, le-ltb b.last (length table) h), rw (← p, le-ltb b.last (length table) h))

    pub read_ok : {left t : List ℕ} → b.last < length table → t ≡ types_in s b → left ≡ laid t b.types.start b.last table → Says (Read b) left
    unfolding decode tabled
    read_ok h e q = (rw (← p, lt-ltb b.last (length table) h), q ∙ rw (e, ← p, lt-ltb b.last (length table) h))
