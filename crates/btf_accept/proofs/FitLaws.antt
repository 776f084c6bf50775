-- The laws of names and ids: the reach that the first pass keeps, and the search for the first that does not fit.
-- Assumes nothing.
use Prim.Native.Nat.{ℕ, zero, suc, ◌+◌, ◌-◌, ◌≤◌, ◌<◌}
use mathlib.Core.Path.{◌≡◌, refl, sym, ap, ◌∙◌}
use mathlib.Core.Bool.{Bool, true, false, cond, ◌&&◌}
use mathlib.Core.List.{List, [], ◌∷◌}
use native.Mathlib.Omega.{arith}
use native.Mathlib.Nat.{sub-zero, zero-add, add-zero}
use lib.ListN.{length}
use lib.Dec.{leb, ltb}
use borrow.Author.Tests.{lt-ltb, le-ltb, le-leb, lt-leb, ltb-true, leb-true}
use Rattle.btf_kinds.specs.declared.Entry.{Entry}
use Rattle.btf_kinds.specs.Types.{Ty, type_at, after}
use Rattle.btf_pass.specs.declared.Passing.TheVariants.{Next, Off}
use Rattle.btf_accept.specs.declared.Scan.{Scan}
use Rattle.btf_accept.specs.declared.Scan.TheVariants.{Count, Stop, Many}
use Rattle.btf_accept.specs.Accept.{scan, all_fit, fits, unfit, first_or, then_fits}
use Rattle.btf_pass.specs.Shape.{step_at}
use Rattle.btf_pass.proofs.Tests.{and_false, and_l, and_r}
use Rattle.btf_pass.proofs.TypeLaws.{told-next, told_fault}
use Rattle.btf_pass.proofs.ReachLaws.{larger-ltb, larger-leb}
use Rattle.btf_accept.proofs.ScanLaws.{Scanned, scanned-first, scanned-next, scanned-many, scanned-end, walking-first, walking-good, walking-next}
use Rattle.btf_accept.specs.Shape.{Walking, Reached}
use Rattle.btf_pass.specs.Reach.{larger, largest, names, ids, reach, list_reach, reach_of, within}

-- tests in another order
both : (a b c d : Bool) → (a && b) && (c && d) ≡ (a && c) && (b && d)
both true true c d = refl
both true false true d = refl
both true false false d = refl
both false b c d = refl

-- a list fits where its reach does
pub list-fits : (room last : ℕ) → 0 < room → (es : List Entry) → all_fit room last es ≡ within room last (list_reach es)
unfolding all_fit largest
list-fits room last h [] = rw (lt-ltb 0 room h, le-leb 0 last (omega arith))
list-fits room last h (e ∷ es) =
    rw (list-fits room last h es, larger-ltb e.name (names es) room, larger-leb e.typ (ids es) last)
    (both (ltb e.name room) (leb e.typ last) (ltb (names es) room) (leb (ids es) last))

-- and so does a type
pub type_fits : (room last : ℕ) (ty : Ty) → fits room last ty ≡ within room last (reach_of ty)
unfolding fits
type_fits room last ty =
    rw (larger-ltb ty.name (names ty.entries) room, larger-leb ty.ref (larger ty.index (ids ty.entries)) last, larger-leb ty.index (ids ty.entries) last)
    (go (ltb ty.name room) refl)
  where
    order : (b c d e : Bool) → c && (d && (b && e)) ≡ b && (c && (d && e))
    order true c d e = refl
    order false true true e = refl
    order false true false e = refl
    order false false d e = refl

    go : (a : Bool) → ltb ty.name room ≡ a
        → a && (leb ty.ref last && (leb ty.index last && all_fit room last ty.entries))
        ≡ (a && ltb (names ty.entries) room) && (leb ty.ref last && (leb ty.index last && leb (ids ty.entries) last))
    go true p =
        rw (list-fits room last (omega (arith, ltb-true ty.name room p)) ty.entries)
        (order (ltb (names ty.entries) room) (leb ty.ref last) (leb ty.index last) (leb (ids ty.entries) last))
    go false p = refl

-- the second pass
pub record Fitting (most : ℕ) (t : List ℕ) (room last at n : ℕ) : Type 0 where
  pub walk : Walking most t last at n
  pub upto : n ≤ last
  pub same : unfit t room last last 0 0 ≡ unfit t room last (last - n) at n

pub fitting-first : {most : ℕ} {t : List ℕ} {last : ℕ} (room : ℕ) → Walking most t last 0 0 → Fitting most t room last 0 0
fitting-first room w = record { walk = w; upto = omega arith; same = rw sub-zero }

module _ {most : ℕ} {t : List ℕ} {room last at n : ℕ} (i : Fitting most t room last at n) where
  module _ (h : n < last) where
    one : unfit t room last (last - n) at n ≡ cond (fits room last (type_at t at)) (unfit t room last (last - (n + 1)) (after t at) (n + 1)) (n + 1)
    unfolding unfit
    one = let q : last - n ≡ suc (last - (n + 1)) = omega arith in ap (λ (k : ℕ). unfit t room last k at n) q

    module _ {x far top : ℕ} (p : Next x far top ≡ step_at t at) where
      told : (b : Bool) → within room last (reach far top) ≡ b → fits room last (type_at t at) ≡ b
      told b q = type_fits room last (type_at t at) ∙ ap (within room last) (sym (told-next t at p).2) ∙ q

      bad-one : within room last (reach far top) ≡ false → n + 1 ≡ unfit t room last last 0 0
      bad-one q = sym (i.same ∙ one ∙ rw (told false q))

      pub fitting-far : room ≤ far → n + 1 ≡ unfit t room last last 0 0
      fitting-far q = bad-one (rw (le-ltb far room q))

      pub fitting-top : last < top → n + 1 ≡ unfit t room last last 0 0
      fitting-top q = bad-one (rw (lt-leb top last q) (simp and_false))

      pub fitting-next : far < room → top ≤ last → Fitting most t room last x (n + 1)
      fitting-next f g =
          let q : within room last (reach far top) ≡ true = rw (lt-ltb far room f, le-leb top last g) in
          let y : x ≡ after t at = (told-next t at p).1 in
          record { walk = rw y (walking-next i.walk h); upto = omega arith; same = i.same ∙ one ∙ rw (told true q, y) }

    -- every type has passed before: none is at fault
    pub fitting-passes : Off ≡ step_at t at → ⊥
    fitting-passes p =
        let q : true ≡ false = sym (walking-good i.walk h) ∙ told_fault t at p in
        let z : ◌≡◌ {A = ℕ} 0 1 = cc in
        omega arith

  pub fitting-end : last ≤ n → 0 ≡ unfit t room last last 0 0
  unfolding unfit
  fitting-end h = let z : last - n ≡ 0 = omega arith in sym (i.same ∙ rw z)

-- the first pass with its reach, after n types
pub record Surveyed (most : ℕ) (t : List ℕ) (far top at n : ℕ) : Type 0 where
  pub scanned : Scanned most t at n
  pub skip : (room last k : ℕ) → far < room → top ≤ last → unfit t room last (n + k) 0 0 ≡ unfit t room last k at n

pub surveyed-first : (most : ℕ) (t : List ℕ) → Surveyed most t 0 0 0 0
surveyed-first most t = record { scanned = scanned-first most t; skip = λ room last k f g. rw (zero-add k) }

module _ {most : ℕ} {t : List ℕ} {far top at n : ℕ} (i : Surveyed most t far top at n) where
  module _ (h : at < length t) (m : n ≡ most → ⊥) where
    pub surveyed-next : {x a b f g : ℕ} → Next x a b ≡ step_at t at → f ≡ larger far a → g ≡ larger top b → Surveyed most t f g x (n + 1)
    unfolding unfit
    surveyed-next {x} {a} {b} {f} {g} p ef eg = record { scanned = (scanned-next i.scanned h m p).0; skip = skips }
      where
        fit-one : (room last : ℕ) → within room last (reach f g) ≡ true → (far < room) × (top ≤ last) × (fits room last (type_at t at) ≡ true)
        fit-one room last w =
            let c : ltb far room && ltb a room ≡ true = sym (larger-ltb far a room) ∙ rw (← ef) (and_l _ _ w) in
            let d : leb top last && leb b last ≡ true = sym (larger-leb top b last) ∙ rw (← eg) (and_r (ltb f room) _ w) in
            let q : reach a b ≡ reach_of (type_at t at) = (told-next t at p).2 in (
              ltb-true far room (and_l _ _ c),
              leb-true top last (and_l _ _ d),
              type_fits room last (type_at t at) ∙ ap (within room last) (sym q) ∙ rw (and_r (ltb far room) _ c, and_r (leb top last) _ d),
            )

        skips : (room last k : ℕ) → f < room → g ≤ last → unfit t room last (n + 1 + k) 0 0 ≡ unfit t room last k x (n + 1)
        skips room last k hf hg =
            let e : n + 1 + k ≡ n + suc k = omega arith in
            let o = fit-one room last (rw (lt-ltb f room hf, le-leb g last hg)) in
            let y : x ≡ after t at = (told-next t at p).1 in
            ap (λ (j : ℕ). unfit t room last j 0 0) e ∙ i.skip room last (suc k) o.0 o.1 ∙ rw (o.2, y)

  pub surveyed-many : (room : ℕ) → at < length t → n ≡ most → Many ≡ then_fits t room (scan t most 0 0)
  surveyed-many room h m = rw (← scanned-many i.scanned h m)

  module _ (h : length t ≤ at) where
    pub surveyed_walks : Walking most t n 0 0
    surveyed_walks = walking-first most t n (scanned-end i.scanned h)

    pub surveyed-reached : Reached t far top n
    unfolding unfit
    surveyed-reached = record { fit = λ room last f g. ap (λ (j : ℕ). unfit t room last j 0 0) (sym (add-zero n)) ∙ i.skip room last 0 f g }

    pub surveyed-end : (room : ℕ) {c : Scan} → c ≡ first_or n (unfit t room n n 0 0) → c ≡ then_fits t room (scan t most 0 0)
    surveyed-end room p = p ∙ rw (← scanned-end i.scanned h)

-- what is answered once all types have passed
module _ (t : List ℕ) (room n : ℕ) where
  pub settle_fine : {far top : ℕ} → Reached t far top n → far < room → top ≤ n → Count n ≡ first_or n (unfit t room n n 0 0)
  settle_fine r f g = rw (r.fit room n f g)

  module _ {u : ℕ} (r : u ≡ unfit t room n n 0 0) where
    pub settle_unfit : 0 < u → Stop u ≡ first_or n (unfit t room n n 0 0)
    settle_unfit l = rw (← r) (go u l)
      where
        go : (k : ℕ) → 0 < k → Stop k ≡ first_or n k
        go zero l = absurd (omega arith)
        go (suc k) l = refl

    pub settle_good : u ≤ 0 → Count n ≡ first_or n (unfit t room n n 0 0)
    settle_good l = let q : u ≡ 0 = omega arith in rw (← r, q)
