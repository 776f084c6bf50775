-- Where a read was accepted, the view by its table is the document's view, and that view is closed.
-- Assumes nothing.
use Prim.Native.Nat.{ℕ, zero, suc, ◌+◌, ◌-◌, ◌≤◌, ◌<◌}
use mathlib.Core.Path.{◌≡◌, refl, sym, ap, ◌∙◌, fun_ext}
use mathlib.Core.Bool.{Bool, true, false, cond, ◌&&◌}
use mathlib.Core.List.{List, [], ◌∷◌}
use native.Mathlib.Omega.{arith}
use lib.Dec.{leb, ltb, eqb}
use lib.ListN.{length, get_or, drop, get_or-append, length-append}
use borrow.Author.Tests.{leb-true, ltb-true, lt-ltb}
use Rattle.word_read.proofs.Parts.{section-within}
use Rattle.btf_kinds.specs.declared.Entry.{Entry}
use Rattle.btf_kinds.specs.Types.{Ty, void, type_at, after}
use Rattle.btf_kinds.proofs.Laws.{type_within}
use Rattle.btf_accept.specs.declared.Btf.{Btf}
use Rattle.btf_accept.specs.declared.Whole.TheVariants.{Accepted}
use Rattle.btf_accept.specs.declared.Reading.TheVariants.{Read}
use Rattle.btf_accept.specs.Sections.{types_in, strings_in, strings_fine}
use Rattle.btf_accept.specs.Accept.{entry_fits, all_fit, fits, unfit, accepted}
use Rattle.btf_accept.specs.Table.{offsets, laid, decode, tabled}
use Rattle.btf_pass.proofs.Tests.{and_l, and_r}
use Rattle.btf_accept.specs.Shape.{Walking}
use Rattle.btf_accept.proofs.ScanLaws.{walking-fits, walking-next}
use Rattle.btf_accept.proofs.WholeLaws.{Sound, Known, told-accepted, read_accepted}
use Rattle.btf_view.specs.View.{View, off, typ, view_of, doc_view, tab_typ, tab_view}
use Rattle.btf_view.proofs.Extends.{Inside, Closed}

-- what a table of offsets has
length-offsets : (t : List ℕ) (base at n : ℕ) → length (offsets t base at n) ≡ n
unfolding offsets
length-offsets t base at zero = refl
length-offsets t base at (suc n) = ap suc (length-offsets t base (after t at) n)

get_d_offsets : (t : List ℕ) (base at n j : ℕ) → j < n → get_or (offsets t base at n) j 0 ≡ base + off t at j
unfolding offsets off
get_d_offsets t base at zero j h = absurd (omega arith)
get_d_offsets t base at (suc n) zero h = refl
get_d_offsets t base at (suc n) (suc j) h = get_d_offsets t base (after t at) n j (omega arith)

get_d_laid : (t : List ℕ) (base n : ℕ) (table : List ℕ) (i : ℕ) → 0 < i → i ≤ n → get_or (laid t base n table) i 0 ≡ base + off t 0 (i - 1)
unfolding laid
get_d_laid t base n table zero p h = absurd (omega arith)
get_d_laid t base n table (suc j) p h =
    let e : suc j - 1 ≡ j = omega arith in
    get_or-append (offsets t base 0 n) (drop (suc n) table) 0 j (omega (arith, length-offsets t base 0 n)) ∙ get_d_offsets t base 0 n j (omega arith) ∙ rw e

length-laid : (t : List ℕ) (base n : ℕ) (table : List ℕ) → n < length (laid t base n table)
unfolding laid
length-laid t base n table = omega (arith, length-append (offsets t base 0 n) (drop (suc n) table), length-offsets t base 0 n)

-- each type lies in the section
pub walked : {most : ℕ} (t : List ℕ) (last at n j : ℕ) → Walking most t last at n → n + j < last → after t (off t at j) ≤ length t
unfolding off
walked t last at n zero w h = walking-fits w (omega arith)
walked t last at n (suc j) w h = walked t last (after t at) (n + 1) j (walking-next w (omega arith)) (omega arith)

-- each type's names and ids fit
fitted : (t : List ℕ) (room last k at n j : ℕ) → unfit t room last k at n ≡ 0 → j < k → fits room last (type_at t (off t at j)) ≡ true
unfolding unfit off
fitted t room last zero at n j h l = absurd (omega arith)
fitted t room last (suc k) at n zero h l = go (fits room last (type_at t at)) _ h
  where
    go : (b : Bool) (r : ℕ) → cond b r (n + 1) ≡ 0 → b ≡ true
    go true r h = refl
    go false r h = absurd (omega arith)
fitted t room last (suc k) at n (suc j) h l = fitted t room last k (after t at) (n + 1) j (go (fits room last (type_at t at)) h) (omega arith)
  where
    go : (b : Bool) → cond b (unfit t room last k (after t at) (n + 1)) (n + 1) ≡ 0 → unfit t room last k (after t at) (n + 1) ≡ 0
    go true h = h
    go false h = absurd (omega arith)

-- the two views agree at every id
same-typ : (s table : List ℕ) (b : Btf) → Known s b → (i : ℕ) → tab_typ s (laid (types_in s b) b.types.start b.last table) b.last i ≡ typ (types_in s b) b.last i
unfolding tab_typ typ
same-typ s table b k i = go (ltb 0 i) refl (leb i b.last) refl
  where
    t : List ℕ
    t = types_in s b

    new : List ℕ
    new = laid (types_in s b) b.types.start b.last table

    go : (p : Bool) → ltb 0 i ≡ p → (q : Bool) → leb i b.last ≡ q
        → cond (p && q && ltb i (length (laid (types_in s b) b.types.start b.last table))) (type_at s (get_or (laid (types_in s b) b.types.start b.last table) i 0)) void
        ≡ cond (p && q) (type_at (types_in s b) (off (types_in s b) 0 (i - 1))) void
    go false e q f = refl
    go true e false f = refl
    go true e true f =
        let pos : 0 < i = ltb-true 0 i e in
        let low : i ≤ b.last = leb-true i b.last f in
        rw (
          lt-ltb i (length (laid (types_in s b) b.types.start b.last table)) (omega (arith, length-laid (types_in s b) b.types.start b.last table)),
          get_d_laid (types_in s b) b.types.start b.last table i pos low,
        )
        (sym (type_within (section-within s b.types.start b.types.size) (off (types_in s b) 0 (i - 1)) (walked (types_in s b) b.last 0 0 (i - 1) k.sound.walk (omega arith))))

-- The view by the table that a read has left is the document's view.
pub views_agree : (s table : List ℕ) (b : Btf) → Read b ≡ decode s (length table) → tab_view s (tabled s table) b ≡ doc_view s b
unfolding tabled
views_agree s table b h = rw (← h) (ap view_with (fun_ext (same-typ s table b (told-accepted s b (read_accepted s (length table) b h)))))
  where
    view_with : (ℕ → Ty) → View
    view_with f = record { count = b.last; room = length (strings_in s b); typ = f; text = (doc_view s b).text }

-- what a test of a type tells
pub record Fit (room last : ℕ) (ty : Ty) : Type 0 where
  pub name : ty.name < room
  pub ref : ty.ref ≤ last
  pub index : ty.index ≤ last
  pub entries : Inside last room ty.entries

told_entries : (room last : ℕ) (es : List Entry) → all_fit room last es ≡ true → Inside last room es
unfolding all_fit
told_entries room last [] h = tt
told_entries room last (e ∷ es) h =
    let f : entry_fits room last e ≡ true = and_l (entry_fits room last e) (all_fit room last es) h in (
      ltb-true e.name room (and_l (ltb e.name room) (leb e.typ last) f),
      leb-true e.typ last (and_r (ltb e.name room) (leb e.typ last) f),
      told_entries room last es (and_r (entry_fits room last e) (all_fit room last es) h),
    )

told-fits : (room last : ℕ) (ty : Ty) → fits room last ty ≡ true → Fit room last ty
unfolding fits
told-fits room last ty h =
    let a = and_r (ltb ty.name room) (leb ty.ref last && (leb ty.index last && all_fit room last ty.entries)) h in
    let b = and_r (leb ty.ref last) (leb ty.index last && all_fit room last ty.entries) a in
    record {
      name = ltb-true ty.name room (and_l (ltb ty.name room) (leb ty.ref last && (leb ty.index last && all_fit room last ty.entries)) h);
      ref = leb-true ty.ref last (and_l (leb ty.ref last) (leb ty.index last && all_fit room last ty.entries) a);
      index = leb-true ty.index last (and_l (leb ty.index last) (all_fit room last ty.entries) b);
      entries = told_entries room last ty.entries (and_r (leb ty.index last) (all_fit room last ty.entries) b);
    }

-- the strings have room for the empty name
pub roomed : (z : List ℕ) → strings_fine z ≡ true → 0 < length z
unfolding strings_fine
roomed z h = ltb-true 0 (length z) (and_l (ltb 0 (length z)) (eqb (get_or z 0 0) 0 && eqb (get_or z (length z - 1) 0) 0) h)

module _ {most : ℕ} (t z : List ℕ) (n : ℕ) (k : Sound most t z n) where
  fit : (i : ℕ) → Fit (length z) n (typ t n i)
  unfolding typ
  fit i = go (ltb 0 i) refl (leb i n) refl
    where
      none : Fit (length z) n void
      none = record { name = roomed z k.strings; ref = omega arith; index = omega arith; entries = tt }

      go : (p : Bool) → ltb 0 i ≡ p → (q : Bool) → leb i n ≡ q → Fit (length z) n (cond (p && q) (type_at t (off t 0 (i - 1))) void)
      go false e q f = none
      go true e false f = none
      go true e true f =
          let pos : 0 < i = ltb-true 0 i e in
          let low : i ≤ n = leb-true i n f in
          told-fits (length z) n (type_at t (off t 0 (i - 1))) (fitted t (length z) n n 0 0 (i - 1) k.fit (omega arith))

  -- the view of accepted sections is closed
  pub closed : Closed (view_of t z n)
  closed = record { name = λ i. (fit i).name; ref = λ i. (fit i).ref; index = λ i. (fit i).index; entries = λ i. (fit i).entries }

-- The document's view of accepted bytes is closed.
pub doc_closed : (s : List ℕ) (b : Btf) → Accepted b ≡ accepted s → Closed (doc_view s b)
doc_closed s b p = closed (types_in s b) (strings_in s b) b.last (told-accepted s b p).sound
