-- More types behind the types and more strings behind the strings give a view that extends the old one.
-- Assumes nothing.
use Prim.Native.Nat.{ℕ, zero, suc, ◌+◌, ◌-◌, ◌≤◌, ◌<◌}
use mathlib.Core.Path.{◌≡◌, refl, ap, ◌∙◌}
use mathlib.Core.Bool.{Bool, true, false, cond, ◌&&◌}
use mathlib.Core.List.{List, [], ◌∷◌, ◌++◌}
use native.Mathlib.Omega.{arith}
use native.Mathlib.Nat.{zero-add}
use native.Mathlib.Decide.{dec_lt, dec_le}
use lib.Dec.{ltb, eqb}
use lib.ListN.{length, get_or, drop, length-append}
use lib.Seq.{drop-append-le}
use borrow.Author.Tests.{lt-ltb, ltb-true, le-leb, eqb-true}
use Rattle.word_read.proofs.Parts.{front-within}
use Rattle.btf_kinds.specs.Types.{void, type_at, type_bytes, after}
use Rattle.btf_kinds.proofs.Laws.{type_within, bytes-within}
use Rattle.btf_accept.specs.declared.Btf.{Btf}
use Rattle.btf_accept.specs.declared.Scan.{Scan}
use Rattle.btf_accept.specs.declared.Scan.TheVariants.{Count, Stop, Many}
use Rattle.btf_accept.specs.declared.Whole.TheVariants.{Accepted}
use Rattle.btf_accept.specs.Sections.{types_in, strings_in, strings_fine}
use Rattle.btf_pass.specs.Good.{good}
use Rattle.btf_accept.specs.Accept.{scan, accepted}
use Rattle.btf_pass.proofs.Tests.{and_r}
use Rattle.btf_pass.proofs.TypeLaws.{least}
use Rattle.btf_accept.specs.Shape.{Walking}
use Rattle.btf_accept.proofs.ScanLaws.{walking-fits, walking-next}
use Rattle.btf_accept.proofs.WholeLaws.{Sound, told-accepted}
use Rattle.btf_view.specs.Text.{cut, text_at}
use Rattle.btf_view.specs.View.{off, typ, view_of, doc_view}
use Rattle.btf_view.proofs.Extends.{Extends}
use Rattle.btf_view.proofs.Agree.{walked, roomed}

-- a scan counts on from n, and counts one more where a type is left
scan-least : (t : List ℕ) (left at n last : ℕ) → scan t left at n ≡ Count last → n ≤ last
unfolding scan
scan-least t zero at n last h = go (ltb at (length t)) h
  where
    go : (b : Bool) → cond b Many (Count n) ≡ Count last → n ≤ last
    go true q = let y : ◌≡◌ {A = ℕ} 0 1 = cc in absurd (omega arith)
    go false q = let l : n ≡ last = cc in omega arith
scan-least t (suc left) at n last h =
    go (ltb at (length t)) (good t at) (scan t left (after t at) (n + 1)) (scan-least t left (after t at) (n + 1) last) h
  where
    go : (b g : Bool) (r : Scan) → (r ≡ Count last → n + 1 ≤ last) → cond b (cond g r (Stop (n + 1))) (Count n) ≡ Count last → n ≤ last
    go true true r i q = let l : n + 1 ≤ last = i q in omega arith
    go true false r i q = let y : ◌≡◌ {A = ℕ} 0 1 = cc in absurd (omega arith)
    go false g r i q = let l : n ≡ last = cc in omega arith

scan-one : (t : List ℕ) (left at n last : ℕ) → at < length t → scan t left at n ≡ Count last → n < last
unfolding scan
scan-one t zero at n last l h = let z : Many ≡ Count last = rw (← h, lt-ltb at (length t) l) in let y : ◌≡◌ {A = ℕ} 0 1 = cc in absurd (omega arith)
scan-one t (suc left) at n last l h = go (good t at) (scan t left (after t at) (n + 1)) (scan-least t left (after t at) (n + 1) last) (shown h)
  where
    shown : cond (ltb at (length t)) (cond (good t at) (scan t left (after t at) (n + 1)) (Stop (n + 1))) (Count n) ≡ Count last
        → cond (good t at) (scan t left (after t at) (n + 1)) (Stop (n + 1)) ≡ Count last
    shown q = rw (← q, lt-ltb at (length t) l)

    go : (g : Bool) (r : Scan) → (r ≡ Count last → n + 1 ≤ last) → cond g r (Stop (n + 1)) ≡ Count last → n < last
    go true r i q = let k : n + 1 ≤ last = i q in omega arith
    go false r i q = let y : ◌≡◌ {A = ℕ} 0 1 = cc in absurd (omega arith)

-- the types fill the section
filled : {most : ℕ} (t : List ℕ) (last at n j : ℕ) → Walking most t last at n → n + j ≡ last → length t ≤ off t at j
unfolding off
filled {most} t last at n zero w h = go (dec_lt at (length t))
  where
    go : Dec (at < length t) → length t ≤ at
    go (yes p) = absurd (omega (arith, scan-one t (most - n) at n last p w.rest))
    go (no p) = omega arith
filled t last at n (suc j) w h = filled t last (after t at) (n + 1) j (walking-next w (omega arith)) (omega arith)

module _ (t a : List ℕ) where
  after_more : (at : ℕ) → at + 8 ≤ length t → after (t ++ a) at ≡ after t at
  after_more at h = let e : type_bytes t at ≡ type_bytes (t ++ a) (0 + at) = bytes-within (front-within t a) at h in rw (e, zero-add at)

  type_more : (at : ℕ) → after t at ≤ length t → type_at (t ++ a) at ≡ type_at t at
  type_more at h = let e : type_at t at ≡ type_at (t ++ a) (0 + at) = type_within (front-within t a) at h in rw (e, zero-add at)

  off-more : {most : ℕ} (last at n j : ℕ) → Walking most t last at n → n + j ≤ last → off (t ++ a) at j ≡ off t at j
  unfolding off
  off-more last at n zero w h = refl
  off-more last at n (suc j) w h =
      rw (after_more at (omega (arith, walking-fits w (omega arith), least t at))) (off-more last (after t at) (n + 1) j (walking-next w (omega arith)) (omega arith))

-- the last byte is 0
abbrev Ends : List ℕ → Type 0
Ends [] = ⊥
Ends (x ∷ []) = x ≡ 0
Ends (x ∷ y ∷ ys) = Ends (y ∷ ys)

ends : (z : List ℕ) → 0 < length z → get_or z (length z - 1) 0 ≡ 0 → Ends z
ends [] h e = absurd (omega arith)
ends (x ∷ []) h e = e
ends (x ∷ y ∷ ys) h e = ends (y ∷ ys) (omega arith) (shown e)
  where
    shown : get_or (x ∷ y ∷ ys) (suc (suc (length ys)) - 1) 0 ≡ 0 → get_or (y ∷ ys) (suc (length ys) - 1) 0 ≡ 0
    shown q =
        let k : suc (length ys) - 1 ≡ length ys = omega arith in
        let l : suc (length ys) ≡ suc (suc (length ys)) - 1 = omega arith in
        ap (λ (i : ℕ). get_or (y ∷ ys) i 0) k ∙ ap (λ (i : ℕ). get_or (x ∷ y ∷ ys) i 0) l ∙ q

fine-ends : (z : List ℕ) → strings_fine z ≡ true → Ends z
unfolding strings_fine
fine-ends z h =
    ends z (roomed z h)
    (eqb-true (get_or z (length z - 1) 0) 0
    (and_r (eqb (get_or z 0 0) 0) (eqb (get_or z (length z - 1) 0) 0) (and_r (ltb 0 (length z)) (eqb (get_or z 0 0) 0 && eqb (get_or z (length z - 1) 0) 0) h)))

cut-more : (xs b : List ℕ) → Ends xs → cut (xs ++ b) ≡ cut xs
unfolding cut
cut-more [] b e = absurd e
cut-more (zero ∷ xs) b e = refl
cut-more (suc x ∷ []) b e = absurd (omega arith)
cut-more (suc x ∷ y ∷ ys) b e = rw (cut-more (y ∷ ys) b e)

ends-drop : (o : ℕ) (xs : List ℕ) → o < length xs → Ends xs → Ends (drop o xs)
ends-drop o [] h e = absurd e
ends-drop zero (x ∷ xs) h e = e
ends-drop (suc o) (x ∷ []) h e = absurd (omega arith)
ends-drop (suc o) (x ∷ y ∷ ys) h e = ends-drop o (y ∷ ys) (omega arith) e

text-more : (z b : List ℕ) (o : ℕ) → Ends z → o < length z → text_at (z ++ b) o ≡ text_at z o
unfolding text_at
text-more z b o e h = ap cut (drop-append-le o z b (omega arith)) ∙ cut-more (drop o z) b (ends-drop o z h e)

module _ {most : ℕ} (t a z c : List ℕ) (n m : ℕ) (old : Sound most t z n) (new : Sound most (t ++ a) (z ++ c) m) where
  grown-count : n ≤ m
  grown-count = go (dec_le n m)
    where
      go : Dec (n ≤ m) → n ≤ m
      go (yes p) = p
      go (no p) =
          absurd (omega (
            arith,
            off-more t a n 0 0 m old.walk (omega arith),
            walked t n 0 0 m old.walk (omega arith),
            least t (off t 0 m),
            filled (t ++ a) m 0 0 m new.walk (omega arith),
            length-append t a,
          ))

  typ-more : (i : ℕ) → i ≤ n → typ (t ++ a) m i ≡ typ t n i
  unfolding typ
  typ-more i h = rw (le-leb i n h, le-leb i m (omega (arith, grown-count))) (go (ltb 0 i) refl)
    where
      go : (p : Bool) → ltb 0 i ≡ p → cond (p && true) (type_at (t ++ a) (off (t ++ a) 0 (i - 1))) void ≡ cond (p && true) (type_at t (off t 0 (i - 1))) void
      go false e = refl
      go true e =
          let pos : 0 < i = ltb-true 0 i e in
          rw (off-more t a n 0 0 (i - 1) old.walk (omega arith)) (type_more t a (off t 0 (i - 1)) (walked t n 0 0 (i - 1) old.walk (omega arith)))

  -- sections that grow at their ends
  pub extends : Extends (view_of t z n) (view_of (t ++ a) (z ++ c) m)
  extends = record { more = grown-count; typ = typ-more; text = λ o h. text-more z c o (fine-ends z old.strings) h }

-- Bytes whose sections begin as those of others do: the view extends theirs.
pub doc_extends : (s s' : List ℕ) (b b' : Btf) (a c : List ℕ) → Accepted b ≡ accepted s → Accepted b' ≡ accepted s'
    → types_in s' b' ≡ types_in s b ++ a → strings_in s' b' ≡ strings_in s b ++ c → Extends (doc_view s b) (doc_view s' b')
doc_extends s s' b b' a c p q e f =
    rw (e, f) (extends (types_in s b) a (strings_in s b) c b.last b'.last (told-accepted s b p).sound (rw (← e, ← f) (told-accepted s' b' q).sound))
