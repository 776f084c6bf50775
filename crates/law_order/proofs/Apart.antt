-- Two patches whose bytes do not meet may change places: each says what it says alone, and the same bytes are left.
-- Assumes nothing.
use Prim.Native.Nat.{ℕ, zero, suc, ◌+◌, ◌-◌, ◌*◌, ◌≤◌, ◌<◌}
use mathlib.Core.Path.{◌≡◌, refl, sym, ap, ap₂, ◌∙◌, subst}
use mathlib.Core.List.{List, [], ◌∷◌, ◌++◌}
use native.Mathlib.Omega.{arith}
use native.Mathlib.Nat.{zero-add, suc-add}
use lib.ListN.{get_or, take, drop, take-append-drop}
use lib.Seq.{get_or-take, get_or-drop, take-nil, take-add, take-take, drop-drop}
use Rattle.rules.specs.declared.Write.{Write}
use Rattle.rules.specs.Apply.{Patch, done, stopped, code, patch_front, behind, patch}
use Rattle.law_order.specs.Kept.{bytes_of, refusal_of, patch_width, mapped, patch_width_at}
use Rattle.law_order.proofs.KeptLaws.{reaches, keeps, parts}

-- Instruction i is patched and then j, or j and then i.
pub record Apart (xs : List ℕ) (i : ℕ) (w : Write) (j : ℕ) (u : Write) : Type 0 where
  pub first : refusal_of (patch (bytes_of (patch xs j u)) i w) ≡ refusal_of (patch xs i w)
  pub second : refusal_of (patch (bytes_of (patch xs i w)) j u) ≡ refusal_of (patch xs j u)
  pub bytes : bytes_of (patch (bytes_of (patch xs i w)) j u) ≡ bytes_of (patch (bytes_of (patch xs j u)) i w)

-- What two lists agree in
pub drop-take : (a n : ℕ) (xs : List ℕ) → drop a (take (a + n) xs) ≡ take n (drop a xs)
drop-take zero n xs = ap (λ (m : ℕ). take m xs) (zero-add n)
drop-take (suc a) n [] = rw (suc-add a n) (sym (take-nil n))
drop-take (suc a) n (x ∷ xs) = rw (suc-add a n) (drop-take a n xs)

module _ (n : ℕ) (xs ys : List ℕ) where
  pub later : (m : ℕ) → n ≤ m → drop n xs ≡ drop n ys → drop m xs ≡ drop m ys
  later m h e =
      let s : m ≡ n + (m - n) = omega arith in
      ap (λ (k : ℕ). drop k xs) s ∙ sym (drop-drop (m - n) n xs) ∙ ap (drop (m - n)) e ∙ drop-drop (m - n) n ys ∙ ap (λ (k : ℕ). drop k ys) (sym s)

  earlier : (m : ℕ) → m ≤ n → take n xs ≡ take n ys → take m xs ≡ take m ys
  earlier m h e = sym (take-take m n xs h) ∙ ap (take m) e ∙ take-take m n ys h

  inside : (a m : ℕ) → a + m ≤ n → take n xs ≡ take n ys → take m (drop a xs) ≡ take m (drop a ys)
  inside a m h e = sym (drop-take a m xs) ∙ ap (drop a) (earlier (a + m) h e) ∙ drop-take a m ys

  pub at : (a : ℕ) → a < n → take n xs ≡ take n ys → code (drop a xs) ≡ code (drop a ys)
  unfolding code
  at a h e = get_or-drop a xs 0 0 ∙ sym (get_or-take n xs (a + 0) 0 (omega arith)) ∙ ap (λ (l : List ℕ). get_or l (a + 0) 0) e ∙ get_or-take n ys (a + 0) 0 (omega arith) ∙ sym (get_or-drop a ys 0 0)

-- What a patch says and leaves is said and left by the part of it
refusal-behind : (front : List ℕ) (p : Patch) → refusal_of (behind front p) ≡ refusal_of p
refusal-behind front (done xs) = refl
refusal-behind front (stopped r xs) = refl

refusal-mapped : (f : List ℕ → List ℕ) (p : Patch) → refusal_of (mapped f p) ≡ refusal_of p
refusal-mapped f (done xs) = refl
refusal-mapped f (stopped r xs) = refl

bytes-mapped : (f : List ℕ → List ℕ) (p : Patch) → bytes_of (mapped f p) ≡ f (bytes_of p)
bytes-mapped f (done xs) = refl
bytes-mapped f (stopped r xs) = refl

said : (xs : List ℕ) (i : ℕ) (w : Write) → refusal_of (patch xs i w) ≡ refusal_of (patch_front (drop (8 * i) xs) i w)
unfolding patch
said xs i w = refusal-behind (take (8 * i) xs) (patch_front (drop (8 * i) xs) i w)

-- Instruction i and what its patch reaches lie before instruction j.
module _ (xs : List ℕ) (i : ℕ) (w : Write) (j : ℕ) (u : Write) (h : 8 * i + patch_width_at xs i w ≤ 8 * j) where
  abbrev a : ℕ
  a = 8 * i

  abbrev b : ℕ
  b = 8 * j

  abbrev r : ℕ
  r = patch_width_at xs i w

  -- after i, and after j
  abbrev ys : List ℕ
  ys = bytes_of (patch xs i w)

  abbrev zs : List ℕ
  zs = bytes_of (patch xs j u)

  behind-same : drop b ys ≡ drop b xs
  behind-same = later (a + r) ys xs b h (keeps xs i w).rest

  before_same : take b zs ≡ take b xs
  before_same = (keeps xs j u).before

  reach-same : patch_width_at zs i w ≡ r
  reach-same = ap (λ (c : ℕ). patch_width c w) (at b zs xs a (omega (arith, reaches (code (drop a xs)) w)) before_same)

  -- the bytes in reach of i, before and after
  window : patch_front (take (patch_width_at zs i w) (drop a zs)) i w ≡ patch_front (take r (drop a xs)) i w
  window = ap (λ (m : ℕ). patch_front (take m (drop a zs)) i w) reach-same ∙ ap (λ (l : List ℕ). patch_front l i w) (inside b zs xs a r h before_same)

  second : refusal_of (patch ys j u) ≡ refusal_of (patch xs j u)
  second = said ys j u ∙ ap (λ (l : List ℕ). refusal_of (patch_front l j u)) behind-same ∙ sym (said xs j u)

  stays : (xs : List ℕ) → refusal_of (patch xs i w) ≡ refusal_of (patch_front (take (patch_width_at xs i w) (drop a xs)) i w)
  stays xs = sym (refusal-mapped (λ l. take (patch_width_at xs i w) (drop a l)) (patch xs i w)) ∙ ap refusal_of (keeps xs i w).within

  first : refusal_of (patch zs i w) ≡ refusal_of (patch xs i w)
  first = stays zs ∙ ap refusal_of window ∙ sym (stays xs)

  -- the bytes, from j on and before it
  from_j : drop b (bytes_of (patch ys j u)) ≡ drop b (bytes_of (patch zs i w))
  from_j =
      (parts ys j u).1 ∙ ap (λ (l : List ℕ). bytes_of (patch_front l j u)) behind-same ∙ sym (parts xs j u).1
      ∙ sym (later (a + r) (bytes_of (patch zs i w)) zs b h (subst (λ (m : ℕ). drop (a + m) (bytes_of (patch zs i w)) ≡ drop (a + m) zs) reach-same (keeps zs i w).rest))

  abbrev m : ℕ
  m = b - (a + r)

  thirds : (l : List ℕ) → take b l ≡ take a l ++ (take r (drop a l) ++ take m (drop (a + r) l))
  thirds l =
      let e : b ≡ a + (r + m) = omega arith in
      ap (λ (n : ℕ). take n l) e ∙ take-add a (r + m) l
      ∙ ap (λ (t : List ℕ). take a l ++ t) (take-add r m (drop a l) ∙ ap (λ (t : List ℕ). take r (drop a l) ++ take m t) (drop-drop r a l))

  left : (xs : List ℕ) → take (patch_width_at xs i w) (drop a (bytes_of (patch xs i w))) ≡ bytes_of (patch_front (take (patch_width_at xs i w) (drop a xs)) i w)
  left xs = sym (bytes-mapped (λ l. take (patch_width_at xs i w) (drop a l)) (patch xs i w)) ∙ ap bytes_of (keeps xs i w).within

  middle : take r (drop a (bytes_of (patch zs i w))) ≡ take r (drop a ys)
  middle = ap (λ (n : ℕ). take n (drop a (bytes_of (patch zs i w)))) (sym reach-same) ∙ left zs ∙ ap bytes_of window ∙ sym (left xs)

  to_j : take m (drop (a + r) (bytes_of (patch zs i w))) ≡ take m (drop (a + r) ys)
  to_j =
      ap (take m) (subst (λ (n : ℕ). drop (a + n) (bytes_of (patch zs i w)) ≡ drop (a + n) zs) reach-same (keeps zs i w).rest)
      ∙ inside b zs xs (a + r) m (omega arith) before_same ∙ ap (take m) (sym (keeps xs i w).rest)

  before_j : take b (bytes_of (patch ys j u)) ≡ take b (bytes_of (patch zs i w))
  before_j =
      (keeps ys j u).before ∙ thirds ys
      ∙ ap₂ (λ (s t : List ℕ). s ++ t) ((keeps xs i w).before ∙ sym (earlier b zs xs a (omega arith) before_same) ∙ sym (keeps zs i w).before)
      (ap₂ (λ (s t : List ℕ). s ++ t) (sym middle) (sym to_j))
      ∙ sym (thirds (bytes_of (patch zs i w)))

  pub apart : Apart xs i w j u
  apart =
      record {
        first = first;
        second = second;
        bytes = sym (take-append-drop b (bytes_of (patch ys j u))) ∙ ap₂ (λ (s t : List ℕ). s ++ t) before_j from_j ∙ take-append-drop b (bytes_of (patch zs i w));
      }
