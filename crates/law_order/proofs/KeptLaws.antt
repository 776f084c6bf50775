-- Every patch keeps what `Keeps` says.
-- Assumes nothing.
use Prim.Native.Nat.{ℕ, zero, suc, ◌+◌, ◌*◌, ◌/◌, ◌%◌, ◌≤◌, ◌<◌}
use mathlib.Core.Path.{◌≡◌, refl, sym, ap, ap₂, ◌∙◌, subst}
use mathlib.Core.Bool.{Bool, true, false, cond}
use mathlib.Core.List.{List, [], ◌∷◌, ◌++◌, append-nil}
use mathlib.Core.Logic.{◌⊎◌, ⊎_elim, inl, inr}
use native.Mathlib.Omega.{arith}
use lib.Dec.{T, eqb, ltb}
use borrow.Author.Tests.{lt-ltb, ltb-true}
use Rattle.btf_kinds.proofs.Keys.{split}
use lib.ListN.{length, get_or, take, drop, set, length-set, length-take, length-drop, length-append, take-append-drop, drop_of_length-le}
use lib.Seq.{sets, take-set-lt, drop-set-lt, get_or-take, take_all, length-take-le, take-add, take_at, drop_at, take-take, take-append-add}
use lib.Seq.{drop-append-add, drop-drop}
use Rattle.word_read.specs.Num.{Order, little}
use Rattle.word_read.specs.Put.{first, rest, put_at}
use Rattle.rules.specs.declared.Refusal.{Refusal}
use Rattle.rules.specs.declared.Refusal.TheVariants.{NoSuccessor, BadInstruction}
use Rattle.rules.specs.declared.Resize.{Resize}
use Rattle.rules.specs.declared.Resize.TheVariants.{Same, OneSided, Unlike, To}
use Rattle.rules.specs.declared.Write.{Write}
use Rattle.rules.specs.declared.Write.TheVariants.{Put, Poison}
use Rattle.rules.specs.Apply.{Patch, done, stopped, has_slot, code, class, is_alu, is_memory, is_wide, source_register, with_code, with_off, with_imm}
use Rattle.rules.specs.Apply.{low, high, poisoned, also_next, poison, patch_alu}
use Rattle.rules.specs.Apply.{size_bits, with_size, resized, resize, patch_memory, patch_wide, patch_class, patch_front, behind, patch}
use Rattle.law_order.specs.Kept.{bytes_of, Partial, takes_next, patch_width, mapped, patch_width_at, Keeps}
use Rattle.std.specs.Prelude.{None, Option, Some}

-- A writer of the first r bytes: it does the same to them alone, and leaves those behind.
pub record Writes (r : ℕ) (f : List ℕ → List ℕ) : Type 0 where
  pub cut : (xs : List ℕ) → take r (f xs) ≡ f (take r xs)
  pub rest : (xs : List ℕ) → drop r (f xs) ≡ drop r xs
  pub long : (xs : List ℕ) → length (f xs) ≡ length xs

pub nothing : (r : ℕ) → Writes r (λ xs. xs)
nothing r = record { cut = λ xs. refl; rest = λ xs. refl; long = λ xs. refl }

pub after : {r : ℕ} {f g : List ℕ → List ℕ} → Writes r f → Writes r g → Writes r (λ xs. g (f xs))
after {f = f} {g = g} p q =
    record { cut = λ xs. q.cut (f xs) ∙ ap g (p.cut xs); rest = λ xs. q.rest (f xs) ∙ p.rest xs; long = λ xs. q.long (f xs) ∙ p.long xs }

byte : (r i a : ℕ) → i < r → Writes r (λ xs. set xs i a)
byte r i a h = record { cut = λ xs. take-set-lt r xs i a h; rest = λ xs. drop-set-lt r xs i a h; long = λ xs. length-set xs i a }

number : (r : ℕ) (o : Order) (n at v : ℕ) → at + n ≤ r → Writes r (λ xs. put_at o n xs at v)
unfolding put_at
number r o zero at v h = nothing r
number r o (suc n) at v h = after (byte r at (first o n v) (omega arith)) (number r o n (at + 1) (rest o n v) (omega arith))

bytes : (r i : ℕ) (vs : List ℕ) → i + length vs ≤ r → Writes r (λ xs. sets xs i vs)
bytes r i [] h = nothing r
bytes r i (v ∷ vs) h = after (byte r i v (omega arith)) (bytes r (suc i) vs (omega arith))

-- The writers of an instruction
code-cut : (r : ℕ) (xs : List ℕ) → 8 ≤ r → code (take r xs) ≡ code xs
unfolding code
code-cut r xs h = get_or-take r xs 0 0 (omega arith)

module _ (r : ℕ) (h : 8 ≤ r) where
  imm : (n : ℕ) → Writes r (λ xs. with_imm xs n)
  unfolding with_imm
  imm n = number r little 4 4 n h

  off : (n : ℕ) → Writes r (λ xs. with_off xs n)
  unfolding with_off
  off n = number r little 2 2 n (omega arith)

  poison-writes : Writes r poisoned
  unfolding poisoned
  poison-writes = bytes r 0 (0x85 ∷ 0 ∷ 0 ∷ 0 ∷ 0x10 ∷ 0x23 ∷ 0xad ∷ 0x0b ∷ []) h

  size-writes : (b : ℕ) → Writes r (λ xs. with_size xs b)
  unfolding with_size with_code
  size-writes b =
      record {
        cut = λ xs. rw (code-cut r xs h) (take-set-lt r xs 0 (code xs / 32 * 32 + b + code xs % 8) (omega arith));
        rest = λ xs. drop-set-lt r xs 0 (code xs / 32 * 32 + b + code xs % 8) (omega arith);
        long = λ xs. length-set xs 0 (code xs / 32 * 32 + b + code xs % 8);
      }

-- A patch p of xs, beside the patch q of their first r bytes
abbrev pub Leaves : ℕ → List ℕ → Patch → Type 0
Leaves i xs (done ys) = Unit
Leaves i xs (stopped e ys) = (ys ≡ xs) ⊎ Partial i e

pub record Kept (r i : ℕ) (xs : List ℕ) (p q : Patch) : Type 0 where
  pub cut : mapped (take r) p ≡ q
  pub rest : drop r (bytes_of p) ≡ drop r xs
  pub long : length (bytes_of p) ≡ length xs
  pub left : Leaves i xs p

module _ {r i : ℕ} {f : List ℕ → List ℕ} (p : Writes r f) (xs : List ℕ) where
  wrote : Kept r i xs (done (f xs)) (done (f (take r xs)))
  wrote = record { cut = ap done (p.cut xs); rest = p.rest xs; long = p.long xs; left = tt }

  stops : (e : Refusal) → Partial i e → Kept r i xs (stopped e (f xs)) (stopped e (f (take r xs)))
  stops e h = record { cut = ap (stopped e) (p.cut xs); rest = p.rest xs; long = p.long xs; left = inr h }

  resizes : 8 ≤ r → (z : Resize) → Kept r i xs (resize (f xs) z) (resize (f (take r xs)) z)
  unfolding resize
  resizes h Same = wrote
  resizes h OneSided = stops (BadInstruction 6) (inr (inr (inr refl)))
  resizes h Unlike = stops (BadInstruction 3) (inr (inl refl))
  resizes h (To s) = go (size_bits s)
    where
      go : (o : Option ℕ) → Kept r i xs (resized (f xs) o) (resized (f (take r xs)) o)
      go None = stops (BadInstruction 4) (inr (inr (inl refl)))
      go (Some b) =
          let q = after p (size-writes r h b) in
          record { cut = ap done (q.cut xs); rest = q.rest xs; long = q.long xs; left = tt }

module _ {r i : ℕ} {xs : List ℕ} where
  stays : (e : Refusal) → Kept r i xs (stopped e xs) (stopped e (take r xs))
  stays e = record { cut = refl; rest = refl; long = refl; left = inl refl }

  either : (b : Bool) {p p' q q' : Patch} → Kept r i xs p q → Kept r i xs p' q' → Kept r i xs (cond b p p') (cond b q q')
  either true k k' = k
  either false k k' = k'

-- The successor, of a list and of its first 16 bytes
next-cut : (xs : List ℕ) → has_slot (take 16 xs) 1 ≡ has_slot xs 1
next-cut xs =
    ⊎_elim
    (λ (h : length xs < 16). ap (λ (l : List ℕ). has_slot l 1) (take_all 16 xs (omega arith)))
    (λ (h : 16 ≤ length xs). ap (λ (n : ℕ). ltb 1 (n / 8)) (length-take-le 16 xs h) ∙ sym (lt-ltb 1 (length xs / 8) (omega arith)))
    (split (length xs) 16)

second : (xs : List ℕ) → 8 ≤ length xs → drop 8 (take 16 xs) ≡ take 8 (drop 8 xs)
second xs h = ap (drop 8) (take-add 8 8 xs) ∙ drop_at (take 8 xs) (take 8 (drop 8 xs)) 8 (length-take-le 8 xs h)

module _ {i : ℕ} {change f : List ℕ → List ℕ} (c : Writes 8 change) (p : Writes 16 f) (xs : List ℕ) where
  both : (zs : List ℕ) → 8 ≤ length zs → zs ≡ f xs → Kept 16 i xs (done (take 8 zs ++ change (drop 8 zs))) (done (take 8 (take 16 zs) ++ change (drop 8 (take 16 zs))))
  both zs h e =
      let l : length (take 8 zs) ≡ 8 = length-take-le 8 zs h in
      let g = change (drop 8 zs) in
      record {
        cut = ap done (
            ap (λ (n : ℕ). take (n + 8) (take 8 zs ++ g)) (sym l) ∙ take-append-add (take 8 zs) g 8
            ∙ ap₂ ◌++◌ (sym (take-take 8 16 zs (omega arith))) (c.cut (drop 8 zs) ∙ ap change (sym (second zs h)))
            );
        rest =
            ap (λ (n : ℕ). drop (n + 8) (take 8 zs ++ g)) (sym l) ∙ drop-append-add (take 8 zs) g 8
            ∙ c.rest (drop 8 zs) ∙ drop-drop 8 8 zs ∙ ap (drop 16) e ∙ p.rest xs;
        long = omega (arith, length-append (take 8 zs) g, c.long (drop 8 zs), length-drop 8 zs, ap length e, p.long xs);
        left = tt;
      }

  also : Kept 16 i xs (also_next change (f xs) i) (also_next change (f (take 16 xs)) i)
  unfolding also_next
  also = rw (← p.cut xs, next-cut (f xs)) (go (has_slot (f xs) 1) refl)
    where
      go : (b : Bool) → has_slot (f xs) 1 ≡ b
          → Kept 16 i xs (cond b (done (take 8 (f xs) ++ change (drop 8 (f xs)))) (stopped (NoSuccessor (i + 1)) (f xs)))
          (cond b (done (take 8 (take 16 (f xs)) ++ change (drop 8 (take 16 (f xs))))) (stopped (NoSuccessor (i + 1)) (take 16 (f xs))))
      go true e = both (f xs) (omega (arith, ltb-true 1 (length (f xs) / 8) e)) refl
      go false e = record { cut = refl; rest = p.rest xs; long = p.long xs; left = inr (inl refl) }

-- By class; a 64-bit immediate alone looks behind the first 8 bytes.
module _ (r i : ℕ) (xs : List ℕ) (h : 8 ≤ r) where
  alu : (n : ℕ) → Kept r i xs (patch_alu xs n) (patch_alu (take r xs) n)
  unfolding patch_alu source_register
  alu n = rw (get_or-take r xs 1 0 (omega arith)) (either (eqb (get_or xs 1 0 / 16) 0) (wrote (imm r h (low n)) xs) (stays (BadInstruction 1)))

  memory : (n : ℕ) (z : Resize) → Kept r i xs (patch_memory xs n z) (patch_memory (take r xs) n z)
  unfolding patch_memory
  memory n z = either (ltb 32767 n) (stays (BadInstruction 2)) (resizes (off r h n) xs h z)

  wide : (c n : ℕ) → (is_wide c ≡ true → r ≡ 16)
      → Kept r i xs (cond (is_wide c) (patch_wide xs i n) (stopped (BadInstruction 5) xs)) (cond (is_wide c) (patch_wide (take r xs) i n) (stopped (BadInstruction 5) (take r xs)))
  unfolding patch_wide
  wide c n k = go (is_wide c) k
    where
      go : (b : Bool) → (b ≡ true → r ≡ 16)
          → Kept r i xs (cond b (patch_wide xs i n) (stopped (BadInstruction 5) xs)) (cond b (patch_wide (take r xs) i n) (stopped (BadInstruction 5) (take r xs)))
      go true k =
          subst (λ (m : ℕ). Kept m i xs (patch_wide xs i n) (patch_wide (take m xs) i n)) (sym (k refl))
          (also (imm 8 (omega arith) (high n)) (imm 16 (omega arith) (low n)) xs)
      go false k = stays (BadInstruction 5)

  by-class : (c n : ℕ) (z : Resize) → (is_wide c ≡ true → r ≡ 16) → Kept r i xs (patch_class c xs i n z) (patch_class c (take r xs) i n z)
  unfolding patch_class
  by-class c n z k = either (is_alu c) (alu n) (either (is_memory c) (memory n z) (wide c n k))

  poisons : (eqb (code xs) 0x18 ≡ true → r ≡ 16) → Kept r i xs (poison xs i) (poison (take r xs) i)
  unfolding poison
  poisons k = rw (code-cut r xs h) (go (eqb (code xs) 0x18) k)
    where
      go : (b : Bool) → (b ≡ true → r ≡ 16)
          → Kept r i xs (cond b (also_next poisoned (poisoned xs) i) (done (poisoned xs))) (cond b (also_next poisoned (poisoned (take r xs)) i) (done (poisoned (take r xs))))
      go true k =
          subst (λ (m : ℕ). Kept m i xs (also_next poisoned (poisoned xs) i) (also_next poisoned (poisoned (take m xs)) i)) (sym (k refl))
          (also (poison-writes 8 (omega arith)) (poison-writes 16 (omega arith)) xs)
      go false k = wrote (poison-writes r h) xs

  fronts : (w : Write) → (takes_next (code xs) w ≡ true → r ≡ 16) → Kept r i xs (patch_front xs i w) (patch_front (take r xs) i w)
  unfolding patch_front
  fronts Poison k = poisons k
  fronts (Put n z) k = rw (code-cut r xs h) (by-class (class (code xs)) n z k)

-- The bytes in reach
pub front : (xs : List ℕ) (i : ℕ) (w : Write) → Kept (patch_width (code xs) w) i xs (patch_front xs i w) (patch_front (take (patch_width (code xs) w) xs) i w)
unfolding patch_width
front xs i w = go (takes_next (code xs) w) refl
  where
    go : (b : Bool) → takes_next (code xs) w ≡ b → Kept (cond b 16 8) i xs (patch_front xs i w) (patch_front (take (cond b 16 8) xs) i w)
    go true e = fronts 16 i xs (omega arith) w (λ t. refl)
    go false e = fronts 8 i xs (omega arith) w (λ t. absurd (subst T (sym t ∙ e) tt))

pub reaches : (c : ℕ) (w : Write) → 8 ≤ patch_width c w
unfolding patch_width
reaches c w = go (takes_next c w)
  where
    go : (b : Bool) → 8 ≤ cond b 16 8
    go true = omega arith
    go false = omega arith

-- A list put together again at a place
module _ (xs ys : List ℕ) (a : ℕ) (l : length ys ≡ length (drop a xs)) where
  joined_length : length (take a xs ++ ys) ≡ length xs
  joined_length = length-append (take a xs) ys ∙ ap (λ (n : ℕ). length (take a xs) + n) l ∙ sym (length-append (take a xs) (drop a xs)) ∙ ap length (take-append-drop a xs)

  pub seam : (take a (take a xs ++ ys) ≡ take a xs) × (drop a (take a xs ++ ys) ≡ ys)
  seam =
      ⊎_elim
      (λ (h : length xs < a).
      let e : ys ≡ [] = empty ys (omega (arith, length-drop a xs)) in
      let w : take a xs ++ ys ≡ take a xs = ap (λ (l : List ℕ). take a xs ++ l) e ∙ append-nil (take a xs) in
      (ap (take a) w ∙ take-take a a xs (omega arith), ap (drop a) w ∙ drop_of_length-le (take a xs) {i = a} (omega (arith, length-take a xs)) ∙ sym e))
      (λ (h : a ≤ length xs).
      let m : length (take a xs) ≡ a = length-take-le a xs h in
      (take_at (take a xs) ys a m, drop_at (take a xs) ys a m))
      (split (length xs) a)
    where
      empty : (l : List ℕ) → length l ≡ 0 → l ≡ []
      empty [] e = refl
      empty (x ∷ l) e = absurd (let z : ⊥ = omega arith in z)

-- The whole
bytes-behind : (front : List ℕ) (p : Patch) → bytes_of (behind front p) ≡ front ++ bytes_of p
bytes-behind front (done xs) = refl
bytes-behind front (stopped e xs) = refl

module _ (xs : List ℕ) (i : ℕ) (w : Write) where
  abbrev a : ℕ
  a = 8 * i

  abbrev r : ℕ
  r = patch_width_at xs i w

  k : Kept r i (drop a xs) (patch_front (drop a xs) i w) (patch_front (take r (drop a xs)) i w)
  k = front (drop a xs) i w

  pub whole : bytes_of (patch xs i w) ≡ take a xs ++ bytes_of (patch_front (drop a xs) i w)
  unfolding patch
  whole = bytes-behind (take a xs) (patch_front (drop a xs) i w)

  pub parts : (take a (bytes_of (patch xs i w)) ≡ take a xs) × (drop a (bytes_of (patch xs i w)) ≡ bytes_of (patch_front (drop a xs) i w))
  parts = let s = seam xs (bytes_of (patch_front (drop a xs) i w)) a k.long in (ap (take a) whole ∙ s.0, ap (drop a) whole ∙ s.1)

  window : (p : Patch) → drop a (take a xs ++ bytes_of p) ≡ bytes_of p → mapped (λ ys. take r (drop a ys)) (behind (take a xs) p) ≡ mapped (take r) p
  window (done ys) e = ap (λ (l : List ℕ). done (take r l)) e
  window (stopped f ys) e = ap (λ (l : List ℕ). stopped f (take r l)) e

  leaves : (p : Patch) → Leaves i (drop a xs) p → Leaves i xs (behind (take a xs) p)
  leaves (done ys) h = tt
  leaves (stopped e ys) h = ⊎_elim (λ (q : ys ≡ drop a xs). inl (ap (λ (l : List ℕ). take a xs ++ l) q ∙ take-append-drop a xs)) inr h

  pub keeps : Keeps xs i w
  unfolding patch
  keeps =
      let p = patch_front (drop a xs) i w in
      record {
        long = ap length whole ∙ joined_length xs (bytes_of p) a k.long;
        before = parts.0;
        rest = sym (drop-drop r a (bytes_of (patch xs i w))) ∙ ap (drop r) parts.1 ∙ k.rest ∙ drop-drop r a xs;
        within = window p (seam xs (bytes_of p) a k.long).1 ∙ k.cut;
        refused = λ e. subst (Leaves i xs) e (leaves p k.left);
      }
