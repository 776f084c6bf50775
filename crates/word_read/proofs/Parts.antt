-- The laws of parts of bytes: a part that is read, and a part that is lent to be written.
-- Assumes nothing.
use mathlib.Core.Path.{◌≡◌, refl, sym, ap, ap₂, ◌∙◌}
use mathlib.Core.List.{List, [], ◌++◌, append-nil}
use Prim.Native.Nat.{ℕ, zero, suc, ◌+◌, ◌-◌, ◌≤◌, ◌<◌}
use native.Mathlib.Nat.{zero-add, add_assoc, le-add_right}
use native.Mathlib.Omega.{arith}
use lib.ListN.{length, get_or, take, drop, set, take-append-drop, length-drop, length-append, drop_of_length-le, get_or-append}
use lib.Seq.{get_or-take, get_or-drop, length-take-le, take_all, take-nil, take_at, drop_at, take-set-le, drop-set-add}
use Rattle.word_read.specs.Num.{Order, num_at, section}
use Rattle.word_read.specs.Put.{first, rest, put_at}

-- the bytes of t stand in s from a place on
pub record Within (t s : List ℕ) (base : ℕ) : Type 0 where
  pub byte : (at : ℕ) → at < length t → get_or t at 0 ≡ get_or s (base + at) 0

-- a number that lies in t is the number there in s
pub num_within : (o : Order) (n : ℕ) {t s : List ℕ} {base : ℕ} → Within t s base → (at : ℕ) → at + n ≤ length t → num_at o n t at ≡ num_at o n s (base + at)
unfolding num_at
num_within o zero w at h = refl
num_within o (suc n) {t} {s} {base} w at h = rw (w.byte at (omega arith), num_within o n w (at + 1) (omega arith), ← add_assoc base at 1)

-- a section stands in the bytes where it begins
pub section-within : (s : List ℕ) (base n : ℕ) → Within (section s base n) s base
unfolding section
section-within s base n =
    record { byte = λ at h. get_or-take n (drop base s) at 0 (lt_of_take n (drop base s) at h) ∙ get_or-drop base s at 0 }
  where
    lt_of_take : (n : ℕ) (xs : List ℕ) (at : ℕ) → at < length (take n xs) → at < n
    lt_of_take n xs at h = omega (arith, lib.ListN.length-take n xs)

-- a section that lies inside the bytes is as long as it says
pub section-length : (s : List ℕ) (base n : ℕ) → base + n ≤ length s → length (section s base n) ≡ n
unfolding section
section-length s base n h = length-take-le n (drop base s) (omega (arith, length-drop base s))

-- what is put behind leaves the bytes where they stand
pub front-within : (s a : List ℕ) → Within s (s ++ a) 0
front-within s a = record { byte = λ at h. rw (zero-add at) (sym (get_or-append s a 0 at h)) }

-- the three ways of a part: past the end, cut off, whole
module _ (s : List ℕ) (start size : ℕ) where
  pub part_none : length s < start → [] ≡ section s start size
  unfolding section
  part_none h = sym (ap (take size) (drop_of_length-le s {i = start} (omega arith)) ∙ take-nil size)

  pub part_cut : length s - start < size → take (length s - start) (drop start s) ≡ section s start size
  unfolding section
  part_cut h =
      take_all (length s - start) (drop start s) (omega (arith, length-drop start s))
      ∙ sym (take_all size (drop start s) (omega (arith, length-drop start s)))

  pub part-whole : take (start + size - start) (drop start s) ≡ section s start size
  unfolding section
  part-whole = let e : start + size - start ≡ size = omega arith in rw e

-- a number written to what is left after a bytes
pub shift : (o : Order) (n : ℕ) (xs : List ℕ) (a k v : ℕ) → take a xs ++ put_at o n (drop a xs) k v ≡ put_at o n xs (a + k) v
unfolding put_at
shift o zero xs a k v = take-append-drop a xs
shift o (suc n) xs a k v =
    let b = first o n v in
    rw (← drop-set-add a xs k b, ← take-set-le a xs (a + k) b (le-add_right a k), add_assoc a k 1)
    (shift o n (set xs (a + k) b) a (k + 1) (rest o n v))

-- what the loan hands over is all that is left, and what comes back takes its place
pub all_left : (xs : List ℕ) (a : ℕ) → take (length xs - a) (drop a xs) ≡ drop a xs
all_left xs a = take_all (length xs - a) (drop a xs) (omega (arith, length-drop a xs))

pub back : (xs ys : List ℕ) (a : ℕ) → take a xs ++ (ys ++ drop (length xs - a) (drop a xs)) ≡ take a xs ++ ys
back xs ys a =
    ap (λ (l : List ℕ). take a xs ++ (ys ++ l)) (drop_of_length-le (drop a xs) {i = length xs - a} (omega (arith, length-drop a xs)))
    ∙ ap (λ (l : List ℕ). take a xs ++ l) (append-nil ys)

-- f on the part is g on the whole
abbrev pub Acts : ℕ → (List ℕ → List ℕ) → (List ℕ → List ℕ) → Type 0
Acts a f g = (xs : List ℕ) → a ≤ length xs → take a xs ++ f (drop a xs) ≡ g xs

pub writes : (o : Order) (n a k v : ℕ) → Acts a (λ xs. put_at o n xs k v) (λ xs. put_at o n xs (a + k) v)
writes o n a k v xs h = shift o n xs a k v

-- one after the other
pub after : (a : ℕ) (f f' g g' : List ℕ → List ℕ) → Acts a f g → Acts a f' g' → Acts a (λ xs. f' (f xs)) (λ xs. g' (g xs))
after a f f' g g' p q xs h =
    let l : length (take a xs) ≡ a = length-take-le a xs h in
    let w = take a xs ++ f (drop a xs) in
    let long : a ≤ length w = omega (arith, length-append (take a xs) (f (drop a xs))) in
    sym (ap₂ (λ (s t : List ℕ). s ++ f' t) (take_at (take a xs) (f (drop a xs)) a l) (drop_at (take a xs) (f (drop a xs)) a l)) ∙ q w long ∙ ap g' (p xs h)
