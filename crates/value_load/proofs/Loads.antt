-- Laws of `aligned` and `bitfield_load`: where the loop that widens a bitfield's load stands, and what it comes to.
-- Assumes nothing.
use mathlib.Core.Path.{◌≡◌, refl, sym, ◌∙◌}
use mathlib.Core.Bool.{Bool, true, false, cond}
use Prim.Native.Nat.{ℕ, zero, suc, ◌+◌, ◌-◌, ◌*◌, ◌/◌, ◌≤◌, ◌<◌}
use native.Mathlib.Nat.{div-mul-le_self, lt-div-mul-add}
use native.Mathlib.Omega.{arith}
use lib.Dec.{leb, eqb}
use borrow.Author.Tests.{le-leb, lt-leb, ne_eqb}
use Rattle.rules.specs.declared.Load.{Load}
use Rattle.rules.specs.declared.Refusal.TheVariants.{Unresolved}
use Rattle.rules.proofs.Turns.{bitfield-turn}
use Rattle.rules.specs.Value.{aligned, end_from, bitfield_load, bitfield}
use Rattle.value_load.specs.Aligned.{Aligned}
use Rattle.std.specs.Prelude.{Err, None, Ok, Option, Some}

-- the bytes that hold a bit
pub aligned-low : (bits s : ℕ) → bits / 8 / s * s ≤ bits / 8
aligned-low bits s = div-mul-le_self (bits / 8) s

pub aligned-holds : (bits s : ℕ) → 0 < s → Aligned bits s (bits / 8 / s * s)
aligned-holds bits s p =
    let low : bits / 8 / s * s ≤ bits / 8 = aligned-low bits s in
    let high : bits / 8 < bits / 8 / s * s + s = lt-div-mul-add p in
    record { is = refl; from = omega arith; to = omega arith }

-- where the loop stands: s bytes are tried, with so many tries left
pub record Widening (bits width size s left : ℕ) : Type 0 where
  pub positive : 0 < s
  pub small : s < 4294967296
  pub rest : bitfield_load left bits width s ≡ bitfield bits width (Some size)

pub widening-first : (bits width size : ℕ) → (size ≡ 0 → ⊥) → size < 4294967296 → Widening bits width size size 4
widening-first bits width size n h = record { positive = omega arith; small = h; rest = rw (ne_eqb size 0 n) }

module _ {bits width size s turn : ℕ} (w : Widening bits width size s (4 - turn)) where
  module _ {at : ℕ} (a : Aligned bits s at) (p : turn < 4) where
    -- the end, as the code counts it
    end : bits - 8 * at + width ≡ end_from (aligned bits s) bits width
    end = rw (← a.is) (omega arith)

    pub held : bits - 8 * at + width ≤ 8 * s → Ok (record { offset = at; size = s; width = width }) ≡ bitfield bits width (Some size)
    held h = sym (bitfield-turn (4 - turn) bits width s (omega arith) ∙ rw (← end, le-leb (bits - 8 * at + width) (8 * s) h, ← a.is)) ∙ w.rest

    pub too_wide : 8 * s < bits - 8 * at + width → 8 ≤ s → Err Unresolved ≡ bitfield bits width (Some size)
    too_wide h g = sym (bitfield-turn (4 - turn) bits width s (omega arith) ∙ rw (← end, lt-leb (bits - 8 * at + width) (8 * s) h, le-leb 8 s g)) ∙ w.rest

    pub wider : 8 * s < bits - 8 * at + width → s < 8 → Widening bits width size (2 * s) (4 - (turn + 1))
    wider h g =
        let n : 4 - (turn + 1) ≡ 4 - turn - 1 = omega arith in
        record {
          positive = omega (arith, w.positive);
          small = omega arith;
          rest = rw n (sym (bitfield-turn (4 - turn) bits width s (omega arith) ∙ rw (← end, lt-leb (bits - 8 * at + width) (8 * s) h, lt-leb 8 s g)) ∙ w.rest);
        }

  pub ran_out : 4 ≤ turn → Err Unresolved ≡ bitfield bits width (Some size)
  unfolding bitfield_load
  ran_out h = let z : 4 - turn ≡ 0 = omega arith in rw z at w.rest

-- a bitfield's load begins no later than the field
load-begins : (n bits width s : ℕ) (l : Load) → Ok l ≡ bitfield_load n bits width s → 8 * l.offset ≤ bits
unfolding bitfield_load
load-begins zero bits width s l e = let z : ◌≡◌ {A = ℕ} 0 1 = cc in absurd (omega arith)
load-begins (suc n) bits width s l e = go (leb (end_from (aligned bits s) bits width) (8 * s)) (leb 8 s) (load-begins n bits width (2 * s)) e
  where
    go : (p q : Bool) → ((k : Load) → Ok k ≡ bitfield_load n bits width (2 * s) → 8 * k.offset ≤ bits)
        → Ok l ≡ cond p (Ok (record { offset = aligned bits s; size = s; width = width })) (cond q (Err Unresolved) (bitfield_load n bits width (2 * s)))
        → 8 * l.offset ≤ bits
    go true q f e = let z : l.offset ≡ aligned bits s = cc in omega (arith, aligned-low bits s)
    go false true f e = let z : ◌≡◌ {A = ℕ} 0 1 = cc in absurd (omega arith)
    go false false f e = f l e

pub begins : (bits width : ℕ) (own : Option ℕ) {l : Load} → Ok l ≡ bitfield bits width own → 8 * l.offset ≤ bits
begins bits width None e = let z : ◌≡◌ {A = ℕ} 0 1 = cc in absurd (omega arith)
begins bits width (Some s) {l} e = go (eqb s 0) e
  where
    go : (p : Bool) → Ok l ≡ cond p (Err Unresolved) (bitfield_load 4 bits width s) → 8 * l.offset ≤ bits
    go true e = let z : ◌≡◌ {A = ℕ} 0 1 = cc in absurd (omega arith)
    go false e = load-begins 4 bits width s l e
