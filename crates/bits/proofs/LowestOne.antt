-- Clearing the lowest one of a number, as x & (x - 1) does: one bit fewer is 1. Assumes nothing.
use mathlib.Core.Path.{◌≡◌, ◌∙◌}
use mathlib.Core.Logic.{⊎_elim}
use Prim.Native.Nat.{ℕ, zero, suc, ◌+◌, ◌-◌, ◌*◌, ◌/◌, ◌%◌, ◌^◌, ◌<◌, min}
use native.Mathlib.Omega.{arith}
use lib.Bits.{bit_and, and_step, and_self}
use lib.Count.{ones, ones_step}
use Rattle.bits.specs.Places.{bit}
use Rattle.bits.proofs.Numbers.{eq_or_ne}
use Rattle.bits.proofs.Binary.{below_pow, bit_lowest, bit_suc}

-- an odd number loses its last digit; an even one is cleared in its half
clear_odd : (x : ℕ) → x % 2 ≡ 1 → bit_and x (x - 1) ≡ x / 2 * 2
clear_odd x odd =
    let half : (x - 1) / 2 ≡ x / 2 = omega arith in
    let last : min (x % 2) ((x - 1) % 2) ≡ 0 = omega arith in
    and_step x (x - 1) ∙ rw (half, last, and_self) (omega arith)

clear_even : (x : ℕ) → 0 < x → x % 2 ≡ 0 → bit_and x (x - 1) ≡ bit_and (x / 2) (x / 2 - 1) * 2
clear_even x more even =
    let half : (x - 1) / 2 ≡ x / 2 - 1 = omega arith in
    let last : min (x % 2) ((x - 1) % 2) ≡ 0 = omega arith in
    and_step x (x - 1) ∙ rw (half, last) (omega arith)

ones_of_double : (y : ℕ) → ones (y * 2) ≡ ones y
ones_of_double y =
    let half : y * 2 / 2 ≡ y = omega arith in
    let last : y * 2 % 2 ≡ 0 = omega arith in
    ones_step (y * 2) ∙ rw (half, last) (omega arith)

one_fewer_below : (n x : ℕ) → x < 2 ^ n → 0 < x → ones (bit_and x (x - 1)) + 1 ≡ ones x
one_fewer_below zero x h more = absurd (omega arith)
one_fewer_below (suc n) x h more =
    ⊎_elim
    (λ (odd : x % 2 ≡ 1). rw (clear_odd x odd, ones_of_double) (omega (arith, ones_step x)))
    (λ (ne : x % 2 ≡ 1 → ⊥).
    let even : x % 2 ≡ 0 = omega arith in
    let ih : ones (bit_and (x / 2) (x / 2 - 1)) + 1 ≡ ones (x / 2) = one_fewer_below n (x / 2) (omega arith) (omega arith) in
    rw (clear_even x more even, ones_of_double) (omega (arith, ones_step x)))
    (eq_or_ne (x % 2) 1)

-- where x is not 0, x & (x - 1) has one 1 fewer
pub one_fewer : (x : ℕ) → 0 < x → ones (bit_and x (x - 1)) + 1 ≡ ones x
one_fewer x more = one_fewer_below x x (below_pow x) more

-- what it clears is a power of two, below which the number has no ones
pub record LowestOne (x : ℕ) : Type 0 where
  pub v : ℕ
  pub parts : x ≡ bit_and x (x - 1) + 2 ^ v
  pub clear : bit (bit_and x (x - 1)) v ≡ 0
  pub none_below : (p : ℕ) → p < v → bit x p ≡ 0

lowest_odd : (x : ℕ) → x % 2 ≡ 1 → LowestOne x
lowest_odd x odd =
    record {
      v = 0;
      parts = rw (clear_odd x odd) (omega arith);
      clear = rw (clear_odd x odd) (bit_lowest (x / 2 * 2) ∙ (omega arith));
      none_below = λ p l. absurd (omega arith);
    }

-- an even number's is that of its half, one place up
lowest_even : (x : ℕ) → 0 < x → x % 2 ≡ 0 → LowestOne (x / 2) → LowestOne x
lowest_even x more even half =
    let cleared : ℕ = bit_and (x / 2) (x / 2 - 1) in
    let back : cleared * 2 / 2 ≡ cleared = omega arith in
    record {
      v = suc half.v;
      parts = rw (clear_even x more even) (omega (arith, half.parts));
      clear = rw (clear_even x more even) (bit_suc (cleared * 2) half.v ∙ rw back half.clear);
      none_below = below;
    }
  where
    below : (p : ℕ) → p < suc half.v → bit x p ≡ 0
    below zero l = bit_lowest x ∙ even
    below (suc p) l = bit_suc x p ∙ half.none_below p (omega arith)

lowest_below : (n x : ℕ) → x < 2 ^ n → 0 < x → LowestOne x
lowest_below zero x h more = absurd (omega arith)
lowest_below (suc n) x h more =
    ⊎_elim (lowest_odd x)
    (λ (ne : x % 2 ≡ 1 → ⊥). lowest_even x more (omega arith) (lowest_below n (x / 2) (omega arith) (omega arith)))
    (eq_or_ne (x % 2) 1)

pub lowest_one : (x : ℕ) → 0 < x → LowestOne x
lowest_one x more = lowest_below x x (below_pow x) more
