-- Numbers cut to the places of a mask, which marks the unerased places. An exclusive-or that is cut is that of the cut numbers, and its
-- ones are the unerased places in which the numbers differ. The places that are not marked are erased. Assumes nothing.
use mathlib.Core.Path.{◌≡◌, ◌∙◌}
use mathlib.Core.Bool.{cond}
use Prim.Native.Nat.{ℕ, zero, suc, ◌+◌, ◌^◌, min, ◌<◌}
use native.Mathlib.Omega.{arith}
use lib.Bits.{bit_and, bit_xor, and_lt}
use lib.Count.{ones}
use lib.Dec.{eqb}
use Rattle.bits.specs.Sums.{difference, distance, distance_unerased, erased_below, marked}
use Rattle.bits.specs.Places.{bit, weight}
use Rattle.bits.proofs.Sums.{sum_ext, sum_add, sum_of_ones}
use Rattle.bits.proofs.Binary.{bit_bit, bit_ext, bit_and_lem, bit_xor_lem, ones_xor, weight_ones}

-- an exclusive-or that is cut is that of the cut numbers
pub and_xor : (a b h : ℕ) → bit_and (bit_xor a b) h ≡ bit_xor (bit_and a h) (bit_and b h)
and_xor a b h =
    bit_ext _ _ (λ p.
    rw (bit_and_lem (bit_xor a b) h p, bit_xor_lem a b p, bit_xor_lem (bit_and a h) (bit_and b h) p, bit_and_lem a h p, bit_and_lem b h p)
    (cut_bits (bit a p) (bit b p) (bit h p) (bit_bit a p) (bit_bit b p) (bit_bit h p)))
  where
    cut_bits : (i j c : ℕ) → i < 2 → j < 2 → c < 2 → min (difference i j) c ≡ difference (min i c) (min j c)
    cut_bits i j c hi hj hc = omega arith

-- the ones of that exclusive-or are the places of h in which the numbers differ
pub cut_distance : (n a b h : ℕ) → a < 2 ^ n → b < 2 ^ n → h < 2 ^ n
    → ones (bit_xor (bit_and a h) (bit_and b h)) ≡ distance_unerased (marked (bit h)) n (bit a) (bit b)
unfolding distance distance_unerased
cut_distance n a b h ha hb hh =
    ones_xor n (bit_and a h) (bit_and b h) (and_lt n a h ha hh) (and_lt n b h hb hh)
    ∙ sum_ext n (λ p l.
    rw (bit_and_lem a h p, bit_and_lem b h p) (at_place (bit a p) (bit b p) (bit h p) (bit_bit a p) (bit_bit b p) (bit_bit h p)))
  where
    at_place : (i j c : ℕ) → i < 2 → j < 2 → c < 2 → difference (min i c) (min j c) ≡ cond (eqb c 1) (difference i j) 0
    at_place i j zero hi hj hc = omega arith
    at_place i j (suc zero) hi hj hc = omega arith
    at_place i j (suc (suc c)) hi hj hc = absurd (omega arith)

-- the places of h and the erased ones are n in all
pub ones_and_erased : (n h : ℕ) → h < 2 ^ n → erased_below (marked (bit h)) n + ones h ≡ n
unfolding erased_below weight
ones_and_erased n h hh =
    rw (← weight_ones n h hh, ← sum_add (λ p. cond (marked (bit h) p) 0 1) (bit h) n)
    (sum_ext n (λ p b. at_place (bit h p) (bit_bit h p)) ∙ sum_of_ones n)
  where
    at_place : (c : ℕ) → c < 2 → cond (eqb c 1) 0 1 + c ≡ 1
    at_place zero hc = omega arith
    at_place (suc zero) hc = omega arith
    at_place (suc (suc c)) hc = absurd (omega arith)
