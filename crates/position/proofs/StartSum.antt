-- The start of a block as a sum that goes row by row. Each row's share takes the sum from before the row to after it, and after the
-- last row it is the start; no sum on the way exceeds that, which is bounded, so each of them fits. And what document 01 corrects in
-- the count of document 003's Algorithm 1. Assumes nothing.
use mathlib.Core.Logic.{⊎_elim}
use mathlib.Core.Path.{◌≡◌, refl, sym, ap}
use Prim.Native.Nat.{ℕ, zero, suc, ◌+◌, ◌-◌, ◌*◌, ◌/◌, ◌^◌, ◌≤◌, ◌<◌}
use native.Mathlib.Nat.{add-mul-div_right, div-eq_of_lt, div-le_self}
use native.Mathlib.Numerals.{add-one}
use native.Mathlib.Omega.{arith}
use lib.Pow.{pow_pos}
use Rattle.bits.specs.Sums.{sum_below}
use Rattle.bits.proofs.Numbers.{lt_or_le}
use Rattle.bits.proofs.Sums.{sum_longer, sum_more}
use Rattle.model.specs.Card.{Code}
use Rattle.model.specs.Order.{last_codeword, start, corrected_count, row_weight, share_of, row_share, sum_after_row, sum_before_row}
use Rattle.code_theory.specs.Promise.{Sound}
use Rattle.code_theory.proofs.Starts.{start_bound, last_codeword_bound}

-- how often Algorithm 1 counts row z: max(i - 2^z, 0) / 2^(z+1), rounded down (a difference of natural numbers is never below 0)
abbrev pub algorithm1_count : (i z : ℕ) → ℕ
algorithm1_count i z = (i - 2 ^ z) / 2 ^ (z + 1)

-- the row is added for the first time at codeword 2^z; from there on Algorithm 1 counts one too few
module _ (i z : ℕ) where
  pub not_yet_added : i < 2 ^ z → 0 ≡ corrected_count i z
  not_yet_added before = rw (add-one z) (sym (div-eq_of_lt (omega arith)))

  pub one_too_few : 2 ^ z ≤ i → algorithm1_count i z + 1 ≡ corrected_count i z
  one_too_few since =
      let once_more : i + 2 ^ z ≡ i - 2 ^ z + 1 * 2 ^ (z + 1) = rw (add-one z) (omega arith) in
      rw once_more (sym (add-mul-div_right (i - 2 ^ z) 1 (pow_pos (z + 1))))

  -- the first i codewords after codeword 0 add i rows in all, and so row z at most i times
  pub count_at_most : corrected_count i z ≤ i
  count_at_most = ⊎_elim (λ before. omega (arith, not_yet_added before)) after (lt_or_le i (2 ^ z))
    where
      after : 2 ^ z ≤ i → corrected_count i z ≤ i
      after since = omega (arith, one_too_few since, div-le_self (i - 2 ^ z) (2 ^ (z + 1)), pow_pos z)

module _ (C : Code) (i : ℕ) where
  pub before_any_row : sum_before_row C i 0 ≡ 3 * C.D * i
  unfolding sum_before_row
  before_any_row = refl

  -- the sum after a row is the one that the next row's share is added to
  pub next_row : (z : ℕ) → sum_before_row C i (z + 1) ≡ sum_after_row C i z
  unfolding sum_before_row
  next_row z = rw (add-one z) refl

  -- the sum before row z: 3D × i and the shares of the rows below z
  before_sum : (z : ℕ) → sum_before_row C i z ≡ 3 * C.D * i + sum_below (row_share C i) z
  unfolding sum_before_row sum_after_row sum_below
  before_sum zero = omega arith
  before_sum (suc z) = ap (λ (rows : ℕ). 3 * C.D * i + sum_below (row_share C i) rows) (add-one z)

  -- a row's share takes the sum before the row to the sum after it
  share_added : (z : ℕ) → sum_after_row C i z ≡ sum_before_row C i z + row_share C i z
  unfolding sum_after_row
  share_added z = omega (arith, before_sum z, sum_more (row_share C i) z)

  -- and so to the sum before the next, of a row that has this weight
  pub row_added : {weight sum : ℕ} (z : ℕ) → weight ≡ row_weight C z → sum ≡ sum_before_row C i z
      → sum + share_of weight i z ≡ sum_before_row C i (z + 1)
  row_added z weighs before = rw (weighs, before, next_row z) (sym (share_added z))

  -- twice a sum of products is the sum of their doubles
  doubled : (d : ℕ) → 2 * sum_below (λ z. row_weight C z * corrected_count i z) d ≡ sum_below (row_share C i) d
  unfolding sum_below
  doubled zero = refl
  doubled (suc d) = omega (arith, doubled d)

  -- after all k rows the sum is r(i)
  pub whole_sum : sum_before_row C i C.k ≡ start C i
  unfolding start
  whole_sum = omega (arith, before_sum C.k, doubled C.k)

  -- no sum on the way exceeds the start, and no start 4,095 blocks of 320 steps
  pub sum_bound : Sound C → i ≤ last_codeword C → (z : ℕ) → z ≤ C.k → sum_before_row C i z ≤ 1310400
  sum_bound S h z l =
      omega (
        arith,
        before_sum z,
        before_sum C.k,
        whole_sum,
        start_bound C S i h,
        last_codeword_bound C S,
        sum_longer (row_share C i) {a = z} {d = C.k} l,
      )
