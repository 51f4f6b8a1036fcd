-- The starts of the blocks follow one another: row z counts in r(i+1) - r(i) where (i + 1 + 2^z) / 2^(z+1) exceeds
-- (i + 2^z) / 2^(z+1), by one, and that is for just one z, the count of trailing zeros of i + 1. And an upper
-- bound on every start and every word, for sums that must fit: 4,095 blocks of at most 320 steps. Assumes nothing.
use mathlib.Core.Path.{◌≡◌, refl, sym, ap, ◌∙◌}
use Prim.Native.Nat.{ℕ, zero, suc, ◌+◌, ◌*◌, ◌/◌, ◌^◌, ◌≤◌, ◌<◌}
use native.Mathlib.Nat.{suc-add, zero-add, mul-zero, lt-suc_self, pow-succ', div-eq_of_lt, div-div-eq-div-mul}
use native.Mathlib.Numerals.{add-one}
use native.Mathlib.Omega.{arith}
use lib.Count.{count_trailing_zeros}
use lib.Pow.{pow_mono, pow-lt}
use Rattle.bits.specs.Places.{weight}
use Rattle.bits.proofs.Sums.{sum_zero, sum_one_place}
use Rattle.bits.proofs.Binary.{weight_le}
use Rattle.model.specs.Card.{Code}
use Rattle.model.specs.Order.{last_codeword, changed_row, changed_weight, block_length, start, last_position, corrected_count}
use Rattle.model.specs.Words.{word_bits}
use Rattle.code_theory.specs.Promise.{Sound}
use Rattle.code_theory.proofs.TrailingZeros.{trailing_zeros_ind}
use Rattle.code_theory.proofs.Codewords.{changed_row_lem, changed_row_below}
use Rattle.code_theory.proofs.LeastDistance.{D-high}

-- how often row z has been added on the way to c(i), its corrected count, with the row first
abbrev times : (z i : ℕ) → ℕ
times z i = corrected_count i z

times_half : (z i : ℕ) → times (suc z) i ≡ times z (i / 2)
times_half z i =
    let width : 2 ^ (suc z + 1) ≡ 2 * 2 ^ (z + 1) = ap (λ (e : ℕ). 2 ^ e) (suc-add z 1) ∙ pow-succ' 2 (z + 1) in
    let half : (i + 2 ^ suc z) / 2 ≡ i / 2 + 2 ^ z = omega arith in
    rw (width, ← div-div-eq-div-mul (i + 2 ^ suc z) 2 (2 ^ (z + 1)), half)

times_zero : (z : ℕ) → times z 0 ≡ 0
times_zero z = div-eq_of_lt (rw (zero-add, add-one) (pow-lt (lt-suc_self z)))

-- the step to c(i+1) adds the row whose number is the count of trailing zeros of i + 1 once more ...
times_next : (w i : ℕ) → i + 1 < 2 ^ w → times (count_trailing_zeros w (i + 1)) (i + 1) ≡ times (count_trailing_zeros w (i + 1)) i + 1
times_next = trailing_zeros_ind (λ z i. times z (i + 1) ≡ times z i + 1) odd even
  where
    odd : (i : ℕ) → (i + 1) / 2 ≡ i / 2 → times 0 (i + 1) ≡ times 0 i + 1
    odd i half = omega arith

    even : (z i : ℕ) → (i + 1) / 2 ≡ i / 2 + 1 → times z (i / 2 + 1) ≡ times z (i / 2) + 1 → times (suc z) (i + 1) ≡ times (suc z) i + 1
    even z i half ih = rw (times_half z (i + 1), times_half z i, half) ih

-- ... and no other
times_kept : (w i : ℕ) → i + 1 < 2 ^ w → (z : ℕ) → (z ≡ count_trailing_zeros w (i + 1) → ⊥) → times z (i + 1) ≡ times z i
times_kept = trailing_zeros_ind (λ y i. (z : ℕ) → (z ≡ y → ⊥) → times z (i + 1) ≡ times z i) odd even
  where
    odd : (i : ℕ) → (i + 1) / 2 ≡ i / 2 → (z : ℕ) → (z ≡ 0 → ⊥) → times z (i + 1) ≡ times z i
    odd i half zero ne = absurd (ne refl)
    odd i half (suc z) ne = rw (times_half z (i + 1), times_half z i, half)

    even : (y i : ℕ) → (i + 1) / 2 ≡ i / 2 + 1 → ((z : ℕ) → (z ≡ y → ⊥) → times z (i / 2 + 1) ≡ times z (i / 2))
        → (z : ℕ) → (z ≡ suc y → ⊥) → times z (i + 1) ≡ times z i
    even y i half ih zero ne = omega arith
    even y i half ih (suc z) ne = rw (times_half z (i + 1), times_half z i, half) (ih z (λ e. ne (ap suc e)))

-- ---- the starts

pub start_zero : (C : Code) → start C 0 ≡ 0
unfolding start
start_zero C =
    omega (arith, sum_zero {f = λ z. weight C.n (C.row z) * times z 0} C.k (λ z b. rw (times_zero z, mul-zero)))

pub start_next : (C : Code) (i : ℕ) → i < last_codeword C → start C (i + 1) ≡ start C i + block_length C i
unfolding start changed_weight last_codeword
start_next C i within =
    let y : ℕ = changed_row C i in
    let W : ℕ → ℕ = λ z. weight C.n (C.row z) in
    let fits : i + 1 < 2 ^ C.k = omega arith in
    let is_y : y ≡ count_trailing_zeros C.k (i + 1) = changed_row_lem C i within C.k fits in
    let once : times y (i + 1) ≡ times y i + 1 = rw is_y (times_next C.k i fits) in
    let more : W y * times y (i + 1) ≡ W y * times y i + W y = rw once (omega arith) in
    omega (
      arith,
      sum_one_place (λ z. W z * times z (i + 1)) (λ z. W z * times z i) C.k y (changed_row_below C i within)
          (λ z b ne. ap (λ (t : ℕ). W z * t) (times_kept C.k i fits z (λ e. ne (e ∙ sym is_y)))),
    )

-- ---- bounds

module _ (C : Code) (S : Sound C) where
  -- the widest word has 320 bits
  pub word_bits_bound : word_bits C ≤ 320
  word_bits_bound = omega (arith, S.n_high, D-high C S)

  block_length_bound : (i : ℕ) → block_length C i ≤ 320
  unfolding changed_weight
  block_length_bound i = omega (arith, D-high C S, S.n_high, weight_le C.n (C.row (changed_row C i)))

  pub last_codeword_bound : last_codeword C ≤ 4095
  unfolding last_codeword
  last_codeword_bound = omega (arith, pow_mono {i = C.k} {j = 12} S.k_high)

  pub start_bound : (i : ℕ) → i ≤ last_codeword C → start C i ≤ 320 * i
  start_bound zero l = omega (arith, start_zero C)
  start_bound (suc i) l =
      let step : start C (suc i) ≡ start C i + block_length C i = rw (← add-one i) (start_next C i l) in
      omega (arith, start_bound i (omega arith), block_length_bound i)

  pub last_position_bound : last_position C ≤ 1310400
  unfolding last_position
  last_position_bound = omega (arith, start_bound (last_codeword C) (omega arith), last_codeword_bound)
