-- What separators of levels 1, -1 and 0 read: b where their bits were all b and 2 × wrong + erased is below D; and where nothing is erased,
-- what the majority of their bits reads. Assumes nothing.
use mathlib.Core.Path.{◌≡◌, ◌∙◌}
use mathlib.Core.Bool.{true}
use mathlib.Core.Logic.{⊎_elim}
use Prim.Native.Nat.{ℕ, ◌+◌, ◌*◌, ◌^◌, ◌≤◌, ◌<◌}
use native.Mathlib.Nat.{eq-zero-or-pos}
use native.Mathlib.Omega.{arith}
use borrow.Author.Tests.{lt-ltb, le-ltb}
use lib.Ieee.{lt}
use Rattle.bits.specs.Sums.{distance_unerased, erased_below}
use Rattle.bits.proofs.Numbers.{by_test, lt_or_le}
use Rattle.bits.proofs.Erasures.{none_erased}
use Rattle.model.specs.Reading.{majority}
use Rattle.model.specs.Levels.{zero_level, is_unerased, unerased_in, bits_in, sum_of_levels, separator_reading}
use Rattle.model.specs.declared.ReceivedLevel.{ReceivedLevel}
use Rattle.level_theory.specs.UnitLevels.{unerased_zeros, unerased_ones}
use Rattle.level_theory.proofs.UnitsReceived.{UnitOrErased}
use Rattle.level_theory.proofs.ErasureCounts.{places_in_all, wrong_zeros, wrong_ones, ones_all_unerased}
use Rattle.level_theory.proofs.ExactSums.{separator_by_count}

-- a separator reads 0 or 1
pub separator_bit : (D : ℕ) (t : ℕ → ReceivedLevel) → separator_reading D t < 2
unfolding separator_reading
separator_bit D t = by_test (λ b. b < 2) (lt (sum_of_levels t D) zero_level) (λ _. omega arith) (λ _. omega arith)

module _ (D : ℕ) (t : ℕ → ReceivedLevel) (h : D ≤ 2 ^ 24) (units : (p : ℕ) → p < D → UnitOrErased (t p)) where
  -- a separator whose bits were all b reads b if 2 × wrong + erased is below D
  pub separator_reads : (b : ℕ) (u : ℕ → ℕ) → b < 2 → ((p : ℕ) → p < D → u p ≡ b)
      → 2 * distance_unerased (unerased_in t) D u (bits_in t) + erased_below (unerased_in t) D < D → separator_reading D t ≡ b
  separator_reads b u hb hu few =
      rw (separator_by_count t D h units)
      (⊎_elim
      (λ (e : b ≡ 0).
      rw (e, le-ltb (unerased_zeros t D) (unerased_ones t D) (omega (arith, places_in_all t D, wrong_zeros t D u (λ p l. hu p l ∙ e)))))
      (λ (l : 0 < b).
      let one : b ≡ 1 = omega arith in
      rw (one, lt-ltb (unerased_zeros t D) (unerased_ones t D) (omega (arith, places_in_all t D, wrong_ones t D u (λ p l. hu p l ∙ one)))))
      (eq-zero-or-pos b))

  -- where nothing is erased a separator reads as its bits do
  pub separator_as_bits : ((p : ℕ) → p < D → is_unerased (t p) ≡ true) → separator_reading D t ≡ majority D (bits_in t)
  unfolding majority
  separator_as_bits unerased =
      let all_unerased : unerased_zeros t D + unerased_ones t D ≡ D = omega (arith, places_in_all t D, none_erased (unerased_in t) D unerased) in
      rw (separator_by_count t D h units, ← (ones_all_unerased t D unerased))
      (⊎_elim
      (λ (l : unerased_zeros t D < unerased_ones t D).
      rw (lt-ltb (unerased_zeros t D) (unerased_ones t D) l, lt-ltb D (2 * unerased_ones t D) (omega arith)))
      (λ (l : unerased_ones t D ≤ unerased_zeros t D).
      rw (le-ltb (unerased_zeros t D) (unerased_ones t D) l, le-ltb D (2 * unerased_ones t D) (omega arith)))
      (lt_or_le (unerased_zeros t D) (unerased_ones t D)))
