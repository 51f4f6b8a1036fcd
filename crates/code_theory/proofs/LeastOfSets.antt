-- The least weight of the nonempty sets of rows. Where the rows are independent no set sums to zero, and it is the least weight of a
-- nonzero codeword; where they are not, some set does, and it is 0. Assumes nothing.
use mathlib.Core.Path.{◌≡◌, sym, ap, ◌∙◌}
use mathlib.Core.Bool.{true, false}
use mathlib.Core.Logic.{⊎_elim}
use Prim.Native.Nat.{ℕ, zero, suc, ◌-◌, ◌^◌, ◌≤◌, ◌<◌, min}
use native.Mathlib.Nat.{le_antisymm}
use native.Mathlib.Omega.{arith}
use lib.Pow.{suc_ones, lt_of_le_ones, le_ones}
use Rattle.bits.specs.Places.{weight}
use Rattle.bits.proofs.Numbers.{true_or_false, eq_or_ne}
use Rattle.bits.proofs.Binary.{bit_zero, weight_zero}
use Rattle.model.specs.Card.{sum_of_rows, least_weight, dependent}
use Rattle.code_theory.specs.LeastOfSets.{least_of_sets}
use Rattle.code_theory.proofs.Codewords.{rows_of_none, rows_below}
use Rattle.code_theory.proofs.SoundCard.{independent_of_test, test_of_independent}
use Rattle.code_theory.proofs.LeastWeight.{least_passed, least_compared, least_positive}

module _ (n k : ℕ) (row : ℕ → ℕ) where
  -- the sum of set g
  abbrev sum : ℕ → ℕ
  sum g = sum_of_rows row k g

  -- it is at most n and each weight, and no number that is so is above it
  sets_high : (m : ℕ) → least_of_sets n k row m ≤ n
  unfolding least_of_sets
  sets_high zero = omega arith
  sets_high (suc m) = omega (arith, sets_high m)

  sets_le : (m g : ℕ) → 0 < g → g ≤ m → least_of_sets n k row m ≤ weight n (sum g)
  unfolding least_of_sets
  sets_le zero g pos l = omega arith
  sets_le (suc m) g pos l =
      ⊎_elim (λ (last : g ≡ suc m). rw last (omega arith))
      (λ (other : g ≡ suc m → ⊥).
      let before : least_of_sets n k row m ≤ weight n (sum g) = sets_le m g pos (omega arith) in omega arith)
      (eq_or_ne g (suc m))

  sets_greatest : (m b : ℕ) → b ≤ n → ((g : ℕ) → 0 < g → g ≤ m → b ≤ weight n (sum g)) → b ≤ least_of_sets n k row m
  unfolding least_of_sets
  sets_greatest zero b high le = high
  sets_greatest (suc m) b high le =
      let before : b ≤ least_of_sets n k row m = sets_greatest m b high (λ g pos l. le g pos (omega arith)) in
      let last : b ≤ weight n (sum (suc m)) = le (suc m) (omega arith) (omega arith) in
      omega arith

  -- b is at most the weight of each nonempty set of rows
  abbrev pub AtMostEach : ℕ → Type 0
  AtMostEach b = (g : ℕ) → 0 < g → g < 2 ^ k → b ≤ weight n (sum g)

  -- the greatest number that is at most n and each weight is the least: the order in which sets are met does not matter
  pub least_in_any_order : (least : ℕ) → least ≤ n → AtMostEach least → ((b : ℕ) → b ≤ n → AtMostEach b → b ≤ least)
      → least ≡ least_of_sets n k row (2 ^ k - 1)
  least_in_any_order least high le greatest =
      le_antisymm
      (sets_greatest (2 ^ k - 1) least high (λ g pos l. le g pos (lt_of_le_ones k l)))
      (greatest (least_of_sets n k row (2 ^ k - 1)) (sets_high (2 ^ k - 1)) (λ g pos l. sets_le (2 ^ k - 1) g pos (le_ones k l)))

  -- where no set sums to zero, it is the least weight of a nonzero codeword
  sets_are_codewords : (m : ℕ) → ((g : ℕ) → 0 < g → g ≤ m → sum g ≡ 0 → ⊥) → least_of_sets n k row m ≡ least_weight n sum (suc m)
  unfolding least_of_sets least_weight
  sets_are_codewords zero ne = sym (least_passed n sum 0 (rows_of_none row k 0 (λ z l. bit_zero z)))
  sets_are_codewords (suc m) ne =
      let before : least_of_sets n k row m ≡ least_weight n sum (suc m) = sets_are_codewords m (λ g pos l. ne g pos (omega arith)) in
      let new : least_weight n sum (suc (suc m)) ≡ min (weight n (sum (suc m))) (least_weight n sum (suc m)) =
      least_compared n sum (suc m) (ne (suc m) (omega arith) (omega arith)) in
      omega arith

  pub least_if_independent : dependent k row ≡ false → least_of_sets n k row (2 ^ k - 1) ≡ least_weight n sum (2 ^ k)
  least_if_independent test =
      sets_are_codewords (2 ^ k - 1) (λ g pos l. independent_of_test k row test g pos (lt_of_le_ones k l))
      ∙ ap (least_weight n sum) (suc_ones k)

  -- a least above 0 shows that the rows are independent, and a least of 0 that they are dependent
  pub independent_of_least : 0 < least_of_sets n k row (2 ^ k - 1) → dependent k row ≡ false
  independent_of_least more =
      test_of_independent k row
      (λ g pos l e. omega (arith, sets_le (2 ^ k - 1) g pos (le_ones k l), ap (weight n) e ∙ weight_zero n))

  pub dependent_of_least : 1 ≤ n → ((z : ℕ) → z < k → row z < 2 ^ n) → least_of_sets n k row (2 ^ k - 1) ≡ 0
      → dependent k row ≡ true
  dependent_of_least hn narrow e =
      ⊎_elim (λ (test : dependent k row ≡ true). test)
      (λ (test : dependent k row ≡ false).
      absurd (omega (arith, least_if_independent test, least_positive n sum hn (λ g. rows_below n row k g narrow) (2 ^ k))))
      (true_or_false (dependent k row))
