-- The limits of order and variables. k grows with the order, so an order is within the limits where it is at most the greatest one that
-- is; that the greatest ones for 1 to 6 variables are those of a table is computed, and serves refusal 13 alone. That no order within
-- the limits is above 3 holds because k is at least 2^r. Assumes nothing.
use mathlib.Core.Path.{◌≡◌, refl, sym, ap}
use mathlib.Core.Bool.{Bool, true, false, cond, not, ◌&&◌, ◌||◌}
use mathlib.Core.List.{List, [], ◌∷◌}
use mathlib.Core.Logic.{⊎_elim}
use Prim.Native.Nat.{ℕ, zero, suc, ◌+◌, ◌^◌, ◌≤◌, ◌<◌}
use native.Mathlib.Nat.{add-zero, add-suc, le_dest}
use native.Mathlib.Omega.{arith}
use lib.Dec.{leb, ltb, eqb}
use lib.ListN.{length, get_or, length-append}
use lib.Pow.{pow_mono}
use borrow.Author.Tests.{le-leb, lt-leb, leb-true, ltb-true, eqb-true, not-false}
use Rattle.bits.specs.Sums.{sum_below}
use Rattle.bits.specs.Places.{weight}
use Rattle.bits.specs.Searches.{any_below}
use Rattle.bits.specs.Counting.{those}
use Rattle.bits.proofs.Numbers.{lt_or_le, and_true_left, and_true_right}
use Rattle.bits.proofs.Sums.{sum_ext, sum_of_ones, sum_longer}
use Rattle.bits.proofs.Binary.{weight_le, weight_wider}
use Rattle.bits.proofs.Searches.{none_of_any}
use Rattle.bits.proofs.Counting.{where_true}
use Rattle.model.specs.ReedMuller.{sets_of, sets_up_to, count_of_sets, order_within_limits}
use Rattle.reed_muller_theory.proofs.Sets.{sum_over_rows}

-- ---- k grows with the order

pub count_more : (r m : ℕ) → count_of_sets (suc r) m ≡ count_of_sets r m + length (sets_of m (suc r))
unfolding count_of_sets sets_up_to
count_more r m = length-append (sets_up_to m r) (sets_of m (suc r))

pub count_grows : (r t m : ℕ) → r ≤ t → count_of_sets r m ≤ count_of_sets t m
count_grows r t m l = let (d, is) = le_dest l in rw (← is) (by d)
  where
    by : (d : ℕ) → count_of_sets r m ≤ count_of_sets (r + d) m
    by zero = rw (add-zero r) (omega arith)
    by (suc d) = rw (add-suc r d) (omega (arith, by d, count_more (r + d) m))

-- ---- the greatest order

-- whether o is the greatest order within the limits for m variables
unfoldable pub greatest_order : (m o : ℕ) → Bool
greatest_order m o = leb o m && leb (count_of_sets o m) 12 && (eqb o m || ltb 12 (count_of_sets (suc o) m))

module _ (m o : ℕ) (low : 1 ≤ m) (high : m ≤ 6) (greatest : greatest_order m o ≡ true) where
  within : (o ≤ m) × (count_of_sets o m ≤ 12)
  unfolding greatest_order
  within =
      let both : (leb o m && leb (count_of_sets o m) 12) ≡ true = and_true_left _ (eqb o m || ltb 12 (count_of_sets (suc o) m)) greatest in
      (leb-true o m (and_true_left (leb o m) _ both), leb-true (count_of_sets o m) 12 (and_true_right (leb o m) _ both))

  none_above : (r : ℕ) → o < r → r ≤ m → 12 < count_of_sets r m
  unfolding greatest_order
  none_above r more l = by_end (eqb o m) refl (and_true_right (leb o m && leb (count_of_sets o m) 12) _ greatest)
    where
      by_end : (t : Bool) → eqb o m ≡ t → (t || ltb 12 (count_of_sets (suc o) m)) ≡ true → 12 < count_of_sets r m
      by_end true e h = absurd (omega (arith, eqb-true o m e))
      by_end false e h = omega (arith, ltb-true 12 (count_of_sets (suc o) m) h, count_grows (suc o) r m more)

  pub limit_is : (r : ℕ) → leb r o ≡ order_within_limits r m
  unfolding order_within_limits
  limit_is r =
      rw (le-leb 1 m low, le-leb m 6 high)
      (⊎_elim
      (λ (more : o < r).
      rw (lt-leb r o more)
      (⊎_elim (λ (past : m < r). rw (lt-leb r m past)) (λ (l : r ≤ m). rw (le-leb r m l, lt-leb (count_of_sets r m) 12 (none_above r more l)))
      (lt_or_le m r)))
      (λ (l : r ≤ o).
      rw (
        le-leb r o l,
        le-leb r m (omega (arith, within.0)),
        le-leb (count_of_sets r m) 12 (omega (arith, within.1, count_grows r o m l)),
      ))
      (lt_or_le o r))

-- for 1 to 6 variables (nothing is said of none): compared by one computation
unfoldable pub greatest_orders : List ℕ
greatest_orders = 0 ∷ 1 ∷ 2 ∷ 3 ∷ 2 ∷ 1 ∷ 1 ∷ []

all_greatest : any_below (λ i. not (greatest_order (suc i) (get_or greatest_orders (suc i) 0))) 6 ≡ false
unfolding sum_below weight any_below those sets_of sets_up_to count_of_sets greatest_order greatest_orders
all_greatest = refl

pub limit_in_table : (r m : ℕ) → 1 ≤ m → m ≤ 6 → leb r (get_or greatest_orders m 0) ≡ order_within_limits r m
limit_in_table r zero low high = absurd (omega arith)
limit_in_table r (suc i) low high =
    limit_is (suc i) (get_or greatest_orders (suc i) 0) low high
    (not-false _ (none_of_any (λ i. not (greatest_order (suc i) (get_or greatest_orders (suc i) 0))) 6 all_greatest i (omega arith))) r

-- ---- what lies outside the limits by its number of variables

pub too_few_variables : (r m : ℕ) → m < 1 → false ≡ order_within_limits r m
unfolding order_within_limits
too_few_variables r m less = rw (lt-leb 1 m less)

pub too_many_variables : (r m : ℕ) → 6 < m → false ≡ order_within_limits r m
unfolding order_within_limits
too_many_variables r m more = rw (le-leb 1 m (omega arith), lt-leb m 6 more)

-- what the limits say
pub order_limits_of_test : (r m : ℕ) → order_within_limits r m ≡ true → (1 ≤ m) × (m ≤ 6) × (r ≤ m) × (count_of_sets r m ≤ 12)
unfolding order_within_limits
order_limits_of_test r m e =
    let three : (leb 1 m && leb m 6 && leb r m) ≡ true = and_true_left _ (leb (count_of_sets r m) 12) e in
    let two : (leb 1 m && leb m 6) ≡ true = and_true_left _ (leb r m) three in (
      leb-true 1 m (and_true_left _ (leb m 6) two),
      leb-true m 6 (and_true_right (leb 1 m) _ two),
      leb-true r m (and_true_right (leb 1 m && leb m 6) _ three),
      leb-true (count_of_sets r m) 12 (and_true_right (leb 1 m && leb m 6 && leb r m) _ e),
    )

-- ---- k is at least 2^r, so with at most 12 rows the order is at most 3

-- every set of the first r variables is one of at most r variables
pub count_at_least : (r m : ℕ) → r ≤ m → 2 ^ r ≤ count_of_sets r m
count_at_least r m order =
    let first : sum_below (λ S. 1) (2 ^ r) ≡ sum_below (where_true (λ S. leb (weight m S) r) (λ S. 1)) (2 ^ r) =
    sum_ext (2 ^ r) (λ S l. sym (ap (λ (t : Bool). cond t 1 0) (le-leb (weight m S) r (few S l)))) in
    omega (
      arith,
      first,
      sum_of_ones (2 ^ r),
      sum_longer (where_true (λ S. leb (weight m S) r) (λ S. 1)) (pow_mono {i = r} {j = m} order),
      sum_over_rows r m (λ S. 1),
      sum_of_ones (count_of_sets r m),
    )
  where
    few : (S : ℕ) → S < 2 ^ r → weight m S ≤ r
    few S l = omega (arith, weight_wider r m S order l, weight_le r S)

pub order_at_most_three : (r m : ℕ) → order_within_limits r m ≡ true → r ≤ 3
order_at_most_three r m e =
    let (_, _, order, twelve) = order_limits_of_test r m e in
    ⊎_elim (λ (more : 3 < r). omega (arith, count_at_least r m order, pow_mono {i = 4} {j = r} more)) (λ (l : r ≤ 3). l) (lt_or_le 3 r)
