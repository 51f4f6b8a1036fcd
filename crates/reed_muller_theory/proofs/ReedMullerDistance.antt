-- The least distance of a Reed-Muller code is 2^(m-r). Of the sets whose products a nonzero codeword sums, one has the most
-- variables; each of its classes, of which there are 2^(m-r) at least, sums to 1 and so holds a one, and classes share no position.
-- The product of r variables weighs 2^(m-r). So the rows are independent too, and the code is sound. Assumes nothing.
use mathlib.Core.Path.{◌≡◌, refl, sym, ap, ◌∙◌}
use mathlib.Core.Bool.{cond}
use mathlib.Core.Logic.{◌⊎◌, inl, inr, ⊎_elim}
use Prim.Native.Nat.{ℕ, zero, suc, ◌+◌, ◌-◌, ◌*◌, ◌/◌, ◌%◌, ◌^◌, ◌≤◌, ◌<◌}
use native.Mathlib.Nat.{mul-le-mul_left, mul-le-mul_right, le_trans, le_antisymm, eq-zero-or-pos}
use native.Mathlib.Omega.{arith}
use lib.Dec.{leb, eqb}
use lib.Pow.{pow-add, pow-lt, pow_mono, pow_pos}
use borrow.Author.Tests.{le-leb, eq-eqb, ne_eqb}
use Rattle.bits.specs.Sums.{sum_below}
use Rattle.bits.specs.Places.{bit, weight}
use Rattle.bits.specs.Searches.{least_at}
use Rattle.bits.proofs.Numbers.{lt_or_le, eq_or_ne, by_test}
use Rattle.bits.proofs.Sums.{sum_ext, sum_mono, some_summand, sum_parity, times_parity}
use Rattle.bits.proofs.Searches.{least_at_high, least_at_least}
use Rattle.bits.proofs.Binary.{bit_bit, bit_zero, weight_le, weight_zero, zero_of_weight}
use Rattle.model.specs.Card.{sum_of_rows, least_weight}
use Rattle.model.specs.ReedMuller.{product, set_of, count_of_sets, product_row, product_of, reed_muller, classes}
use Rattle.code_theory.specs.Promise.{Sound}
use Rattle.code_theory.proofs.Codewords.{rows_of_none, rows_of_one}
use Rattle.code_theory.proofs.LeastWeight.{Attained, least_le, least_some}
use Rattle.reed_muller_theory.proofs.LowestVariable.{member, weight_digit}
use Rattle.reed_muller_theory.proofs.Classes.{count_of_classes, classes_apart}
use Rattle.reed_muller_theory.proofs.Sets.{set_below, set_size, row_of_set, row_of_set_lem, set_occurs, count_low, count_high}
use Rattle.reed_muller_theory.proofs.Polynomials.{value_at, DegreeAtMost, class_of_polynomial}
use Rattle.reed_muller_theory.proofs.Polynomials.{product_bit, product_row_bit, row_is_product, no_row, row_narrow}
use Rattle.reed_muller_theory.proofs.Polynomials.{coefficient_of, degree_of_codeword, codeword_is_polynomial}

-- ---- a set with the most variables

-- of the sets with a nonzero coefficient, if there is one, one has the most variables
top_set : (m : ℕ) (H : ℕ → ℕ) (T : ℕ) → T < 2 ^ m → (H T ≡ 0 → ⊥)
    → (S : ℕ) × (S < 2 ^ m) × (H S ≡ 0 → ⊥) × DegreeAtMost m (weight m S) H
top_set m H T hT some = (top, omega (arith, least_at_high missing 0 (2 ^ m - 1), pow_pos m), nonzero, most)
  where
    -- how many of the m variables it misses, or more where its coefficient is zero
    missing : ℕ → ℕ
    missing S = cond (eqb (H S) 0) (suc m) (m - weight m S)

    missing_none : (S : ℕ) → H S ≡ 0 → missing S ≡ suc m
    missing_none S e = rw (eq-eqb (H S) 0 e)

    missing_some : (S : ℕ) → (H S ≡ 0 → ⊥) → missing S ≡ m - weight m S
    missing_some S ne = rw (ne_eqb (H S) 0 ne)

    top : ℕ
    top = least_at missing 0 (2 ^ m - 1)

    least : (S : ℕ) → S < 2 ^ m → missing top ≤ missing S
    least S h = least_at_least missing 0 (2 ^ m - 1) S (omega arith) (omega arith)

    nonzero : H top ≡ 0 → ⊥
    nonzero e = omega (arith, missing_none top e, least T hT, missing_some T some)

    most : DegreeAtMost m (weight m top) H
    most S h more =
        ⊎_elim (λ (e : H S ≡ 0). e)
        (λ (ne : H S ≡ 0 → ⊥).
        omega (arith, least S h, missing_some S ne, missing_some top nonzero, weight_le m S, weight_le m top))
        (eq_or_ne (H S) 0)

module _ (r m : ℕ) (order : r ≤ m) where
  -- ---- how many classes a set of at most r variables has

  whole : 2 ^ (m - r) * 2 ^ r ≡ 2 ^ m
  whole = let back : m - r + r ≡ m = omega arith in sym (pow-add 2 (m - r) r) ∙ ap (λ (e : ℕ). 2 ^ e) back

  pub classes_at_least : (S : ℕ) → S < 2 ^ m → weight m S ≤ r → 2 ^ (m - r) ≤ classes m S
  classes_at_least S h size =
      ⊎_elim
      (λ (few : classes m S < 2 ^ (m - r)).
      let short : suc (classes m S) * 2 ^ r ≤ 2 ^ (m - r) * 2 ^ r = mul-le-mul_right (2 ^ r) few in
      let larger : classes m S * 2 ^ weight m S ≤ classes m S * 2 ^ r = mul-le-mul_left (classes m S) (pow_mono size) in
      omega (arith, count_of_classes m S h, whole, pow_pos r))
      (λ (enough : 2 ^ (m - r) ≤ classes m S). enough)
      (lt_or_le (classes m S) (2 ^ (m - r)))

  pub classes_of_largest : (S : ℕ) → S < 2 ^ m → weight m S ≡ r → classes m S ≡ 2 ^ (m - r)
  classes_of_largest S h size =
      ⊎_elim
      (λ (many : 2 ^ (m - r) < classes m S).
      let short : suc (2 ^ (m - r)) * 2 ^ r ≤ classes m S * 2 ^ r = mul-le-mul_right (2 ^ r) many in
      omega (arith, rw size at (count_of_classes m S h), whole, pow_pos r))
      (λ (no_more : classes m S ≤ 2 ^ (m - r)). le_antisymm no_more (classes_at_least S h (omega arith)))
      (lt_or_le (2 ^ (m - r)) (classes m S))

  -- ---- every nonzero codeword weighs 2^(m-r) at least

  -- the sum of the rows that g names
  abbrev rows : ℕ → ℕ
  rows = sum_of_rows (product_of r m) (count_of_sets r m)

  -- a polynomial with these coefficients weighs at least as much as a set with the most variables has classes
  weight_of_polynomial : (word : ℕ) (H : ℕ → ℕ) → ((p : ℕ) → p < 2 ^ m → bit word p ≡ value_at m H p % 2)
      → (S : ℕ) → S < 2 ^ m → H S ≡ 1 → DegreeAtMost m (weight m S) H → classes m S ≤ weight (2 ^ m) word
  unfolding classes weight
  weight_of_polynomial word H values S h one degree =
      le_trans (sum_mono (2 ^ m) (λ c l. a_one_each c l)) (classes_apart (2 ^ m) S (bit word))
    where
      odd : (c : ℕ) → c < 2 ^ m → product S c ≡ 1 → sum_below (λ p. member S c p * bit word p) (2 ^ m) % 2 ≡ 1
      odd c l named =
          sum_parity (λ p. member S c p * bit word p) (λ p. member S c p * value_at m H p) (2 ^ m)
          (λ p k. ap (λ (x : ℕ). member S c p * x % 2) (values p k) ∙ times_parity (member S c p) (value_at m H p))
          ∙ class_of_polynomial m S c H h l named degree
          ∙ ap (λ (x : ℕ). x % 2) one

      a_one_each : (c : ℕ) → c < 2 ^ m → product S c ≤ sum_below (λ p. member S c p * bit word p) (2 ^ m)
      a_one_each c l =
          ⊎_elim (λ (named : product S c ≡ 1). omega (arith, odd c l named))
          (λ (other : product S c ≡ 1 → ⊥). omega (arith, product_bit S c))
          (eq_or_ne (product S c) 1)

  -- the coefficient of row z's set is the bit that names the row
  pub coefficient_of_row : (g z : ℕ) → z < count_of_sets r m → coefficient_of r m g (set_of r m z) ≡ bit g z
  coefficient_of_row g z l = rw (le-leb (weight m (set_of r m z)) r (set_size r m z l), row_of_set_lem r m z l)

  -- a number that is not zero has a bit
  some_bit : (k g : ℕ) → g < 2 ^ k → (g ≡ 0 → ⊥) → (z : ℕ) × (z < k) × (bit g z ≡ 1)
  unfolding weight
  some_bit k g h ne =
      let (z, l, some) =
      some_summand (bit g) k
      (⊎_elim (λ (e : weight k g ≡ 0). absurd (ne (zero_of_weight k g h e))) (λ (p : 0 < weight k g). p) (eq-zero-or-pos (weight k g))) in
      (z, l, omega (arith, bit_bit g z))

  -- a coefficient is 0 or 1, and one that is not zero is of a set of at most r variables
  pub coefficient_bit : (g T : ℕ) → coefficient_of r m g T < 2
  coefficient_bit g T = by_test (λ (x : ℕ). x < 2) (leb (weight m T) r) (λ e. bit_bit g (row_of_set r m T)) (λ e. omega arith)

  size_of_some : (g T : ℕ) → T < 2 ^ m → (coefficient_of r m g T ≡ 0 → ⊥) → weight m T ≤ r
  size_of_some g T h ne =
      ⊎_elim (λ (more : r < weight m T). absurd (ne (degree_of_codeword r m g T h more))) (λ (l : weight m T ≤ r). l)
      (lt_or_le r (weight m T))

  heavy : (g : ℕ) → 0 < g → g < 2 ^ count_of_sets r m → 2 ^ (m - r) ≤ weight (2 ^ m) (rows g)
  heavy g pos below =
      let (z, l, named) = some_bit (count_of_sets r m) g below (λ e. omega arith) in
      let (S, h, some, degree) =
      top_set m (coefficient_of r m g) (set_of r m z) (set_below r m z l) (λ e. omega (arith, coefficient_of_row g z l)) in
      le_trans (classes_at_least S h (size_of_some g S h some))
      (weight_of_polynomial (rows g) (coefficient_of r m g) (codeword_is_polynomial r m g) S h (omega (arith, coefficient_bit g S, some)) degree)

  -- ---- and one weighs just that

  -- the first r variables
  first_variables : (s v : ℕ) → s ≤ v → weight v (2 ^ s - 1) ≡ s
  first_variables zero v l = weight_zero v
  first_variables (suc s) zero l = omega arith
  first_variables (suc s) (suc v) l =
      let last : (2 ^ suc s - 1) % 2 ≡ 1 = omega (arith, pow_pos s) in
      let half : (2 ^ suc s - 1) / 2 ≡ 2 ^ s - 1 = omega (arith, pow_pos s) in
      weight_digit v (2 ^ suc s - 1) ∙ rw (last, half, first_variables s v (omega arith)) (omega arith)

  lightest : (g : ℕ) × (0 < g) × (g < 2 ^ count_of_sets r m) × (weight (2 ^ m) (rows g) ≡ 2 ^ (m - r))
  unfolding weight classes
  lightest =
      let S : ℕ = 2 ^ r - 1 in
      let below : S < 2 ^ m = omega (arith, pow_mono {i = r} {j = m} order, pow_pos r) in
      let size : weight m S ≡ r = first_variables r m order in
      let (z, l, is) = set_occurs r m S below (omega arith) in
      let row : rows (2 ^ z) ≡ product_row m S =
      rows_of_one (product_of r m) (count_of_sets r m) z l ∙ row_is_product r m z l ∙ ap (product_row m) is in (
        2 ^ z,
        pow_pos z,
        pow-lt l,
        ap (weight (2 ^ m)) row ∙ sum_ext (2 ^ m) (λ p h. product_row_bit m S p h) ∙ classes_of_largest S below size,
      )

  pub reed_muller_distance : (reed_muller r m).D ≡ 2 ^ (m - r)
  reed_muller_distance = le_antisymm (at_most lightest) (at_least (least_some (2 ^ m) rows (2 ^ count_of_sets r m)))
    where
      at_most : (g : ℕ) × (0 < g) × (g < 2 ^ count_of_sets r m) × (weight (2 ^ m) (rows g) ≡ 2 ^ (m - r))
          → least_weight (2 ^ m) rows (2 ^ count_of_sets r m) ≤ 2 ^ (m - r)
      at_most (g, pos, l, light) =
          omega (
            arith,
            light,
            least_le (2 ^ m) rows (2 ^ count_of_sets r m) g l
                (λ e. omega (arith, light, pow_pos (m - r), ap (weight (2 ^ m)) e ∙ weight_zero (2 ^ m))),
          )

      at_least : (least_weight (2 ^ m) rows (2 ^ count_of_sets r m) ≡ 2 ^ m) ⊎ Attained (2 ^ m) rows (2 ^ count_of_sets r m)
          → 2 ^ (m - r) ≤ least_weight (2 ^ m) rows (2 ^ count_of_sets r m)
      at_least (inl e) = omega (arith, e, pow_mono {i = m - r} {j = m} (omega arith))
      at_least (inr (g, l, ne, e)) =
          ⊎_elim (λ (z : g ≡ 0). absurd (ne (ap rows z ∙ rows_of_none (product_of r m) (count_of_sets r m) 0 (λ y h. bit_zero y))))
          (λ (pos : 0 < g). omega (arith, e, heavy g pos l))
          (eq-zero-or-pos g)

-- ---- the code is sound

pub sound_code : (r m : ℕ) → m ≤ 6 → r ≤ m → count_of_sets r m ≤ 12 → Sound (reed_muller r m)
sound_code r m six order twelve =
    record {
      n_low = pow_pos m;
      n_high = pow_mono {i = m} {j = 6} six;
      k_low = count_low r m;
      k_high = twelve;
      k_n = count_high r m;
      narrow = λ z l. row_narrow r m z;
      unused = λ z h l. no_row r m z h;
      independent = λ g pos l e. omega (arith, heavy r m order g pos l, pow_pos (m - r), ap (weight (2 ^ m)) e ∙ weight_zero (2 ^ m));
      least = refl;
    }
