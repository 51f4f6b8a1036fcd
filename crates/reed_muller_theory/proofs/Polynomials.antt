-- A codeword is a polynomial in m variables of degree at most r, modulo 2: the coefficient of a set is the bit that names its row. By
-- the law of classes, a polynomial none of whose products has more variables than S sums, over each class of S, to the coefficient
-- of S. Assumes nothing.
use mathlib.Core.Path.{◌≡◌, refl, sym, ap, ◌∙◌}
use mathlib.Core.Bool.{Bool, true, false, cond}
use mathlib.Core.Logic.{⊎_elim}
use Prim.Native.Nat.{ℕ, zero, suc, ◌*◌, ◌%◌, ◌^◌, ◌≤◌, ◌<◌}
use native.Mathlib.Nat.{zero-mul, one-mul, mod-add-mod}
use native.Mathlib.Omega.{arith}
use lib.Bits.{bit_and}
use lib.Dec.{leb, ltb, eqb}
use lib.Pow.{pow_pos}
use borrow.Author.Tests.{lt-leb, lt-ltb, le-ltb}
use Rattle.bits.specs.Sums.{sum_below}
use Rattle.bits.specs.Places.{bit, weight}
use Rattle.bits.proofs.Numbers.{lt_or_le, by_test}
use Rattle.bits.proofs.Sums.{sum_ext, sum_one_odd}
use Rattle.bits.proofs.Binary.{bit_bit, bit_zero, bit_xor_lem}
use Rattle.bits.proofs.Places.{number_below, bit_of_number}
use Rattle.model.specs.Card.{sum_of_rows}
use Rattle.model.specs.ReedMuller.{product, set_of, count_of_sets, product_row, product_of}
use Rattle.reed_muller_theory.proofs.LowestVariable.{member, sum_scaled}
use Rattle.reed_muller_theory.proofs.Classes.{ones_in_class, own_product, other_product, even_right, sum_exchange}
use Rattle.reed_muller_theory.proofs.Sets.{sum_over_rows, row_of_set, row_of_set_lem}

-- ---- polynomials

-- the value at p of the polynomial with coefficient H(T) of each set T; its parity counts
abbrev pub value_at : (m : ℕ) (H : ℕ → ℕ) (p : ℕ) → ℕ
value_at m H p = sum_below (λ T. H T * product T p) (2 ^ m)

-- none of its products has more than s variables
abbrev pub DegreeAtMost : (m s : ℕ) (H : ℕ → ℕ) → Type 0
DegreeAtMost m s H = (T : ℕ) → T < 2 ^ m → s < weight m T → H T ≡ 0

pub class_of_polynomial : (m S c : ℕ) (H : ℕ → ℕ) → S < 2 ^ m → c < 2 ^ m → product S c ≡ 1 → DegreeAtMost m (weight m S) H
    → sum_below (λ p. member S c p * value_at m H p) (2 ^ m) % 2 ≡ H S % 2
class_of_polynomial m S c H hS hc named degree =
    ap (λ (x : ℕ). x % 2) by_sets
    ∙ sum_one_odd (λ T. H T * ones_in_class m S T c) (2 ^ m) S hS (λ T l ne. others T l ne)
    ∙ rw (own_product m S c hS hc named) (omega arith)
  where
    by_sets : sum_below (λ p. member S c p * value_at m H p) (2 ^ m) ≡ sum_below (λ T. H T * ones_in_class m S T c) (2 ^ m)
    by_sets =
        sum_ext (2 ^ m) (λ p l. sym (sum_scaled (member S c p) (λ T. H T * product T p) (2 ^ m)))
        ∙ sum_exchange (λ p T. member S c p * (H T * product T p)) (2 ^ m) (2 ^ m)
        ∙ sum_ext (2 ^ m) (λ T l. sum_ext (2 ^ m) (λ p k. omega arith) ∙ sum_scaled (H T) (λ p. member S c p * product T p) (2 ^ m))

    others : (T : ℕ) → T < 2 ^ m → (T ≡ S → ⊥) → H T * ones_in_class m S T c % 2 ≡ 0
    others T l ne =
        ⊎_elim (λ (more : weight m S < weight m T). rw (degree T l more, zero-mul (ones_in_class m S T c)))
        (λ (no_more : weight m T ≤ weight m S). even_right (H T) (ones_in_class m S T c) (other_product m S T c hS l no_more ne))
        (lt_or_le (weight m S) (weight m T))

-- ---- codewords

-- a bit of a sum of rows
bit_times : (b x p : ℕ) → b < 2 → bit (b * x) p ≡ b * bit x p
bit_times zero x p h = rw (zero-mul x, zero-mul (bit x p)) (bit_zero p)
bit_times (suc zero) x p h = rw (one-mul x) (omega arith)
bit_times (suc (suc b)) x p h = absurd (omega arith)

pub bit_of_rows : (row : ℕ → ℕ) (k g p : ℕ) → bit (sum_of_rows row k g) p ≡ sum_below (λ z. bit g z * bit (row z) p) k % 2
unfolding sum_of_rows sum_below
bit_of_rows row zero g p = bit_zero p
bit_of_rows row (suc k) g p =
    bit_xor_lem (sum_of_rows row k g) (bit g k * row k) p
    ∙ rw (bit_of_rows row k g p, bit_times (bit g k) (row k) p (bit_bit g k))
    (mod-add-mod (sum_below (λ z. bit g z * bit (row z) p) k) 2 (bit g k * bit (row k) p))

-- a product is 0 or 1
pub product_bit : (S p : ℕ) → product S p < 2
unfolding product
product_bit S p = either (eqb (bit_and p S) S)
  where
    either : (t : Bool) → cond t 1 0 < 2
    either true = omega arith
    either false = omega arith

-- row z, place by place
pub product_row_bit : (m S p : ℕ) → p < 2 ^ m → bit (product_row m S) p ≡ product S p
unfolding product_row
product_row_bit m S p l = bit_of_number (product S) (product_bit S) (2 ^ m) p l

pub row_is_product : (r m z : ℕ) → z < count_of_sets r m → product_of r m z ≡ product_row m (set_of r m z)
unfolding product_of
row_is_product r m z l = rw (lt-ltb z (count_of_sets r m) l)

pub no_row : (r m z : ℕ) → count_of_sets r m ≤ z → product_of r m z ≡ 0
unfolding product_of
no_row r m z h = rw (le-ltb z (count_of_sets r m) h)

-- a row lies within 2^m places
pub product_row_narrow : (m S : ℕ) → product_row m S < 2 ^ 2 ^ m
unfolding product_row
product_row_narrow m S = number_below (product S) (product_bit S) (2 ^ m)

pub row_narrow : (r m z : ℕ) → product_of r m z < 2 ^ 2 ^ m
unfolding product_of
row_narrow r m z =
    by_test (λ (x : ℕ). x < 2 ^ 2 ^ m) (ltb z (count_of_sets r m)) (λ e. product_row_narrow m (set_of r m z)) (λ e. pow_pos (2 ^ m))

-- the coefficients of the sum of the rows that g names
abbrev pub coefficient_of : (r m g T : ℕ) → ℕ
coefficient_of r m g T = cond (leb (weight m T) r) (bit g (row_of_set r m T)) 0

pub degree_of_codeword : (r m g : ℕ) → DegreeAtMost m r (coefficient_of r m g)
degree_of_codeword r m g T l more = rw (lt-leb (weight m T) r more)

pub codeword_is_polynomial : (r m g p : ℕ) → p < 2 ^ m
    → bit (sum_of_rows (product_of r m) (count_of_sets r m) g) p ≡ value_at m (coefficient_of r m g) p % 2
codeword_is_polynomial r m g p l =
    bit_of_rows (product_of r m) (count_of_sets r m) g p
    ∙ ap (λ (x : ℕ). x % 2)
    (sum_ext (count_of_sets r m) (λ z h. by_set z h)
    ∙ sum_over_rows r m (λ T. bit g (row_of_set r m T) * product T p)
    ∙ sum_ext (2 ^ m) (λ T h. taken (leb (weight m T) r) (bit g (row_of_set r m T)) (product T p)))
  where
    by_set : (z : ℕ) → z < count_of_sets r m
        → bit g z * bit (product_of r m z) p ≡ bit g (row_of_set r m (set_of r m z)) * product (set_of r m z) p
    by_set z h = rw (row_of_set_lem r m z h, row_is_product r m z h, product_row_bit m (set_of r m z) p l)

    taken : (t : Bool) (a b : ℕ) → cond t (a * b) 0 ≡ cond t a 0 * b
    taken true a b = refl
    taken false a b = omega arith
