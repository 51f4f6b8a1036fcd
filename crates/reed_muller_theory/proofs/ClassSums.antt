-- All class sums of a set at once. The sum over a class of A and one more variable v is that over the class of A at the same position
-- and that at the position without v: so a word added to itself, shifted by 2^v, takes the class sums of A to those of A and v.
-- Assumes nothing.
use mathlib.Core.Path.{◌≡◌, sym, ap, ap₂, ◌∙◌}
use mathlib.Core.Bool.{Bool, true, false, cond}
use mathlib.Core.Logic.{⊎_elim}
use Prim.Native.Nat.{ℕ, ◌+◌, ◌-◌, ◌*◌, ◌%◌, ◌^◌, ◌≤◌, ◌<◌, min}
use native.Mathlib.Nat.{add-zero, le_dest}
use native.Mathlib.Omega.{arith}
use lib.Bits.{bit_and, bit_or, or_zero_r, or_add_and, and_le_r}
use lib.Dec.{eqb}
use lib.Pow.{pow_mono, pow_pos}
use borrow.Author.Tests.{eq-eqb, ne_eqb}
use Rattle.bits.specs.Sums.{sum_below, difference}
use Rattle.bits.specs.Places.{bit}
use Rattle.bits.proofs.Numbers.{eq_or_ne}
use Rattle.bits.proofs.Sums.{sum_ext, sum_add, sum_zero, sum_split, sum_one_odd}
use Rattle.bits.proofs.Binary.{bit_bit, bit_zero, bit_ext, bit_ext_below, bit_and_lem, bit_or_lem, bit_pow_same, bit_pow_other}
use Rattle.bits.proofs.Binary.{bit_set_here, bit_set_other}
use Rattle.bits.proofs.Shifts.{bit_all_ones}
use Rattle.model.specs.ReedMuller.{product, product_row, class_sum}
use Rattle.reed_muller_theory.proofs.LowestVariable.{same, same_yes, same_no, member}
use Rattle.reed_muller_theory.proofs.Polynomials.{product_bit, product_row_bit, product_row_narrow}

-- ---- having every bit of a set

pub has_every_bit : (S p : ℕ) → product S p ≡ 1 → (v : ℕ) → bit S v ≤ bit p v
unfolding product
has_every_bit S p one v =
    ⊎_elim
    (λ (e : bit_and p S ≡ S). omega (arith, bit_and_lem p S v, ap (λ (x : ℕ). bit x v) e))
    (λ (ne : bit_and p S ≡ S → ⊥). let none : same (bit_and p S) S ≡ 0 = same_no (bit_and p S) S ne in absurd (omega arith))
    (eq_or_ne (bit_and p S) S)

pub has_if_every : (S p : ℕ) → ((v : ℕ) → bit S v ≤ bit p v) → product S p ≡ 1
unfolding product
has_if_every S p every = same_yes (bit_and p S) S (bit_ext (bit_and p S) S (λ v. bit_and_lem p S v ∙ omega (arith, every v)))

-- the product of no variable is 1 at each position
pub product_of_none : (m : ℕ) → product_row m 0 ≡ 2 ^ 2 ^ m - 1
product_of_none m =
    bit_ext_below (2 ^ m) (product_row m 0) (2 ^ 2 ^ m - 1) (product_row_narrow m 0) (omega (arith, pow_pos (2 ^ m)))
    (λ p l. product_row_bit m 0 p l ∙ has_if_every 0 p (λ v. omega (arith, bit_zero v)) ∙ sym (bit_all_ones (2 ^ m) p l))

-- the product with one variable more
pub product_more : (A v p : ℕ) → bit A v ≡ 0 → product (A + 2 ^ v) p ≡ min (product A p) (product (2 ^ v) p)
product_more A v p new =
    ⊎_elim
    (λ (all : product (A + 2 ^ v) p ≡ 1).
    let every = has_every_bit (A + 2 ^ v) p all in
    rw (
      all,
      has_if_every A p (λ w. omega (arith, every w, of_old w)),
      has_if_every (2 ^ v) p (λ w. omega (arith, every w, of_new w)),
    ))
    (λ (ne : product (A + 2 ^ v) p ≡ 1 → ⊥).
    ⊎_elim
    (λ (old : product A p ≡ 1).
    ⊎_elim (λ (one : product (2 ^ v) p ≡ 1). absurd (ne (has_if_every (A + 2 ^ v) p (λ w. both w old one))))
    (λ (none : product (2 ^ v) p ≡ 1 → ⊥). omega (arith, product_bit (A + 2 ^ v) p, product_bit (2 ^ v) p))
    (eq_or_ne (product (2 ^ v) p) 1))
    (λ (none : product A p ≡ 1 → ⊥). omega (arith, product_bit (A + 2 ^ v) p, product_bit A p))
    (eq_or_ne (product A p) 1))
    (eq_or_ne (product (A + 2 ^ v) p) 1)
  where
    of_old : (w : ℕ) → bit A w ≤ bit (A + 2 ^ v) w
    of_old w =
        ⊎_elim (λ (e : w ≡ v). rw (e, new) (omega arith)) (λ (ne : w ≡ v → ⊥). omega (arith, bit_set_other A v new w ne)) (eq_or_ne w v)

    of_new : (w : ℕ) → bit (2 ^ v) w ≤ bit (A + 2 ^ v) w
    of_new w =
        ⊎_elim (λ (e : w ≡ v). rw e (omega (arith, bit_pow_same v, bit_set_here A v new)))
        (λ (ne : w ≡ v → ⊥). omega (arith, bit_pow_other v w ne))
        (eq_or_ne w v)

    both : (w : ℕ) → product A p ≡ 1 → product (2 ^ v) p ≡ 1 → bit (A + 2 ^ v) w ≤ bit p w
    both w old one =
        ⊎_elim (λ (e : w ≡ v). rw e (omega (arith, has_every_bit (2 ^ v) p one v, bit_pow_same v, bit_set_here A v new)))
        (λ (ne : w ≡ v → ⊥). omega (arith, has_every_bit A p old w, bit_set_other A v new w ne))
        (eq_or_ne w v)

-- ---- one variable more

same_moved : (a b c : ℕ) → same (a + c) (b + c) ≡ same a b
same_moved a b c =
    ⊎_elim (λ (e : a ≡ b). rw (same_yes (a + c) (b + c) (omega arith), same_yes a b e))
    (λ (ne : a ≡ b → ⊥). rw (same_no (a + c) (b + c) (λ k. ne (omega arith)), same_no a b ne))
    (eq_or_ne a b)

-- a position with v is the same joined with A as with A and v, and one without v is 2^v less
or_with : (A v p : ℕ) → bit A v ≡ 0 → bit p v ≡ 1 → bit_or p (A + 2 ^ v) ≡ bit_or p A
or_with A v p new one =
    bit_ext (bit_or p (A + 2 ^ v)) (bit_or p A)
    (λ w. bit_or_lem p (A + 2 ^ v) w
    ∙ ⊎_elim (λ (e : w ≡ v). rw (e, bit_or_lem p A v, one, bit_set_here A v new, new))
    (λ (ne : w ≡ v → ⊥). rw (bit_or_lem p A w, bit_set_other A v new w ne))
    (eq_or_ne w v))

or_without : (A v p : ℕ) → bit A v ≡ 0 → bit p v ≡ 0 → bit_or p (A + 2 ^ v) ≡ bit_or p A + 2 ^ v
or_without A v p new none =
    let clear : bit (bit_or p A) v ≡ 0 = rw (bit_or_lem p A v, none, new) in
    bit_ext (bit_or p (A + 2 ^ v)) (bit_or p A + 2 ^ v)
    (λ w. bit_or_lem p (A + 2 ^ v) w
    ∙ ⊎_elim (λ (e : w ≡ v). rw (e, bit_set_here (bit_or p A) v clear, none, bit_set_here A v new))
    (λ (ne : w ≡ v → ⊥). rw (bit_set_other (bit_or p A) v clear w ne, bit_or_lem p A w, bit_set_other A v new w ne))
    (eq_or_ne w v))

-- so the positions of a class with v are those of two classes without it
module _ (A v d : ℕ) (new : bit A v ≡ 0) (clear : bit d v ≡ 0) where
  joined : (p : ℕ) → member (A + 2 ^ v) (d + 2 ^ v) p ≡ member A (d + 2 ^ v) p + member A d p
  joined p =
      ⊎_elim
      (λ (one : bit p v ≡ 1).
      let other : member A d p ≡ 0 =
      same_no (bit_or p A) d (λ e. omega (arith, bit_or_lem p A v, ap (λ (x : ℕ). bit x v) e)) in
      rw (or_with A v p new one, other) (sym (add-zero (member A (d + 2 ^ v) p))))
      (λ (ne : bit p v ≡ 1 → ⊥).
      let none : bit p v ≡ 0 = omega (arith, bit_bit p v) in
      let other : member A (d + 2 ^ v) p ≡ 0 =
      same_no (bit_or p A) (d + 2 ^ v) (λ e. omega (arith, bit_or_lem p A v, bit_set_here d v clear, ap (λ (x : ℕ). bit x v) e)) in
      rw (or_without A v p new none, other, same_moved (bit_or p A) d (2 ^ v)) (omega arith))
      (eq_or_ne (bit p v) 1)

  pub class_sum_joined : (m : ℕ) (y : ℕ → ℕ)
      → class_sum m (A + 2 ^ v) y (d + 2 ^ v) ≡ difference (class_sum m A y (d + 2 ^ v)) (class_sum m A y d)
  unfolding class_sum
  class_sum_joined m y =
      ap (λ (x : ℕ). x % 2)
      (sum_ext (2 ^ m) (λ p l. both p)
      ∙ sum_add (λ p. cond (eqb (bit_or p A) (d + 2 ^ v)) (y p) 0) (λ p. cond (eqb (bit_or p A) d) (y p) 0) (2 ^ m))
      ∙ digits (sum_below (λ p. cond (eqb (bit_or p A) (d + 2 ^ v)) (y p) 0) (2 ^ m)) (sum_below (λ p. cond (eqb (bit_or p A) d) (y p) 0) (2 ^ m))
    where
      digits : (a b : ℕ) → (a + b) % 2 ≡ difference (a % 2) (b % 2)
      digits a b = omega arith

      counted : (t : Bool) (a : ℕ) → cond t a 0 ≡ cond t 1 0 * a
      counted true a = omega arith
      counted false a = omega arith

      times : (a b c x : ℕ) → a ≡ b + c → a * x ≡ b * x + c * x
      times a b c x e = rw e (omega arith)

      both : (p : ℕ)
          → cond (eqb (bit_or p (A + 2 ^ v)) (d + 2 ^ v)) (y p) 0
          ≡ cond (eqb (bit_or p A) (d + 2 ^ v)) (y p) 0 + cond (eqb (bit_or p A) d) (y p) 0
      both p =
          counted (eqb (bit_or p (A + 2 ^ v)) (d + 2 ^ v)) (y p)
          ∙ times (member (A + 2 ^ v) (d + 2 ^ v) p) (member A (d + 2 ^ v) p) (member A d p) (y p) (joined p)
          ∙ sym (ap₂ (λ (a b : ℕ). a + b) (counted (eqb (bit_or p A) (d + 2 ^ v)) (y p)) (counted (eqb (bit_or p A) d) (y p)))

-- ---- no variable at all, and more places than a class has

-- the classes of the empty set are the positions
pub class_sum_alone : (m : ℕ) (y : ℕ → ℕ) (c : ℕ) → c < 2 ^ m → class_sum m 0 y c ≡ y c % 2
unfolding class_sum
class_sum_alone m y c l =
    sum_one_odd (λ p. cond (eqb (bit_or p 0) c) (y p) 0) (2 ^ m) c l
    (λ p h ne. let other : eqb (bit_or p 0) c ≡ false = ne_eqb (bit_or p 0) c (λ e. ne (sym (or_zero_r p) ∙ e)) in rw other)
    ∙ rw (eq-eqb (bit_or c 0) c (or_zero_r c))

-- a class of a set of m variables is the same among the positions of more variables
pub class_sum_wider : (m n S : ℕ) (y : ℕ → ℕ) (c : ℕ) → m ≤ n → c < 2 ^ m → class_sum n S y c ≡ class_sum m S y c
unfolding class_sum
class_sum_wider m n S y c wider l =
    let (more, is) = le_dest (pow_mono wider) in
    ap (λ (x : ℕ). x % 2)
    (ap (sum_below (λ p. cond (eqb (bit_or p S) c) (y p) 0)) (sym is)
    ∙ sum_split (λ p. cond (eqb (bit_or p S) c) (y p) 0) (2 ^ m) more
    ∙ omega (arith, sum_zero {f = λ q. cond (eqb (bit_or (2 ^ m + q) S) c) (y (2 ^ m + q)) 0} more (λ q h. beyond (2 ^ m + q) (omega arith))))
  where
    beyond : (p : ℕ) → 2 ^ m ≤ p → cond (eqb (bit_or p S) c) (y p) 0 ≡ 0
    beyond p far =
        let other : eqb (bit_or p S) c ≡ false = ne_eqb (bit_or p S) c (λ e. omega (arith, or_add_and p S, and_le_r p S)) in rw other
