-- Binary digits of numbers: a number is known by its bits, and the bit of an exclusive-or is 1 where the two bits differ.
-- So the weight of an exclusive-or is a Hamming distance, and identities of exclusive-or are read off bit by bit.
-- Assumes nothing.
use mathlib.Core.Path.{◌≡◌, refl, sym, ap, ◌∙◌}
use mathlib.Core.Logic.{⊎_elim}
use Prim.Native.Nat.{ℕ, zero, suc, ◌+◌, ◌*◌, ◌/◌, ◌%◌, ◌^◌, ◌≤◌, ◌<◌, min, max}
use native.Mathlib.Nat.{lt_of_lt_of_le, le_dest, zero-lt-suc, zero-add, add-zero, pow-succ', div-one, zero-div, div-eq_of_lt, div_self}
use native.Mathlib.Nat.{div-div-eq-div-mul, mod-lt, mod-one, mod-eq_of_lt, mod-add-mod, add-mod-mod, mul-add-mod_self_right}
use native.Mathlib.Numerals.{one-add}
use native.Mathlib.Omega.{arith}
use lib.Bits.{bit_and, bit_or, bit_xor, differ, and_step, or_step, xor_step, and_shr, or_shr, xor_shr, xor_lt}
use lib.Bits.{xor_self, xor_zero_r, xor_disjoint}
use lib.Count.{ones, ones_cat}
use lib.Pow.{pow_pos, pow_mono, mod-pow-add}
use Rattle.bits.specs.Sums.{sum_below, difference, distance}
use Rattle.bits.specs.Places.{bit, weight}
use Rattle.bits.proofs.Numbers.{eq_or_ne}
use Rattle.bits.proofs.Sums.{sum_ext, sum_zero, sum_split, sum_of_bits, summand_le}

-- ---- the digits of a number

pub bit_bit : (x p : ℕ) → bit x p < 2
bit_bit x p = mod-lt (x / 2 ^ p) (zero-lt-suc 1)

-- the lowest digit, and the digits above it
pub bit_lowest : (x : ℕ) → bit x 0 ≡ x % 2
bit_lowest x = ap (λ (y : ℕ). y % 2) (div-one x)

pub bit_suc : (x p : ℕ) → bit x (suc p) ≡ bit (x / 2) p
bit_suc x p = rw (pow-succ' 2 p, ← div-div-eq-div-mul x 2 (2 ^ p))

-- all digits of 0 are 0, and so are a number's digits from its width on
pub bit_zero : (p : ℕ) → bit 0 p ≡ 0
bit_zero p = rw zero-div

pub bit_high : (x n p : ℕ) → x < 2 ^ n → n ≤ p → bit x p ≡ 0
bit_high x n p h l = rw (div-eq_of_lt (lt_of_lt_of_le h (pow_mono l)))

-- a number x is below 2 ^ x
pub below_pow : (x : ℕ) → x < 2 ^ x
below_pow zero = omega arith
below_pow (suc x) = let ih : x < 2 ^ x = below_pow x in omega arith

-- two numbers with the same digits are equal: where both are below 2 ^ n, the first n digits are enough
pub bit_ext_below : (n x y : ℕ) → x < 2 ^ n → y < 2 ^ n → ((p : ℕ) → p < n → bit x p ≡ bit y p) → x ≡ y
bit_ext_below zero x y hx hy h = omega arith
bit_ext_below (suc n) x y hx hy h =
    let low : x % 2 ≡ y % 2 = sym (bit_lowest x) ∙ h 0 (omega arith) ∙ bit_lowest y in
    let high : x / 2 ≡ y / 2 =
    bit_ext_below n (x / 2) (y / 2) (omega arith) (omega arith)
    (λ p l. sym (bit_suc x p) ∙ h (suc p) (omega arith) ∙ bit_suc y p) in
    omega arith

pub bit_ext : (x y : ℕ) → ((p : ℕ) → bit x p ≡ bit y p) → x ≡ y
bit_ext x y h =
    bit_ext_below (x + y) x y
    (lt_of_lt_of_le (below_pow x) (pow_mono (omega arith)))
    (lt_of_lt_of_le (below_pow y) (pow_mono (omega arith)))
    (λ p l. h p)

-- 2 ^ z has one bit, bit z
pub bit_pow_same : (z : ℕ) → bit (2 ^ z) z ≡ 1
bit_pow_same z = rw (div_self (pow_pos z))

pub bit_pow_other : (z p : ℕ) → (p ≡ z → ⊥) → bit (2 ^ z) p ≡ 0
bit_pow_other zero zero h = absurd (h refl)
bit_pow_other zero (suc p) h = bit_suc 1 p ∙ bit_zero p
bit_pow_other (suc z) zero h = bit_lowest (2 ^ suc z) ∙ (omega arith)
bit_pow_other (suc z) (suc p) h =
    let half : 2 ^ suc z / 2 ≡ 2 ^ z = omega arith in
    bit_suc (2 ^ suc z) p ∙ ap (λ (x : ℕ). bit x p) half ∙ bit_pow_other z p (λ e. h (ap suc e))

-- ---- exclusive-or, bit by bit

differ_parity : (a b : ℕ) → differ a b % 2 ≡ (a + b) % 2
differ_parity zero b = rw zero-add
differ_parity (suc a) zero = rw add-zero
differ_parity (suc a) (suc b) = let ih : differ a b % 2 ≡ (a + b) % 2 = differ_parity a b in omega arith

pub xor_lowest : (a b : ℕ) → bit_xor a b % 2 ≡ difference (a % 2) (b % 2)
xor_lowest a b =
    ap (λ (x : ℕ). x % 2) (xor_step a b)
    ∙ mul-add-mod_self_right (bit_xor (a / 2) (b / 2)) 2 (differ (a % 2) (b % 2))
    ∙ differ_parity (a % 2) (b % 2)

-- a bit of an exclusive-or is 1 where the two bits differ
pub bit_xor_lem : (x y p : ℕ) → bit (bit_xor x y) p ≡ difference (bit x p) (bit y p)
bit_xor_lem x y p = ap (λ (z : ℕ). z % 2) (xor_shr x y p) ∙ xor_lowest (x / 2 ^ p) (y / 2 ^ p)

pub xor_assoc : (x y z : ℕ) → bit_xor (bit_xor x y) z ≡ bit_xor x (bit_xor y z)
xor_assoc x y z = bit_ext _ _ (λ p. simp (bit_xor_lem, mod-add-mod, add-mod-mod) (omega arith))

pub xor_exchange : (a b c d : ℕ) → bit_xor (bit_xor a b) (bit_xor c d) ≡ bit_xor (bit_xor a c) (bit_xor b d)
xor_exchange a b c d = bit_ext _ _ (λ p. simp (bit_xor_lem, mod-add-mod, add-mod-mod) (omega arith))

pub xor_undone : (a b : ℕ) → bit_xor a (bit_xor a b) ≡ b
xor_undone a b = sym (xor_assoc a a b) ∙ ap (λ (x : ℕ). bit_xor x b) (xor_self a)

-- numbers whose exclusive-or is 0 are equal
pub eq_of_xor_zero : (x y : ℕ) → bit_xor x y ≡ 0 → x ≡ y
eq_of_xor_zero x y e =
    bit_ext x y
    (λ p.
    let z : difference (bit x p) (bit y p) ≡ 0 = sym (bit_xor_lem x y p) ∙ ap (λ (u : ℕ). bit u p) e ∙ bit_zero p in
    alike (bit x p) (bit y p) (bit_bit x p) (bit_bit y p) z)
  where
    alike : (a b : ℕ) → a < 2 → b < 2 → difference a b ≡ 0 → a ≡ b
    alike a b ha hb e = omega arith

-- ---- and, or, and a bit that is set

-- a bit of an and is 1 where both bits are, of an or where one is
pub bit_and_lem : (x y p : ℕ) → bit (bit_and x y) p ≡ min (bit x p) (bit y p)
bit_and_lem x y p = ap (λ (z : ℕ). z % 2) (and_shr x y p ∙ and_step (x / 2 ^ p) (y / 2 ^ p)) ∙ (omega arith)

pub bit_or_lem : (x y p : ℕ) → bit (bit_or x y) p ≡ max (bit x p) (bit y p)
bit_or_lem x y p = ap (λ (z : ℕ). z % 2) (or_shr x y p ∙ or_step (x / 2 ^ p) (y / 2 ^ p)) ∙ (omega arith)

-- 2 ^ v added to a number whose bit v is 0 sets that bit, and keeps all others
module _ (x v : ℕ) (clear : bit x v ≡ 0) where
  sum_is_xor : x + 2 ^ v ≡ bit_xor x (2 ^ v)
  sum_is_xor =
      sym (xor_disjoint x (2 ^ v)
      (bit_ext (bit_and x (2 ^ v)) 0
      (λ p. bit_and_lem x (2 ^ v) p
      ∙ ⊎_elim (λ (e : p ≡ v). rw (e, clear, bit_zero v) (omega arith))
      (λ (ne : p ≡ v → ⊥). rw (bit_pow_other v p ne, bit_zero p) (omega arith))
      (eq_or_ne p v))))

  pub bit_set_here : bit (x + 2 ^ v) v ≡ 1
  bit_set_here = rw (sum_is_xor, bit_xor_lem x (2 ^ v) v, clear, bit_pow_same v)

  pub bit_set_other : (p : ℕ) → (p ≡ v → ⊥) → bit (x + 2 ^ v) p ≡ bit x p
  bit_set_other p ne = rw (sum_is_xor, bit_xor_lem x (2 ^ v) p, bit_pow_other v p ne) (omega (arith, bit_bit x p))

-- a number whose bit v is 1 is one whose bit v is 0, and 2 ^ v
pub bit_cleared : (x v : ℕ) → bit x v ≡ 1 → (y : ℕ) × (x ≡ y + 2 ^ v) × (bit y v ≡ 0)
bit_cleared x v one =
    let y : ℕ = bit_xor x (2 ^ v) in
    let clear : bit y v ≡ 0 = rw (bit_xor_lem x (2 ^ v) v, one, bit_pow_same v) in
    let back : bit_xor y (2 ^ v) ≡ x = rw (xor_assoc x (2 ^ v) (2 ^ v), xor_self (2 ^ v)) (xor_zero_r x) in
    (y, sym (sum_is_xor y v clear ∙ back), clear)

-- ---- the weight of a number

pub weight_le : (n x : ℕ) → weight n x ≤ n
unfolding weight
weight_le n x = sum_of_bits (bit x) n (bit_bit x)

pub weight_zero : (n : ℕ) → weight n 0 ≡ 0
unfolding weight
weight_zero n = sum_zero n (λ p l. bit_zero p)

-- of the numbers below 2 ^ n only 0 has weight 0
pub zero_of_weight : (n x : ℕ) → x < 2 ^ n → weight n x ≡ 0 → x ≡ 0
unfolding weight
zero_of_weight n x h e = bit_ext_below n x 0 h (pow_pos n) (λ p l. omega (arith, summand_le (bit x) n p l) ∙ sym (bit_zero p))

-- a number below 2 ^ m weighs as much in a wider range
pub weight_wider : (m n x : ℕ) → m ≤ n → x < 2 ^ m → weight n x ≡ weight m x
unfolding weight
weight_wider m n x wider l =
    let (more, is) = le_dest wider in
    ap (sum_below (bit x)) (sym is)
    ∙ sum_split (bit x) m more
    ∙ omega (arith, sum_zero {f = λ q. bit x (m + q)} more (λ q h. bit_high x m (m + q) l (omega arith)))

-- the weight of an exclusive-or is the distance of the two
pub weight_xor : (n x y : ℕ) → weight n (bit_xor x y) ≡ distance n (bit x) (bit y)
unfolding weight distance
weight_xor n x y = sum_ext n (λ p l. bit_xor_lem x y p)

-- the weight of a number below 2 ^ n is its count of ones, as the library counts them
ones_of_bit : (b : ℕ) → b < 2 → ones b ≡ b
unfolding ones
ones_of_bit zero h = refl
ones_of_bit (suc zero) h = refl
ones_of_bit (suc (suc b)) h = omega arith

ones_below : (n x : ℕ) → weight n x ≡ ones (x % 2 ^ n)
unfolding weight sum_below
ones_below zero x = sym (ap ones (mod-one x) ∙ ones_of_bit 0 (omega arith))
ones_below (suc n) x =
    let ih : sum_below (bit x) n ≡ ones (x % 2 ^ n) = ones_below n x in
    let next : x % 2 ^ suc n ≡ bit x n * 2 ^ n + x % 2 ^ n = ap (λ (e : ℕ). x % 2 ^ e) (sym (one-add n)) ∙ mod-pow-add x 1 n in
    let cat : ones (x % 2 ^ suc n) ≡ ones (bit x n) + ones (x % 2 ^ n) =
    ap ones next ∙ ones_cat n (bit x n) (x % 2 ^ n) (mod-lt x (pow_pos n)) in
    let top : ones (bit x n) ≡ bit x n = ones_of_bit (bit x n) (bit_bit x n) in
    omega arith

pub weight_ones : (n x : ℕ) → x < 2 ^ n → weight n x ≡ ones x
weight_ones n x h = ones_below n x ∙ ap ones (mod-eq_of_lt h)

-- two numbers below 2 ^ n differ in as many places as their exclusive-or has ones
pub ones_xor : (n x y : ℕ) → x < 2 ^ n → y < 2 ^ n → ones (bit_xor x y) ≡ distance n (bit x) (bit y)
ones_xor n x y hx hy = sym (weight_ones n (bit_xor x y) (xor_lt n x y hx hy)) ∙ weight_xor n x y
