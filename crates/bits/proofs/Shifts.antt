-- The bits of a number that is multiplied or divided by a power of two, and of its remainder: each is a bit of the number,
-- or 0. Assumes nothing.
use mathlib.Core.Path.{◌≡◌, ◌∙◌}
use Prim.Native.Nat.{ℕ, zero, suc, ◌+◌, ◌-◌, ◌*◌, ◌/◌, ◌%◌, ◌^◌, ◌≤◌, ◌<◌}
use native.Mathlib.Nat.{le_dest, mul_assoc, mod-lt, div-one, div-div-eq-div-mul, pow-succ', add-zero}
use native.Mathlib.Omega.{arith}
use lib.Bits.{shifted_even}
use lib.Pow.{pow_pos, pow-add, shr-shr, shl-shr, field, mod-mod-pow}
use Rattle.bits.specs.Places.{bit}
use Rattle.bits.proofs.Binary.{bit_high, bit_lowest, bit_suc}

module _ (q : ℕ) where
  -- moved up by q places: below q they are 0, and from q on they are the number's
  pub moved_below : (x p : ℕ) → p < q → bit (x * 2 ^ q) p ≡ 0
  moved_below x p b =
      let rest = le_dest b in
      let apart : q ≡ suc rest.0 + p = omega arith in
      rw (
        apart,
        pow-add 2 (suc rest.0) p,
        ← (mul_assoc x (2 ^ suc rest.0) (2 ^ p)),
        shl-shr (x * 2 ^ suc rest.0) p,
      ) (shifted_even x rest.0)

  pub moved_above : (x s : ℕ) → bit (x * 2 ^ q) (q + s) ≡ bit x s
  moved_above x s = rw (← (shr-shr (x * 2 ^ q) q s), shl-shr x q)

  -- moved down by q places: place p is the number's place q + p
  pub moved_down : (x p : ℕ) → bit (x / 2 ^ q) p ≡ bit x (q + p)
  moved_down x p = rw (shr-shr x q p)

  -- cut to its q lowest places: those are the number's, and from q on they are 0
  pub remainder_kept : (x p : ℕ) → p < q → bit (x % 2 ^ q) p ≡ bit x p
  remainder_kept x p b =
      let rest = le_dest b in
      let apart : q ≡ rest.0 + 1 + p = omega arith in
      rw (apart, field x (rest.0 + 1) p) (mod-mod-pow (x / 2 ^ p) rest.0 1)

  pub remainder_above : (x p : ℕ) → q ≤ p → bit (x % 2 ^ q) p ≡ 0
  remainder_above x p b = bit_high (x % 2 ^ q) q p (mod-lt x (pow_pos q)) b

-- each of the n bits of 2^n - 1 is 1
pub bit_all_ones : (n p : ℕ) → p < n → bit (2 ^ n - 1) p ≡ 1
bit_all_ones zero p h = absurd (omega arith)
bit_all_ones (suc n) zero h = bit_lowest (2 ^ suc n - 1) ∙ (omega (arith, pow_pos n))
bit_all_ones (suc n) (suc p) h =
    let half : (2 ^ suc n - 1) / 2 ≡ 2 ^ n - 1 = omega (arith, pow_pos n) in
    bit_suc (2 ^ suc n - 1) p ∙ rw half (bit_all_ones n p (omega arith))

-- moved down by e places, n + e ones are n ones
pub all_ones_moved : (n e : ℕ) → (2 ^ (n + e) - 1) / 2 ^ e ≡ 2 ^ n - 1
all_ones_moved n zero = rw (add-zero n) (div-one (2 ^ n - 1))
all_ones_moved n (suc e) =
    let half : (2 ^ (n + suc e) - 1) / 2 ≡ 2 ^ (n + e) - 1 =
    let one_more : n + suc e ≡ suc (n + e) = omega arith in rw one_more (omega (arith, pow_pos (n + e))) in
    rw (pow-succ' 2 e, ← (div-div-eq-div-mul (2 ^ (n + suc e) - 1) 2 (2 ^ e)), half) (all_ones_moved n e)
