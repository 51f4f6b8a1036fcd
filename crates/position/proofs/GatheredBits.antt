-- A number gathered from the places of a byte list: the rest of each byte, from some bit on, is put behind the bits gathered so far.
-- Assumes nothing.
use mathlib.Core.Path.{◌≡◌, sym, ◌∙◌}
use mathlib.Core.List.{List}
use mathlib.Core.Logic.{⊎_elim}
use Prim.Native.Nat.{ℕ, ◌+◌, ◌-◌, ◌*◌, ◌/◌, ◌%◌, ◌^◌, ◌≤◌, ◌<◌}
use native.Mathlib.Nat.{le_dest, zero-add}
use native.Mathlib.Omega.{arith}
use lib.Bits.{bit_and, bit_xor, and_mask, mask_lt}
use lib.ListN.{get_or}
use Rattle.bits.specs.Sums.{from_place}
use Rattle.bits.specs.Places.{bit, place, cut}
use Rattle.bits.proofs.Binary.{bit_high, bit_xor_lem, bit_zero}
use Rattle.bits.proofs.Numbers.{lt_or_le}
use Rattle.bits.proofs.Places.{cut_below, cut_above, places_of_byte}
use Rattle.bits.proofs.Shifts.{moved_below, moved_above, moved_down, remainder_kept}

-- the places from q on, as far as its byte goes, are the bits of the byte from bit q % 8 on
pub rest_of_byte : (w : List ℕ) (q k : ℕ) → q % 8 + k < 8 → place w (q + k) ≡ bit (get_or w (q / 8) 0) (q % 8 + k)
rest_of_byte w q k h =
    let by_byte : q + k ≡ 8 * (q / 8) + (q % 8 + k) = omega arith in rw by_byte (places_of_byte w (q / 8) (q % 8 + k) h)

-- the 64 bits of a value are the first p of x, and zeros
abbrev pub Gathered : (x : ℕ → ℕ) (p value : ℕ) → Type 0
Gathered x p value = (k : ℕ) → k < 64 → bit value k ≡ cut p x k

none_gathered : (x : ℕ → ℕ) → Gathered x 0 0
none_gathered x k h = bit_zero k ∙ sym (cut_above 0 x k (omega arith))

-- the bits of a byte from bit q on are the next of x
byte_gathered : (x : ℕ → ℕ) (p value byte q : ℕ) → q < 8 → byte < 2 ^ 8 → Gathered x p value
    → ((k : ℕ) → q + k < 8 → bit byte (q + k) ≡ x (p + k))
    → Gathered x (p + (8 - q)) (bit_xor value (byte / 2 ^ q * 2 ^ p % 2 ^ 64))
byte_gathered x p value byte q eight narrow so_far next k h =
    bit_xor_lem value (byte / 2 ^ q * 2 ^ p % 2 ^ 64) k
    ∙ rw (remainder_kept 64 (byte / 2 ^ q * 2 ^ p) k h, so_far k h)
    (⊎_elim
    (λ (l : k < p).
    rw (moved_below p (byte / 2 ^ q) k l, cut_below (p + (8 - q)) x k (omega arith), ← (cut_below p x k l), ← (so_far k h))
    (omega arith))
    (λ (l : p ≤ k).
    let s = le_dest l in
    rw (cut_above p x k l, ← s.1, moved_above p (byte / 2 ^ q) s.0, moved_down q byte s.0) (behind s.0))
    (lt_or_le k p))
  where
    behind : (s : ℕ) → (0 + bit byte (q + s)) % 2 ≡ cut (p + (8 - q)) x (p + s)
    behind s =
        ⊎_elim
        (λ (l : q + s < 8).
        rw (cut_below (p + (8 - q)) x (p + s) (omega arith), ← (next s l)) (omega arith))
        (λ (l : 8 ≤ q + s).
        rw (cut_above (p + (8 - q)) x (p + s) (omega arith), bit_high byte 8 (q + s) narrow l))
        (lt_or_le (q + s) 8)

-- the rest of the byte that holds place `at` of w is the first of the places from there on
pub first_byte_gathered : (w : List ℕ) (at : ℕ) → get_or w (at / 8) 0 < 2 ^ 8
    → Gathered (from_place at (place w)) (8 - at % 8) (get_or w (at / 8) 0 / 2 ^ (at % 8) * 2 ^ 0 % 2 ^ 64)
first_byte_gathered w at narrow =
    let first =
    byte_gathered (from_place at (place w)) 0 0 (get_or w (at / 8) 0) (at % 8) (omega arith) narrow (none_gathered _)
    (λ k h. rw zero-add (sym (rest_of_byte w at k h))) in
    rw (zero-add (8 - at % 8)) at first

-- of the places of w from `at` on p are gathered, as far as a byte goes; the next byte is gathered too
pub next_byte_gathered : (w : List ℕ) (at p j value : ℕ) → at + p ≡ 8 * j → get_or w j 0 < 2 ^ 8
    → Gathered (from_place at (place w)) p value
    → Gathered (from_place at (place w)) (p + 8) (bit_xor value (get_or w j 0 / 2 ^ 0 * 2 ^ p % 2 ^ 64))
next_byte_gathered w at p j value reached narrow so_far =
    byte_gathered (from_place at (place w)) p value (get_or w j 0) 0 (omega arith) narrow so_far
    (λ k h.
    let by_byte : at + (p + k) ≡ 8 * j + k = omega (arith, reached) in
    rw (by_byte, zero-add) (sym (places_of_byte w j k (omega (arith, h)))))

-- cut to n bits, it is the first n bits of x
pub gathered_cut : (x : ℕ → ℕ) (p value n : ℕ) → n ≤ 64 → n ≤ p → Gathered x p value
    → (bit_and value (2 ^ n - 1) < 2 ^ n) × ((k : ℕ) → k < n → bit (bit_and value (2 ^ n - 1)) k ≡ x k)
gathered_cut x p value n h done all = (
  mask_lt value n,
  λ k l. rw (and_mask value n, remainder_kept n value k l) (all k (omega arith) ∙ cut_below p x k (omega arith)),
)
