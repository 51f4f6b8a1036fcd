-- A byte with the low bits of one byte and the high bits of another, and a word put together of such bytes.
-- Assumes nothing.
use mathlib.Core.Path.{◌≡◌, sym, ◌∙◌}
use mathlib.Core.Bool.{cond}
use mathlib.Core.List.{List, ◌++◌}
use mathlib.Core.Logic.{⊎_elim}
use Prim.Native.Nat.{ℕ, ◌+◌, ◌-◌, ◌*◌, ◌/◌, ◌%◌, ◌^◌, ◌≤◌, ◌<◌}
use native.Mathlib.Nat.{le_dest, mod-lt, div-lt_iff_lt-mul}
use native.Mathlib.Omega.{arith}
use lib.Bits.{bit_xor, xor_shifted}
use lib.Dec.{ltb}
use lib.ListN.{length, get_or, set, take, drop, length-take, get_or-append}
use Rattle.std.proofs.lemmas.List.{get_or-append_right, get_or-take, get_or-drop}
use lib.Pow.{pow_pos, pow-add, shr_lt, high}
use borrow.Author.Tests.{lt-ltb, le-ltb}
use Rattle.bits.specs.Places.{bit, place}
use Rattle.bits.proofs.Numbers.{lt_or_le, eq_or_ne}
use Rattle.bits.proofs.Binary.{bit_xor_lem}
use Rattle.bits.proofs.Places.{place_set_here, place_set_elsewhere}
use Rattle.bits.proofs.Shifts.{moved_below, moved_above, moved_down, remainder_kept, remainder_above}
use Rattle.position.specs.Spliced.{Spliced}

-- ---- bytes

module _ (q : ℕ) where
  spliced_byte_is : (x y : ℕ) → y / 2 ^ q * 2 ^ q + x % 2 ^ q ≡ bit_xor (y / 2 ^ q * 2 ^ q) (x % 2 ^ q)
  spliced_byte_is x y = sym (xor_shifted (y / 2 ^ q) q (x % 2 ^ q) (mod-lt x (pow_pos q)))

  pub spliced_byte_bits : (x y p : ℕ) → bit (y / 2 ^ q * 2 ^ q + x % 2 ^ q) p ≡ cond (ltb p q) (bit x p) (bit y p)
  spliced_byte_bits x y p =
      ⊎_elim
      (λ (b : p < q).
      rw (spliced_byte_is x y, bit_xor_lem (y / 2 ^ q * 2 ^ q) (x % 2 ^ q) p, moved_below q (y / 2 ^ q) p b, remainder_kept q x p b, lt-ltb p q b)
      (omega arith))
      (λ (b : q ≤ p).
      let rest = le_dest b in
      rw (
        spliced_byte_is x y,
        bit_xor_lem (y / 2 ^ q * 2 ^ q) (x % 2 ^ q) p,
        remainder_above q x p b,
        le-ltb p q b,
        ← rest.1,
        moved_above q (y / 2 ^ q) rest.0,
        moved_down q y rest.0,
      ) (omega arith))
      (lt_or_le p q)

  pub spliced_byte_fits : (x y : ℕ) → q ≤ 8 → y < 256 → y / 2 ^ q * 2 ^ q + x % 2 ^ q < 256
  spliced_byte_fits x y h hy =
      let rest = le_dest h in
      let eight : 8 ≡ rest.0 + q = omega arith in
      let above : y / 2 ^ q < 2 ^ rest.0 = shr_lt rest.0 q (rw (← eight) hy) in
      let whole : y / 2 ^ q * 2 ^ q + x % 2 ^ q < 2 ^ rest.0 * 2 ^ q =
      (div-lt_iff_lt-mul (pow_pos q)).0 (rw (high (y / 2 ^ q) q (mod-lt x (pow_pos q))) above)
      in
      rw (← (pow-add 2 rest.0 q), ← eight) at whole

-- ---- words

-- j whole bytes of v, and u's from there on
pub spliced_whole : (u v : List ℕ) (j : ℕ) → j ≤ length v → Spliced u v (take j v ++ drop j u) (8 * j)
unfolding place
spliced_whole u v j h p =
    let front : length (take j v) ≡ j = omega (arith, length-take j v) in
    ⊎_elim
    (λ (l : p / 8 < j).
    rw (get_or-append (take j v) (drop j u) 0 (p / 8) (rw front l), get_or-take j v (p / 8) 0 l, lt-ltb p (8 * j) (omega arith)))
    (λ (l : j ≤ p / 8).
    let back : j + (p / 8 - j) ≡ p / 8 = omega arith in
    rw (
      get_or-append_right (take j v) (drop j u) j (p / 8) 0 front l,
      get_or-drop j u (p / 8 - j) 0,
      back,
      le-ltb p (8 * j) (omega arith),
    ))
    (lt_or_le (p / 8) j)

-- one byte more, of which the bits below q are v's
pub spliced_more : (u v word : List ℕ) (j q b : ℕ) → j < length word → q ≤ 8 → Spliced u v word (8 * j)
    → ((r : ℕ) → r < 8 → bit b r ≡ cond (ltb r q) (bit (get_or v j 0) r) (bit (get_or u j 0) r)) → Spliced u v (set word j b) (8 * j + q)
unfolding place
spliced_more u v word j q b h eight old new p =
    ⊎_elim
    (λ (e : p / 8 ≡ j). place_set_here word j b p h e ∙ rw (e, new (p % 8) (omega arith), same_side e))
    (λ (ne : p / 8 ≡ j → ⊥). place_set_elsewhere word j b p ne ∙ rw (other_side ne) (old p))
    (eq_or_ne (p / 8) j)
  where
    same_side : p / 8 ≡ j → ltb (p % 8) q ≡ ltb p (8 * j + q)
    same_side e =
        ⊎_elim
        (λ (l : p % 8 < q). rw (lt-ltb (p % 8) q l, lt-ltb p (8 * j + q) (omega arith)))
        (λ (l : q ≤ p % 8). rw (le-ltb (p % 8) q l, le-ltb p (8 * j + q) (omega arith)))
        (lt_or_le (p % 8) q)

    other_side : (p / 8 ≡ j → ⊥) → ltb p (8 * j + q) ≡ ltb p (8 * j)
    other_side ne =
        ⊎_elim
        (λ (l : p < 8 * j). rw (lt-ltb p (8 * j) l, lt-ltb p (8 * j + q) (omega arith)))
        (λ (l : 8 * j ≤ p). rw (le-ltb p (8 * j) l, le-ltb p (8 * j + q) (omega arith)))
        (lt_or_le p (8 * j))
