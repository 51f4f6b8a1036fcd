-- Document 01, "The card", with the offset of document 02's P2: the fields of a card's 512 bytes, the code that its rows span, and
-- a card's refusals, 1 to 5 and 14.
-- Every definition is total: a card that is refused has fields and a code too, and nothing relies on them.
-- Assumes nothing.
use Rattle.std.specs.Prelude.{◌≡◌, Bool, cond, not, ◌&&◌, ◌||◌, List, [], ◌∷◌, ℕ, zero, suc, ◌+◌}
use Rattle.std.specs.Prelude.{◌-◌, ◌*◌, ◌/◌, ◌%◌, ◌^◌, min, leb, ltb, eqb, ℤ, pos, neg_ℤ, length, get_or}
use Rattle.std.specs.Int.Bits.{bit_xor}
use Rattle.std.proofs.Math.IntN.{sub_ℕ}
use Rattle.std.specs.Int.Signed.{lt_z}
use Rattle.bits.specs.Sums.{sum_below}
use Rattle.bits.specs.Places.{bit, weight}
use Rattle.bits.specs.Searches.{any_below}
use Rattle.model.specs.Refusals.{refuses, first_refusal}

-- byte i of the card
abbrev pub byte : (b : List ℕ) (i : ℕ) → ℕ
byte b i = get_or b i 0

-- the number in the m bytes from byte i on, high byte first
unfoldable pub high_first : (b : List ℕ) (i m : ℕ) → ℕ
high_first b i zero = 0
high_first b i (suc m) = high_first b i m * 256 + byte b (i + m)

-- n, the code's length: byte 0
abbrev pub length_of : List ℕ → ℕ
length_of b = byte b 0

-- k, the number of rows: byte 1
abbrev pub row_count_of : List ℕ → ℕ
row_count_of b = byte b 1

-- the track number: bytes 2 to 3
unfoldable pub track_of : List ℕ → ℕ
track_of b = high_first b 2 2

-- row z of the rows 0 to 11: the 8 bytes from 4 + 8z on; past them there is no row, and zero stands for it
unfoldable pub row_of : (b : List ℕ) (z : ℕ) → ℕ
row_of b z = cond (ltb z 12) (high_first b (4 + 8 * z) 8) 0

-- a number of 32 bits, read by two's complement: itself below 2^31, and from there on itself less 2^32
unfoldable pub twos_complement : (x : ℕ) → ℤ
twos_complement x = cond (ltb x (2 ^ 31)) (pos x) (sub_ℕ x (2 ^ 32))

-- the offset in millimetres, a signed number: bytes 100 to 103
unfoldable pub offset_of : List ℕ → ℤ
offset_of b = twos_complement (high_first b 100 4)

-- the check that the card carries: bytes 510 to 511
unfoldable pub stored_check : List ℕ → ℕ
stored_check b = high_first b 510 2

-- what place p adds to the check: (place + 1) × byte
abbrev pub check_share : (b : List ℕ) (p : ℕ) → ℕ
check_share b p = (p + 1) * byte b p

-- the check that the card should carry: the sum over places 0 to 509 of (place + 1) × byte, modulo 65,521
unfoldable pub computed_check : List ℕ → ℕ
computed_check b = sum_below (check_share b) 510 % 65521

-- the sum, modulo 2, of those rows z, from 0 to k - 1, whose bit 2^z is set in g
unfoldable pub sum_of_rows : (row : ℕ → ℕ) (k g : ℕ) → ℕ
sum_of_rows row zero g = 0
sum_of_rows row (suc k) g = bit_xor (sum_of_rows row k g) (bit g k * row k)

-- the least weight of the nonzero ones among word(0), …, word(m - 1), of n places each; n if all are zero
unfoldable pub least_weight : (n : ℕ) (word : ℕ → ℕ) (m : ℕ) → ℕ
least_weight n word zero = n
least_weight n word (suc m) =
    let before = least_weight n word m in cond (eqb (word m) 0) before (min (weight n (word m)) before)

-- The code of a card. D, the least distance of the code, is the least weight of a nonzero codeword.
pub record Code : Type 0 where
  -- places of a codeword
  pub n : ℕ
  -- number of rows
  pub k : ℕ
  -- row z, place p being the bit worth 2^p
  pub row : ℕ → ℕ
  -- least distance
  pub D : ℕ

-- the code that n, k and the rows give
abbrev pub code_with : (n k : ℕ) (row : ℕ → ℕ) → Code
code_with n k row = record { n = n; k = k; row = row; D = least_weight n (sum_of_rows row k) (2 ^ k) }

-- the code of a card
unfoldable pub code_of : List ℕ → Code
code_of b = code_with (length_of b) (row_count_of b) (row_of b)

-- t, the radius: (D - 1) / 2 rounded down
abbrev pub radius : Code → ℕ
radius C = (C.D - 1) / 2

-- n is 1 to 64, and k is 1 to 12 and at most n
unfoldable pub within_limits : (n k : ℕ) → Bool
within_limits n k = leb 1 n && leb n 64 && leb 1 k && leb k 12 && leb k n

-- some row has a bit at n or above
unfoldable pub row_too_wide : (n : ℕ) (row : ℕ → ℕ) → Bool
row_too_wide n row = any_below (λ z. leb (2 ^ n) (row z)) 12

-- some unused row, one of the rows k to 11, is not zero
unfoldable pub unused_row_set : (k : ℕ) (row : ℕ → ℕ) → Bool
unused_row_set k row = any_below (λ z. leb k z && not (eqb (row z) 0)) 12

-- some byte from 104 to 509 is not zero
unfoldable pub unused_byte_set : List ℕ → Bool
unused_byte_set b = any_below (λ i. not (eqb (byte b (104 + i)) 0)) 406

-- a bit is set that a card leaves zero: at n or above in a row, in an unused row, or in an unused byte
unfoldable pub misplaced : List ℕ → Bool
misplaced b = row_too_wide (length_of b) (row_of b) || unused_row_set (row_count_of b) (row_of b) || unused_byte_set b

-- the offset is outside -20,000 to 20,000
unfoldable pub offset_outside : (offset : ℤ) → Bool
offset_outside offset = lt_z offset (neg_ℤ (pos 20000)) || lt_z (pos 20000) offset

-- some nonempty set of the rows 0 to k - 1 sums to zero; the numbers 1 to 2^k - 1 name these sets by their bits
unfoldable pub dependent : (k : ℕ) (row : ℕ → ℕ) → Bool
dependent k row = any_below (λ g. eqb (sum_of_rows row k (g + 1)) 0) (2 ^ k - 1)

-- the number of the refusal of a list of bytes as a card, the first in the table's order that holds; 0 for a sound card
unfoldable pub card_refusal : List ℕ → ℕ
card_refusal b =
    first_refusal
    (refuses 1 (not (eqb (length b) 512))
    ∷ refuses 2 (not (eqb (stored_check b) (computed_check b)))
    ∷ refuses 3 (not (within_limits (length_of b) (row_count_of b)))
    ∷ refuses 4 (misplaced b)
    ∷ refuses 14 (offset_outside (offset_of b))
    ∷ refuses 5 (dependent (row_count_of b) (row_of b))
    ∷ [])

-- a sound card: none of the refusals 1 to 5 and 14 holds of it
abbrev pub SoundCard : List ℕ → Type 0
SoundCard b = card_refusal b ≡ 0
