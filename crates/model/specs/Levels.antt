-- Document 02, P5: words from a receiver that gives levels. What an arriving level is taken as, how separators and code chunks read, the
-- residual over the bits that aren't erased, and the receiver's strength. A place whose level is zero is erased (the document says lost),
-- and every other place is unerased: 2 × wrong + erased below D is the bound of errors-and-erasures decoding. What is seen of a word is a
-- `Seen` again, so that rules, rows and ranges are those of Reading.antt. A level is a float of single precision, in the toolchain's own
-- account of IEEE 754 (lib.Ieee). Assumes nothing.
use Rattle.std.specs.Prelude.{Bool, true, false, cond, ◌||◌, List, ℕ, zero, suc, ◌+◌, ◌*◌, ◌^◌, ltb, pos, Float, get_or}
use Rattle.std.specs.Float.{nan, inf, fin, binary32}
use Rattle.std.specs.Float.Ieee.{add, neg, lt, eq, is_nan, of_int}
use Rattle.bits.specs.Sums.{distance_unerased, erased_below}
use Rattle.bits.specs.Places.{bit}
use Rattle.bits.specs.Searches.{any_below}
use Rattle.model.specs.Card.{Code}
use Rattle.model.specs.Order.{codeword}
use Rattle.model.specs.Words.{word_bits, word_at, separator₁, chunk₁, separator₂, chunk₂, separator₃}
use Rattle.model.specs.Reading.{Chunk, read_first, Seen}
use Rattle.model.specs.declared.Strength.{Strength}
use Rattle.model.specs.declared.ReceivedLevel.{ReceivedLevel}
use Rattle.model.specs.declared.ReceivedLevel.TheVariants.{Lost, Level}

-- zero, the positive one, from which sums begin
abbrev pub zero_level : Float
zero_level = fin false 0 (pos 0)

-- the magnitude of a level
unfoldable pub magnitude : Float → Float
magnitude x = cond (lt x zero_level) (neg x) x

-- an infinite level
unfoldable pub infinite : Float → Bool
infinite nan = false
infinite (inf s) = true
infinite (fin s m e) = false

-- refusal 16, of one level: it is not a number, infinite, or above 1,000,000 in magnitude
unfoldable pub outside : Float → Bool
outside x = is_nan x || infinite x || lt (of_int binary32 (pos 1000000)) (magnitude x)

-- refusal 16: any of the d levels is such
unfoldable pub any_outside : (d : ℕ) (levels : List Float) → Bool
any_outside d levels = any_below (λ p. outside (get_or levels p nan)) d

-- the received level: an arriving level is taken as an erased bit when it is zero of either sign, and otherwise as a level
unfoldable pub received_level : Float → ReceivedLevel
received_level x = cond (eq x zero_level) Lost (Level x)

-- the received levels of a word, place by place
unfoldable pub received_at : (levels : List Float) (p : ℕ) → ReceivedLevel
received_at levels p = received_level (get_or levels p nan)

-- whether a bit is unerased, and its value: 1 for a negative level (of an erased bit this means nothing)
unfoldable pub is_unerased : ReceivedLevel → Bool
is_unerased Lost = false
is_unerased (Level x) = true

unfoldable pub bit_of_level : ReceivedLevel → ℕ
bit_of_level Lost = 0
bit_of_level (Level x) = cond (lt x zero_level) 1 0

-- the unerased places of a word, and its bits
abbrev pub unerased_in : (word : ℕ → ReceivedLevel) (p : ℕ) → Bool
unerased_in word p = is_unerased (word p)

abbrev pub bits_in : (word : ℕ → ReceivedLevel) (p : ℕ) → ℕ
bits_in word p = bit_of_level (word p)

-- one level more, added in single precision and rounded once; an erased bit has no level
unfoldable pub plus_level : Float → ReceivedLevel → Float
plus_level sum Lost = sum
plus_level sum (Level x) = add binary32 sum x

-- the levels of a separator's D places, added in order from zero
unfoldable pub sum_of_levels : (separator : ℕ → ReceivedLevel) (D : ℕ) → Float
sum_of_levels separator zero = zero_level
sum_of_levels separator (suc D) = plus_level (sum_of_levels separator D) (separator D)

-- a separator reads 1 when its levels sum below zero, else 0
unfoldable pub separator_reading : (D : ℕ) (separator : ℕ → ReceivedLevel) → ℕ
separator_reading D separator = cond (lt (sum_of_levels separator D) zero_level) 1 0

-- how many places of a code chunk are wrong against c(p): the unerased ones in which the two differ
unfoldable pub chunk_wrong : Code → (unerased : ℕ → Bool) (x : ℕ → ℕ) (p : ℕ) → ℕ
chunk_wrong C unerased x p = distance_unerased unerased C.n (bit (codeword C p)) x

-- whether 2 × wrong + erased is below D
unfoldable pub within_erasures : Code → (unerased : ℕ → Bool) (x : ℕ → ℕ) (p : ℕ) → Bool
within_erasures C unerased x p = ltb (2 * chunk_wrong C unerased x p + erased_below unerased C.n) C.D

-- a code chunk reads as the codeword for which 2 × wrong + erased is below D (the first such p; there is one at most, by the law
-- `one_within_erasures`), with its count of wrong places
unfoldable pub erasure_reading : Code → (unerased : ℕ → Bool) (x : ℕ → ℕ) → Chunk
erasure_reading C unerased x = read_first (within_erasures C unerased x) (chunk_wrong C unerased x) (2 ^ C.k)

-- what a code chunk of received levels reads as
abbrev pub levels_chunk_reading : Code → (chunk : ℕ → ReceivedLevel) → Chunk
levels_chunk_reading C chunk = erasure_reading C (unerased_in chunk) (bits_in chunk)

-- what is seen of a word of received levels
unfoldable pub seen_in_levels : Code → (word : ℕ → ReceivedLevel) → Seen
seen_in_levels C word =
    record {
      s₁ = separator_reading C.D (separator₁ C word);
      s₂ = separator_reading C.D (separator₂ C word);
      s₃ = separator_reading C.D (separator₃ C word);
      read₁ = levels_chunk_reading C (chunk₁ C word);
      read₂ = levels_chunk_reading C (chunk₂ C word);
    }

-- the residual of a position over the bits that aren't erased: in how many of them its word differs from the received word
unfoldable pub residual_unerased : Code → (unerased : ℕ → Bool) (x : ℕ → ℕ) (position : ℕ) → ℕ
residual_unerased C unerased x position = distance_unerased unerased (word_bits C) (word_at C position) x

-- the strength of no levels: two zeros
abbrev pub no_strength : Strength
no_strength = record { sum = zero_level; greatest = zero_level }

-- one level more: the sum of the magnitudes, added in the same way, and the greatest
unfoldable pub with_level : Strength → ReceivedLevel → Strength
with_level s Lost = s
with_level s (Level x) =
    record {
      sum = add binary32 s.sum (magnitude x);
      greatest = cond (lt s.greatest (magnitude x)) (magnitude x) s.greatest;
    }

-- the receiver's strength over a word's d levels, in order
unfoldable pub strength_of : (word : ℕ → ReceivedLevel) (d : ℕ) → Strength
strength_of word zero = no_strength
strength_of word (suc d) = with_level (strength_of word d) (word d)
