-- What the levels of a word give: the unerased places, the bits there, what is seen of the word, and the word of these bits. Assumes
-- nothing.
use Rattle.std.specs.Prelude.{Bool, List, ℕ, Float}
use Rattle.bits.specs.Places.{pack}
use Rattle.model.specs.Card.{code_of}
use Rattle.model.specs.Words.{word_bits}
use Rattle.model.specs.Reading.{Seen}
use Rattle.model.specs.Levels.{received_at, unerased_in, bits_in, seen_in_levels}

-- the unerased places, and the bits there
abbrev pub unerased_of : (levels : List Float) (p : ℕ) → Bool
unerased_of levels = unerased_in (received_at levels)

abbrev pub bits_of : (levels : List Float) (p : ℕ) → ℕ
bits_of levels = bits_in (received_at levels)

-- what is seen of a word of levels
abbrev pub seen_of : (card : List ℕ) (levels : List Float) → Seen
seen_of card levels = seen_in_levels (code_of card) (received_at levels)

-- the word of the bits of levels, as it travels
abbrev pub word_of_bits : (card : List ℕ) (levels : List Float) → List ℕ
word_of_bits card levels = pack (word_bits (code_of card)) (bits_of levels)
