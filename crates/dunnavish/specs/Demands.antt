-- The promises to C that are written out over the status and what is left: demand 3 and the sharper bound of a read of a plain word, the
-- bound of a read of levels (document 02, P5), and a made card (P1). The premises on card, position and word are those of the library's
-- calls; the caller lends as many numbers, floats or bytes as the answer has. Assumes nothing.
use Rattle.std.specs.Prelude.{◌≡◌, true, List, ℕ, ◌+◌, ◌*◌, ◌≤◌, Float, length}
use Rattle.bits.specs.Places.{place}
use Rattle.model.specs.Card.{Code, code_of, SoundCard}
use Rattle.model.specs.Order.{last_position}
use Rattle.model.specs.Words.{word_bits, word_bytes}
use Rattle.model.specs.ReedMuller.{order_within_limits}
use Rattle.position_theory.specs.Damage.{WithinRadius, damaged, ChunksBelowD, wrong_in_all, erased_in_all}
use Rattle.level_theory.specs.UnitLevels.{UnitLevels}
use Rattle.level_theory.specs.LevelsSeen.{unerased_of, bits_of}
use Rattle.reed_muller_theory.specs.MadeCards.{IsReedMullerCard}
use Rattle.dunnavish.specs.Crossing.{card_bytes, read_count, strength_count}
use Rattle.dunnavish.specs.Decoding.{position_left, residual_left}

-- the status is 0, and the position left is at most e steps from this one
unfoldable pub ServedNear : (status : ℕ) (left : List ℕ) (position e : ℕ) → Type 0
ServedNear status left position e = (status ≡ 0) × (position_left left ≤ position + e) × (position ≤ position_left left + e)

-- Demand 3, where five numbers are lent: for a sound card, every position on its track and whichever bits of that position's
-- word are damaged, at most t in each of the five chunks: the status is 0, and the position left is no further off than twice the
-- damaged bits
unfoldable pub ServedWithinTwiceDamaged : (card received lent : List ℕ) (status : ℕ) (left : List ℕ) → Type 0
ServedWithinTwiceDamaged card received lent status left =
    length lent ≡ read_count → (position : ℕ) → SoundCard card → position ≤ last_position (code_of card)
    → WithinRadius (code_of card) position received
    → ServedNear status left position (2 * damaged (code_of card) position received)

-- The sharper bound, under the same premises: no further off than the damaged bits and the residual left together
unfoldable pub ServedWithinDamagedAndResidual : (card received lent : List ℕ) (status : ℕ) (left : List ℕ) → Type 0
ServedWithinDamagedAndResidual card received lent status left =
    length lent ≡ read_count → (position : ℕ) → SoundCard card → position ≤ last_position (code_of card)
    → WithinRadius (code_of card) position received
    → ServedNear status left position (damaged (code_of card) position received + residual_left left)

-- Document 02, P5, where five numbers and two floats are lent: for a sound card, every position on its track and d levels of 1, -1 and 0
-- that have, against that position's word, 2 × wrong + erased below D in every chunk: the status is 0, and the position left is no further
-- off than 2 × wrong + erased over the whole word
unfoldable pub ServedWithinTwiceWrongAndErased : (card : List ℕ) (levels : List Float) (lent : List ℕ) (lent_strength : List Float)
    (status : ℕ) (left : List ℕ) → Type 0
ServedWithinTwiceWrongAndErased card levels lent lent_strength status left =
    let C : Code = code_of card in
    length lent ≡ read_count → length lent_strength ≡ strength_count → (position : ℕ) → SoundCard card → position ≤ last_position C
    → length levels ≡ word_bits C → UnitLevels levels (word_bits C)
    → ChunksBelowD C (unerased_of levels) (place (word_bytes C position)) (bits_of levels)
    → ServedNear status left position
    (2 * wrong_in_all C (unerased_of levels) (place (word_bytes C position)) (bits_of levels) + erased_in_all C (unerased_of levels))

-- Document 02, P1, where 512 bytes are lent: for every r and m within the limits the status is 0, and the bytes left are the card of the
-- Reed-Muller code for the track
unfoldable pub MadeWithinLimits : (track r m : ℕ) (lent : List ℕ) (status : ℕ) (left : List ℕ) → Type 0
MadeWithinLimits track r m lent status left =
    length lent ≡ card_bytes → order_within_limits r m ≡ true → (status ≡ 0) × IsReedMullerCard track r m left
