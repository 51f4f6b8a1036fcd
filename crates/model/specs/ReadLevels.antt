-- Document 02, P5: the read of a word of levels, for every list of levels. Assumes nothing.
use Rattle.std.specs.Prelude.{not, List, [], ◌∷◌, ℕ, eqb, Float, length, Result, Ok, Err}
use Rattle.model.specs.Refusals.{Row, refuses, refused_as, first_refusal, Refused, values_by, unless_refused}
use Rattle.model.specs.Card.{Code, card_refusal, code_of}
use Rattle.model.specs.Words.{word_bits}
use Rattle.model.specs.Reading.{Seen, rule_seen, two_ends, rows_seen, range_seen, nearest_reading, reading_values}
use Rattle.model.specs.Levels.{any_outside, received_at, unerased_in, bits_in, seen_in_levels, residual_unerased, strength_of}
use Rattle.model.specs.ReadWord.{ReadAnswer, read_values}
use Rattle.model.specs.declared.Reading.{Reading}
use Rattle.model.specs.declared.ReceivedLevel.{ReceivedLevel}
use Rattle.model.specs.declared.Strength.{Strength}
use Rattle.model.specs.declared.LevelsReading.{LevelsReading}
use Rattle.model.specs.declared.Refusal.{Refusal}

-- the answer to a read of levels
abbrev pub LevelsAnswer : Type 0
LevelsAnswer = Result LevelsReading Refusal

-- the rows of what is seen of a word of received levels, and the position nearest to it over the bits that aren't erased
abbrev pub rows_in_levels : Code → (word : ℕ → ReceivedLevel) → List Row
rows_in_levels C word = let s : Seen = seen_in_levels C word in rows_seen (two_ends C) s (rule_seen s)

abbrev pub reading_in_levels : Code → (word : ℕ → ReceivedLevel) → Reading
reading_in_levels C word =
    let s : Seen = seen_in_levels C word in
    nearest_reading (residual_unerased C (unerased_in word) (bits_in word)) s (rule_seen s) (range_seen (two_ends C) s (rule_seen s))

-- the rows of a list of levels, once its card is sound: 15 in the place of 6, and 16 in the place of 8
unfoldable pub rows_of_levels : Code → (levels : List Float) → List Row
rows_of_levels C levels =
    refuses 15 (not (eqb (length levels) (word_bits C)))
    ∷ refuses 16 (any_outside (word_bits C) levels)
    ∷ rows_in_levels C (received_at levels)

-- what is answered of levels whose refusal has this number: the refusal; or the reading, with the strength of all levels
unfoldable pub levels_answered : Code → (levels : List Float) (refusal : ℕ) → LevelsAnswer
levels_answered C levels refusal =
    unless_refused refusal Refused
    (Ok
    (record {
      reading = reading_in_levels C (received_at levels);
      strength = strength_of (received_at levels) (word_bits C);
    }))

-- the answer for the code of a sound card
unfoldable pub read_levels : Code → (levels : List Float) → LevelsAnswer
read_levels C levels = levels_answered C levels (first_refusal (rows_of_levels C levels))

-- the refusal's number, or 0 where the word is read
unfoldable pub levels_refusal : (card : List ℕ) (levels : List Float) → ℕ
levels_refusal card levels = first_refusal (refused_as (card_refusal card) ∷ rows_of_levels (code_of card) levels)

-- the answer
unfoldable pub levels_answer : (card : List ℕ) (levels : List Float) → LevelsAnswer
levels_answer card levels = levels_answered (code_of card) levels (levels_refusal card levels)

-- the position answer, which is the answer but for the strength; its values, as those of a plain read; and the strength's two floats
unfoldable pub position_answer : LevelsAnswer → ReadAnswer
position_answer (Ok served) = Ok served.reading
position_answer (Err refusal) = Err refusal

abbrev pub levels_values : LevelsAnswer → List ℕ
levels_values answer = read_values (position_answer answer)

abbrev pub strength_values : LevelsAnswer → List Float
strength_values answer = values_by (λ served. served.strength.sum ∷ served.strength.greatest ∷ []) answer

-- the values expected of a word of levels that is read, by the definitions; and beside them the strength's two floats
unfoldable pub levels_expected : (card : List ℕ) (levels : List Float) → List ℕ
levels_expected card levels = reading_values (reading_in_levels (code_of card) (received_at levels))

unfoldable pub strength_expected : (card : List ℕ) (levels : List Float) → List Float
strength_expected card levels =
    let s : Strength = strength_of (received_at levels) (word_bits (code_of card)) in s.sum ∷ s.greatest ∷ []
