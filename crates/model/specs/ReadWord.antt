-- Document 01, "Reading a word" and "Where a call can be turned down": the read of a plain word, for every list of bytes. Assumes nothing.
use Rattle.std.specs.Prelude.{Bool, not, List, ◌∷◌, ℕ, ◌+◌, ◌-◌, ◌*◌, eqb, length, Result, Ok}
use Rattle.bits.specs.Places.{place}
use Rattle.bits.specs.Searches.{any_below}
use Rattle.model.specs.Refusals.{Row, refuses, refused_as, first_refusal, Refused, values_by, unless_refused}
use Rattle.model.specs.Card.{Code, card_refusal, code_of}
use Rattle.model.specs.Words.{word_bits, word_length}
use Rattle.model.specs.Reading.{seen, rule_named, rows_of, allowed, residual, nearest_reading, reading_values}
use Rattle.model.specs.declared.Reading.{Reading}
use Rattle.model.specs.declared.Refusal.{Refusal}

-- the answer to a read
abbrev pub ReadAnswer : Type 0
ReadAnswer = Result Reading Refusal

-- some bit past the d bits of a word is set
unfoldable pub spare_set : Code → List ℕ → Bool
spare_set C received = any_below (λ q. eqb (place received (word_bits C + q)) 1) (8 * word_length C - word_bits C)

-- the rows of a received word, once its card is sound
unfoldable pub rows_of_word : Code → (received : List ℕ) → List Row
rows_of_word C received =
    refuses 6 (not (eqb (length received) (word_length C)))
    ∷ refuses 8 (spare_set C received)
    ∷ rows_of C (place received)

-- the position nearest to the received bytes among the allowed ones, its residual, the rule, and the bits that its chunks needed
abbrev pub reading_of : Code → (received : List ℕ) → Reading
reading_of C received =
    let x : ℕ → ℕ = place received in nearest_reading (residual C x) (seen C x) (rule_named C x) (allowed C x)

-- the answer for the code of a sound card
unfoldable pub read_word : Code → (received : List ℕ) → ReadAnswer
read_word C received = unless_refused (first_refusal (rows_of_word C received)) Refused (Ok (reading_of C received))

-- the refusal's number, or 0 where the word is read
unfoldable pub read_refusal : (card received : List ℕ) → ℕ
read_refusal card received = first_refusal (refused_as (card_refusal card) ∷ rows_of_word (code_of card) received)

-- the answer
unfoldable pub read_answer : (card received : List ℕ) → ReadAnswer
read_answer card received = unless_refused (read_refusal card received) Refused (Ok (reading_of (code_of card) received))

-- its values, none of a refusal
abbrev pub read_values : ReadAnswer → List ℕ
read_values answer = values_by reading_values answer

-- the values expected of a word that is read, by the definitions
unfoldable pub read_expected : (card received : List ℕ) → List ℕ
read_expected card received = reading_values (reading_of (code_of card) received)
