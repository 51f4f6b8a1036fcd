-- Document 02, P8, "What stands at a mark": trams on a track, each a stretch from a low to a high position; the widened list, which every
-- search looks at; refusals 18 and 19; and the searches that say yes or no of each tram. The three searches are in TramsCrossing.antt,
-- TramsWithin.antt and NearestTram.antt. Assumes nothing.
use Rattle.std.specs.Prelude.{Bool, false, cond, ◌||◌, List, [], ◌∷◌, ℕ, ◌+◌, ◌-◌, ◌*◌, min, ltb, length, get_or, Result, Ok, Err}
use Rattle.bits.specs.Places.{list_of}
use Rattle.bits.specs.Searches.{any_below}
use Rattle.model.specs.Refusals.{Row, refuses, refused_as, first_refusal, Refused, values_by, unless_refused}
use Rattle.model.specs.Card.{Code, card_refusal, code_of, radius}
use Rattle.model.specs.Order.{last_position}
use Rattle.model.specs.declared.Stretch.{Stretch}
use Rattle.model.specs.declared.Refusal.{Refusal}

-- the trams of a track, in the caller's order: a stretch each
abbrev pub Trams : Type 0
Trams = List Stretch

-- the answer to a search that says yes or no of each tram, in list order
abbrev pub TramsAnswer : Type 0
TramsAnswer = Result (List Bool) Refusal

-- ---- stretches, as they are given and widened

-- the most trams of a track
abbrev pub most_trams : ℕ
most_trams = 64

-- the stretch of the tram at place i of the list, as it is given
abbrev pub stretch_at : Trams → (i : ℕ) → Stretch
stretch_at trams i = get_or trams i (record { low = 0; high = 0 })

-- 10t: twice the most bits that are damaged in five chunks with at most t damaged bits in each
abbrev pub margin : Code → ℕ
margin C = 10 * radius C

-- a stretch widened by a margin at both ends and cut to 0, where subtraction is truncated, and to the last position
unfoldable pub widened : (margin last : ℕ) → Stretch → Stretch
widened margin last s = record { low = s.low - margin; high = min (s.high + margin) last }

-- the widened list: the stretch at place i of it
unfoldable pub widened_at : Code → Trams → (i : ℕ) → Stretch
widened_at C trams i = widened (margin C) (last_position C) (stretch_at trams i)

-- ---- refusals, of stretches and marks as they are given

-- low above high, or high above the last position: of a stretch, or of a pair of marks
unfoldable pub misplaced_pair : (last low high : ℕ) → Bool
misplaced_pair last low high = ltb high low || ltb last high

-- the pair of marks, or some stretch, is so. A search for one mark has it as both marks of the pair
unfoldable pub any_misplaced : (last : ℕ) → Trams → (first second : ℕ) → Bool
any_misplaced last trams first second =
    misplaced_pair last first second
    || any_below (λ i. misplaced_pair last (stretch_at trams i).low (stretch_at trams i).high) (length trams)

-- rows 18 and 19 of the table
unfoldable pub rows_of_trams : (last : ℕ) → Trams → (first second : ℕ) → List Row
rows_of_trams last trams first second =
    refuses 18 (ltb most_trams (length trams)) ∷ refuses 19 (any_misplaced last trams first second) ∷ []

-- the refusal's number, or 0: the card's rows come first
unfoldable pub trams_refusal : (card : List ℕ) → Trams → (first second : ℕ) → ℕ
trams_refusal card trams first second =
    first_refusal (refused_as (card_refusal card) ∷ rows_of_trams (last_position (code_of card)) trams first second)

-- ---- yes or no for each tram

-- the answers in list order, by a test of each of so many stretches; past the count they are no
unfoldable pub answers_by : (test : Stretch → Bool) (stretch : ℕ → Stretch) (count : ℕ) → List Bool
answers_by test stretch count = list_of most_trams (λ i. cond (ltb i count) (test (stretch i)) false)

-- a search by a test of the widened stretches
unfoldable pub each_tram_unless : (refusal : ℕ) (test : Stretch → Bool) → Code → Trams → TramsAnswer
each_tram_unless refusal test C trams =
    unless_refused refusal Refused (Ok (answers_by test (widened_at C trams) (length trams)))

-- the answer for the code of a sound card
unfoldable pub each_tram_on : (test : Stretch → Bool) → Code → Trams → (first second : ℕ) → TramsAnswer
each_tram_on test C trams first second = each_tram_unless (first_refusal (rows_of_trams (last_position C) trams first second)) test C trams

-- the answer
unfoldable pub each_tram_answer : (test : Stretch → Bool) (card : List ℕ) → Trams → (first second : ℕ) → TramsAnswer
each_tram_answer test card trams first second = each_tram_unless (trams_refusal card trams first second) test (code_of card) trams

-- the values of an answer for so many trams, in list order: 1 for yes, 0 for no
abbrev pub yes_values : (count : ℕ) → TramsAnswer → List ℕ
yes_values count answer = values_by (λ answers. list_of count (λ i. cond (get_or answers i false) 1 0)) answer

-- the answers of a search, none of a refusal
unfoldable pub answers_of : TramsAnswer → List Bool
answers_of (Ok answers) = answers
answers_of (Err refusal) = []
