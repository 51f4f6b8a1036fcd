-- Document 02, P2, "The strip doesn't begin at the buffer face": what the offset leaves as it was. An old card, one whose bytes 100 to
-- 103 are zero, is refused or sound, and gives distances, as document 01 alone has it; and two cards that differ in their offsets
-- alone, both within the range, are answered alike in all but the distances. Assumes nothing.
use Rattle.std.specs.Prelude.{◌≡◌, Bool, false, not, ◌||◌, List, [], ◌∷◌, ℕ, ◌+◌, ◌*◌, ◌<◌, ltb, eqb, Float, pos, length}
use Rattle.bits.specs.Searches.{any_below}
use Rattle.model.specs.Refusals.{refuses, refused_as, first_refusal, unless_refused}
use Rattle.model.specs.Card.{byte, length_of, row_count_of, row_of, offset_of, stored_check, computed_check, code_of}
use Rattle.model.specs.Card.{within_limits, row_too_wide, unused_row_set, offset_outside, dependent, card_refusal}
use Rattle.model.specs.Order.{last_position}
use Rattle.model.specs.CheckCard.{summary_of, card_answer}
use Rattle.model.specs.WriteWord.{write_answer, lent_after_write}
use Rattle.model.specs.ReadWord.{read_answer}
use Rattle.model.specs.ReadLevels.{levels_answer}
use Rattle.model.specs.BlockStart.{start_answer}
use Rattle.model.specs.TramsCrossing.{crossing_answer}
use Rattle.model.specs.TramsWithin.{within_answer}
use Rattle.model.specs.NearestTram.{nearest_answer}
use Rattle.model.specs.ReleaseTrack.{release_answer}
use Rattle.model.specs.declared.Yard.{Yard}
use Rattle.model.specs.CheckCard.{CardAnswer}
use Rattle.std.specs.Prelude.{Ok, Err}
use Rattle.model.specs.Refusals.{Refused}
use Rattle.model.specs.BlockStart.{NumberAnswer}
use Rattle.model.specs.Millimetres.{MillimetresAnswer}
use Rattle.model.specs.Trams.{Trams}

-- ---- old cards

-- bytes 100 to 103 are zero, as document 01 alone asks of every card
unfoldable pub OldCard : List ℕ → Type 0
OldCard b = (i : ℕ) → i < 4 → byte b (100 + i) ≡ 0

-- document 01's refusal 4: a bit at n or above in a row, or an unused row or byte 100 to 509 not zero
unfoldable pub old_misplaced : List ℕ → Bool
old_misplaced b =
    row_too_wide (length_of b) (row_of b) || unused_row_set (row_count_of b) (row_of b)
    || any_below (λ i. not (eqb (byte b (100 + i)) 0)) 410

-- document 01's refusals of a card, 1 to 5
unfoldable pub old_card_refusal : List ℕ → ℕ
old_card_refusal b =
    first_refusal
    (refuses 1 (not (eqb (length b) 512))
    ∷ refuses 2 (not (eqb (stored_check b) (computed_check b)))
    ∷ refuses 3 (not (within_limits (length_of b) (row_count_of b)))
    ∷ refuses 4 (old_misplaced b)
    ∷ refuses 5 (dependent (row_count_of b) (row_of b))
    ∷ [])

-- document 01's answer to a check of a card
unfoldable pub old_card_answer : List ℕ → CardAnswer
old_card_answer b = unless_refused (old_card_refusal b) Refused (Ok (summary_of b))

-- document 01's distance of a position from the buffer face: 50 mm × position
unfoldable pub old_millimetres_answer : (card : List ℕ) (position : ℕ) → NumberAnswer
old_millimetres_answer card position =
    unless_refused
    (first_refusal (refused_as (old_card_refusal card) ∷ refuses 7 (ltb (last_position (code_of card)) position) ∷ []))
    Refused (Ok (50 * position))

-- that answer with its number as a signed one
unfoldable pub as_signed : NumberAnswer → MillimetresAnswer
as_signed (Ok distance) = Ok (pos distance)
as_signed (Err refusal) = Err refusal

-- the answer to a check of a card, where it is an old one, is document 01's
unfoldable pub CheckedAsBefore : (card : List ℕ) → CardAnswer → Type 0
CheckedAsBefore card answer = OldCard card → answer ≡ old_card_answer card

-- the answer to a call for a distance, where the card is an old one, is document 01's
unfoldable pub DistanceAsBefore : (card : List ℕ) (position : ℕ) → MillimetresAnswer → Type 0
DistanceAsBefore card position answer = OldCard card → answer ≡ as_signed (old_millimetres_answer card position)

-- what is promised of a check of a card, and of a distance, beside the equation
pub record CheckPromises (card : List ℕ) (answer : CardAnswer) : Type 0 where
  pub old_card : CheckedAsBefore card answer

pub record MillimetresPromises (card : List ℕ) (position : ℕ) (answer : MillimetresAnswer) : Type 0 where
  pub old_card : DistanceAsBefore card position answer

-- ---- two cards with different offsets

-- all bytes but those of the offset and of the check are the same, each card carries the check that it should, and each offset is
-- within its range
pub record SameButOffset (b b' : List ℕ) : Type 0 where
  pub size : length b ≡ length b'
  pub fields : (i : ℕ) → i < 100 → byte b i ≡ byte b' i
  pub unused : (i : ℕ) → i < 406 → byte b (104 + i) ≡ byte b' (104 + i)
  pub check : stored_check b ≡ computed_check b
  pub check' : stored_check b' ≡ computed_check b'
  pub within : offset_outside (offset_of b) ≡ false
  pub within' : offset_outside (offset_of b') ≡ false

-- all but the distances is the same
pub record AnsweredAlike (b b' : List ℕ) : Type 0 where
  -- both are sound, or refused by the same number
  pub refused : card_refusal b ≡ card_refusal b'
  -- the code: its least distance, the word of each position, the start of each block and what each word reads as go by it
  pub code : code_of b ≡ code_of b'
  -- and each call's answer, for every position, lent word, received word, list of levels, block, list of trams and mark
  pub checked : card_answer b ≡ card_answer b'
  pub written : (position : ℕ) (lent : List ℕ) → write_answer b position lent ≡ write_answer b' position lent
  pub left : (position : ℕ) (lent : List ℕ) → lent_after_write b position lent ≡ lent_after_write b' position lent
  pub read : (received : List ℕ) → read_answer b received ≡ read_answer b' received
  pub read_levels : (levels : List Float) → levels_answer b levels ≡ levels_answer b' levels
  pub started : (block : ℕ) → start_answer b block ≡ start_answer b' block
  pub crossing : (trams : Trams) (mark : ℕ) → crossing_answer b trams mark ≡ crossing_answer b' trams mark
  pub within : (trams : Trams) (first second : ℕ) → within_answer b trams first second ≡ within_answer b' trams first second
  pub nearest : (trams : Trams) (mark : ℕ) → nearest_answer b trams mark ≡ nearest_answer b' trams mark

-- and so is the answer to a release of a track, for every yard, tram, received word and mark
pub record ReleasesAlike (b b' : List ℕ) : Type 0 where
  pub released : (yard : Yard) (tram : ℕ) (word : List ℕ) (mark : ℕ)
      → release_answer yard tram word mark b ≡ release_answer yard tram word mark b'
