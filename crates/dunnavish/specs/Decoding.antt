-- For each call for C, the library's answer that a status and the numbers left stand for: the refusal by the status or, where that is 0,
-- the answer that has these numbers. It is a function, so whatever is promised of an answer is promised of what a call leaves, and nothing
-- of it is vacuous. Assumes nothing.
use Rattle.std.specs.Prelude.{cond, List, ℕ, eqb, ℤ, pos, get_or, Option, Some, None, Ok}
use Rattle.bits.specs.Places.{list_of}
use Rattle.model.specs.Refusals.{Refused, unless_refused}
use Rattle.model.specs.Reading.{not_read}
use Rattle.model.specs.CheckCard.{CardAnswer}
use Rattle.model.specs.WriteWord.{WriteAnswer, Written}
use Rattle.model.specs.ReadWord.{ReadAnswer}
use Rattle.model.specs.Millimetres.{MillimetresAnswer}
use Rattle.model.specs.VoteChunk.{VoteAnswer, Voted}
use Rattle.model.specs.Trams.{TramsAnswer, most_trams}
use Rattle.model.specs.NearestTram.{NearestAnswer, NoTram, Tram, no_tram}
use Rattle.model.specs.declared.CardSummary.{CardSummary}
use Rattle.model.specs.declared.Reading.{Reading}

-- ---- a check of a card: n, k, track, D, t, d and the last position

abbrev pub summary_left : (left : List ℕ) → CardSummary
summary_left left =
    record {
      n = get_or left 0 0;
      k = get_or left 1 0;
      track = get_or left 2 0;
      distance = get_or left 3 0;
      radius = get_or left 4 0;
      bits = get_or left 5 0;
      last = get_or left 6 0;
    }

unfoldable pub card_left : (status : ℕ) (left : List ℕ) → CardAnswer
card_left status left = unless_refused status Refused (Ok (summary_left left))

-- ---- a write, whose answer is its status alone

unfoldable pub write_left : (status : ℕ) → WriteAnswer
write_left status = unless_refused status Refused Written

-- ---- a read, of a plain word or of levels: position, residual, rule, and the bits that chunks 1 and 2 needed

abbrev pub position_left : (left : List ℕ) → ℕ
position_left left = get_or left 0 0

abbrev pub residual_left : (left : List ℕ) → ℕ
residual_left left = get_or left 1 0

unfoldable pub bits_left : (left : ℕ) → Option ℕ
bits_left left = cond (eqb left not_read) None (Some left)

abbrev pub reading_left : (left : List ℕ) → Reading
reading_left left =
    record {
      position = position_left left;
      residual = residual_left left;
      rule = get_or left 2 0;
      chunk1 = bits_left (get_or left 3 0);
      chunk2 = bits_left (get_or left 4 0);
    }

unfoldable pub read_left : (status : ℕ) (left : List ℕ) → ReadAnswer
read_left status left = unless_refused status Refused (Ok (reading_left left))

-- ---- a distance, a signed number

unfoldable pub millimetres_left : (status : ℕ) (left : List ℤ) → MillimetresAnswer
millimetres_left status left = unless_refused status Refused (Ok (get_or left 0 (pos 0)))

-- ---- a vote: the codeword's number, and in how many bits the two differ

unfoldable pub vote_left : (status : ℕ) (left : List ℕ) → VoteAnswer
vote_left status left = unless_refused status Refused (Voted (get_or left 0 0) (get_or left 1 0))

-- ---- a search that says yes or no of each tram: 1 for yes, and no past the numbers left

unfoldable pub each_tram_left : (status : ℕ) (left : List ℕ) → TramsAnswer
each_tram_left status left = unless_refused status Refused (Ok (list_of most_trams (λ i. eqb (get_or left i 0) 1)))

-- ---- a search for the nearest tram: its place, or that there is none

unfoldable pub place_left : (left : ℕ) → NearestAnswer
place_left left = cond (eqb left no_tram) NoTram (Tram left)

unfoldable pub nearest_left : (status : ℕ) (left : List ℕ) → NearestAnswer
nearest_left status left = unless_refused status Refused (place_left (get_or left 0 0))
