-- What is promised of a request and of a release, as their contracts state it of what is handed in, the answer and the yard that is left.
-- (That a call is refused by the table's number is the equation with its answer.) Assumes nothing.
use Rattle.std.specs.Prelude.{◌≡◌, true, false, List, [], ◌∷◌, ◌++◌, ℕ, ◌+◌, ◌*◌, ◌≤◌, ◌<◌, length}
use Rattle.model.specs.Card.{code_of, track_of}
use Rattle.model.specs.Order.{last_position}
use Rattle.model.specs.Trams.{margin}
use Rattle.model.specs.Yard.{is_held, queue, unsound}
use Rattle.model.specs.ReleaseTrack.{refusal_ahead_of_word, accepted}
use Rattle.model.specs.declared.Yard.{Yard}
use Rattle.model.specs.declared.Requested.{Requested}
use Rattle.model.specs.declared.Released.{Released}
use Rattle.position_theory.specs.Damage.{WithinRadius}
use Rattle.yard_theory.specs.Lines.{HoldsTrack, WaitsBehind, line}
use Rattle.model.specs.RequestTrack.{Holds, Waits}
use Rattle.model.specs.ReleaseTrack.{Freed, HandedTo}
use Rattle.model.specs.Refusals.{status_of}

-- the lines of all other tracks stay as they are
unfoldable pub OtherLinesStay : (track : ℕ) (before after : Yard) → Type 0
OtherLinesStay track before after = (other : ℕ) → (other ≡ track → ⊥) → line after other ≡ line before other

pub record RequestPromises (yard : Yard) (tram track : ℕ) (r : Requested) : Type 0 where
  -- a refused request leaves the yard as it was
  pub unchanged : (status_of r.answer ≡ 0 → ⊥) → r.yard ≡ yard
  -- the tram holds the track, or waits for it behind all that waited for it
  pub holds : r.answer ≡ Holds → HoldsTrack r.yard track tram
  pub waits : r.answer ≡ Waits → WaitsBehind r.yard track tram (length (queue yard track))
  -- a request that is served puts the tram at the end of the track's line, and no other line changes
  pub joins : status_of r.answer ≡ 0 → line r.yard track ≡ line yard track ++ (tram ∷ [])
  pub others : status_of r.answer ≡ 0 → OtherLinesStay track yard r.yard
  -- and it leaves a yard that is not refused by 26
  pub sound : status_of r.answer ≡ 0 → unsound r.yard ≡ false

-- What a release means on the track, of the word of a true position with at most t damaged bits in each chunk. No track is given away while
-- the tram stands on it: if the release is accepted, the true position is above the mark.
unfoldable pub OnlyClearGivenAway : (word : List ℕ) (mark : ℕ) (card : List ℕ) → Released → Type 0
OnlyClearGivenAway word mark card r =
    (position : ℕ) → position ≤ last_position (code_of card) → WithinRadius (code_of card) position word
    → accepted r.answer ≡ true → mark < position

-- A tram that is clear of its track is never kept on it: if the true position less 20t is above the mark, and nothing is refused ahead of
-- the word, the release is accepted.
unfoldable pub ClearNeverKept : Yard → (tram : ℕ) (word : List ℕ) (mark : ℕ) (card : List ℕ) → Released → Type 0
ClearNeverKept yard tram word mark card r =
    (position : ℕ) → position ≤ last_position (code_of card) → WithinRadius (code_of card) position word
    → mark + 2 * margin (code_of card) < position → refusal_ahead_of_word yard tram card ≡ 0 → accepted r.answer ≡ true

pub record ReleasePromises (yard : Yard) (tram : ℕ) (word : List ℕ) (mark : ℕ) (card : List ℕ) (r : Released) : Type 0 where
  -- a release that is refused, or of a tram that is not clear, leaves the yard as it was
  pub unchanged : accepted r.answer ≡ false → r.yard ≡ yard
  -- the track is free, or held by the tram that it was handed to
  pub freed : r.answer ≡ Freed → is_held r.yard (track_of card) ≡ false
  pub handed : (first : ℕ) → r.answer ≡ HandedTo first → HoldsTrack r.yard (track_of card) first
  -- an accepted release takes the tram off the head of the track's line, and no other line changes
  pub leaves : accepted r.answer ≡ true → line yard (track_of card) ≡ tram ∷ line r.yard (track_of card)
  pub others : accepted r.answer ≡ true → OtherLinesStay (track_of card) yard r.yard
  -- and it leaves a yard that is not refused by 26
  pub sound : accepted r.answer ≡ true → unsound r.yard ≡ false
  -- what it means on the track
  pub only_clear : OnlyClearGivenAway word mark card r
  pub never_kept : ClearNeverKept yard tram word mark card r
