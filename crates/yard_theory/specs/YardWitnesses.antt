-- The promises of the calls on the yard, and the queue's theorem, held from below. Each row takes one promise of a yard, and whatever is
-- answered, and says what the promise alone then gives, at the border of its premise or of its bound. So a premise that nobody can meet, or
-- a bound looser than the documents', no longer gives its row. Assumes nothing.
use Rattle.std.specs.Prelude.{◌≡◌, true, false, List, [], ◌∷◌, ℕ, set, replicate}
use Rattle.model.specs.CardsToTry.{card_with, card_b}
use Rattle.model.specs.Yard.{track_count, free_slot, no_entry, empty_yard, is_held, unsound}
use Rattle.model.specs.ReleaseTrack.{accepted}
use Rattle.model.specs.declared.Slot.{Slot}
use Rattle.model.specs.declared.Slot.TheVariants.{Held}
use Rattle.model.specs.declared.Waiting.{Waiting}
use Rattle.model.specs.declared.Yard.{Yard}
use Rattle.model.specs.declared.Requested.{Requested}
use Rattle.model.specs.declared.Released.{Released}
use Rattle.position_theory.specs.PositionWitnesses.{last_damaged}
use Rattle.yard_theory.specs.Lines.{WaitsBehind, HoldsTrack, HoldsNone, line}
use Rattle.yard_theory.specs.Runs.{Call, request, run, accepted_releases, NeverUnsound, ServedInTurn}
use Rattle.yard_theory.specs.YardPromises.{RequestPromises, ReleasePromises, OnlyClearGivenAway, ClearNeverKept}
use Rattle.model.specs.RequestTrack.{Holds, Waits}
use Rattle.model.specs.ReleaseTrack.{Freed, HandedTo, NotClear}
use Rattle.model.specs.Refusals.{status_of}

-- ---- yards and words

abbrev by : (tram : ℕ) → Slot
by tram = Held tram

abbrev for : (tram track : ℕ) → Waiting
for tram track = record { tram = tram; track = track }

-- tram 8 holds track 2, and tram 9 track 14; tram 10 waits for 14, tram 11 for 2, and tram 12 for 14
abbrev pub busy : Yard
busy =
    record {
      slots = set (set (replicate track_count free_slot) 2 (by 8)) 14 (by 9);
      count = 3;
      waiting = for 10 14 ∷ for 11 2 ∷ for 12 14 ∷ replicate 29 no_entry;
    }

-- tram 9 holds the track, and nobody waits
abbrev pub alone : (track : ℕ) → Yard
alone track = record { slots = set (replicate track_count free_slot) track (by 9); count = 0; waiting = replicate 32 no_entry }

-- Card B is that of track 14. It has 10t = 10, and its last position is 15, so that nobody is 20t above a mark on its track. A card for
-- track 15 with rows 7 and 28, n 5 and k 2, has D 3, t 1 and last position 45.
unfoldable pub longer : List ℕ
longer = card_with 5 2 15 (7 ∷ 28 ∷ [])

-- its last position's word with one bit of code chunk 1 damaged
abbrev pub last_of_longer : List ℕ
last_of_longer = 0b11101111 ∷ 0b11100111 ∷ 0b111 ∷ []

-- trams 1, 2 and 3 request track 14 one after the other
abbrev pub three_requests : List Call
three_requests = request 1 14 ∷ request 2 14 ∷ request 3 14 ∷ []

-- ---- the rows

-- of a request by tram 13 in the busy yard, for track 14 or 15
abbrev pub Asked : (track : ℕ) → Requested → Type 0
Asked track r = RequestPromises busy 13 track r

-- of a release of track 14 in that yard by this tram
abbrev pub ReleasedBy : (tram : ℕ) → Released → Type 0
ReleasedBy tram r = ReleasePromises busy tram last_damaged 4 card_b r

pub record YardWitnessed : Type 0 where
  -- a request: refused, on a free track, the last of them, and behind the two that wait for that track among three
  pub request_refused : (r : Requested) → status_of r.answer ≡ 21 → RequestPromises busy 12 2 r → r.yard ≡ busy
  pub holds : (r : Requested) → r.answer ≡ Holds → Asked 15 r → HoldsTrack r.yard 15 13
  pub waits : (r : Requested) → r.answer ≡ Waits → Asked 14 r → WaitsBehind r.yard 14 13 2
  pub joins : (r : Requested) → status_of r.answer ≡ 0 → Asked 14 r → line r.yard 14 ≡ 9 ∷ 10 ∷ 12 ∷ 13 ∷ []
  pub others_stay : (r : Requested) → status_of r.answer ≡ 0 → Asked 14 r → line r.yard 2 ≡ 8 ∷ 11 ∷ []
  pub stays_sound : (r : Requested) → status_of r.answer ≡ 0 → Asked 14 r → unsound r.yard ≡ false
  -- a release: not clear, freed, handed to the first of the queue, and by nobody but the holder
  pub not_clear : (r : Released) → r.answer ≡ NotClear → ReleasedBy 9 r → r.yard ≡ busy
  pub freed : (r : Released) → r.answer ≡ Freed → ReleasePromises (alone 14) 9 last_damaged 4 card_b r → is_held r.yard 14 ≡ false
  pub handed : (r : Released) → r.answer ≡ HandedTo 10 → ReleasedBy 9 r → HoldsTrack r.yard 14 10
  pub head_leaves : (r : Released) → accepted r.answer ≡ true → ReleasedBy 9 r → line r.yard 14 ≡ 10 ∷ 12 ∷ []
  pub no_other_leaves : (r : Released) → accepted r.answer ≡ true → ReleasedBy 8 r → ⊥
  pub other_line : (r : Released) → accepted r.answer ≡ true → ReleasedBy 9 r → line r.yard 2 ≡ 8 ∷ 11 ∷ []
  pub left_sound : (r : Released) → accepted r.answer ≡ true → ReleasedBy 9 r → unsound r.yard ≡ false
  -- 15, the last position, with a damaged bit: a tram that stands at the mark is never given the track's release
  pub not_at_its_mark : (r : Released) → OnlyClearGivenAway last_damaged 15 card_b r → accepted r.answer ≡ true → ⊥
  -- 45 is 20t and one step above mark 24
  pub just_clear : (r : Released) → ClearNeverKept (alone 15) 9 last_of_longer 24 longer r → accepted r.answer ≡ true
  -- tram 3 waits with one ahead of it: after one accepted release of track 14 with none, and after two it holds the track
  pub third_waits : ServedInTurn → (later : List Call) → accepted_releases 14 later (run three_requests empty_yard) ≡ 1
      → WaitsBehind (run later (run three_requests empty_yard)) 14 3 0 × HoldsNone (run later (run three_requests empty_yard)) 3
  pub third_holds : ServedInTurn → (later : List Call) → accepted_releases 14 later (run three_requests empty_yard) ≡ 2
      → HoldsTrack (run later (run three_requests empty_yard)) 14 3
  -- and no request brings a run from the empty yard to 26
  pub run_sound : NeverUnsound → unsound (run three_requests empty_yard) ≡ false
