-- Runs of the two calls, each given the yard that the last one left, and the queue's theorem over them. Assumes nothing.
use Rattle.std.specs.Prelude.{◌≡◌, Bool, false, cond, ◌&&◌, List, [], ◌∷◌, ℕ, ◌+◌, eqb}
use Rattle.model.specs.Card.{track_of}
use Rattle.model.specs.Yard.{empty_yard, unsound}
use Rattle.model.specs.RequestTrack.{request_answer}
use Rattle.model.specs.ReleaseTrack.{release_answer, accepted}
use Rattle.model.specs.declared.Yard.{Yard}
use Rattle.yard_theory.specs.Lines.{WaitsBehind, HoldsTrack, HoldsNone}

-- ---- runs

-- a call, with all that it carries but the yard
pub data Call : Type 0 where
  request : (tram track : ℕ) → Call
  release : (tram : ℕ) (word : List ℕ) (mark : ℕ) (card : List ℕ) → Call

-- the yard that a call leaves
unfoldable pub yard_after : Call → Yard → Yard
yard_after (request tram track) yard = (request_answer yard tram track).yard
yard_after (release tram word mark card) yard = (release_answer yard tram word mark card).yard

-- the yard that the calls leave, the first call first
unfoldable pub run : List Call → Yard → Yard
run [] yard = yard
run (call ∷ calls) yard = run calls (yard_after call yard)

-- whether a call is an accepted release of the track
unfoldable pub releases : (track : ℕ) → Call → Yard → Bool
releases track (request tram requested) yard = false
releases track (release tram word mark card) yard = eqb (track_of card) track && accepted (release_answer yard tram word mark card).answer

-- how many of the calls are
unfoldable pub accepted_releases : (track : ℕ) → List Call → Yard → ℕ
accepted_releases track [] yard = 0
accepted_releases track (call ∷ calls) yard = cond (releases track call yard) 1 0 + accepted_releases track calls (yard_after call yard)

-- ---- what holds of every run from the empty yard

-- the yard is never refused by 26
unfoldable pub NeverUnsound : Type 0
NeverUnsound = (calls : List Call) → unsound (run calls empty_yard) ≡ false

-- The queue's theorem. Some calls leave a yard in which a tram waits for a track with q trams ahead of it in its queue, and any calls
-- follow. As long as m of these, m at most q, are accepted releases of that track, the tram waits with q - m ahead of it, and holds no
-- track; after exactly q + 1 of them it holds its track.
unfoldable pub ServedInTurn : Type 0
ServedInTurn =
    (earlier later : List Call) (tram track q : ℕ) → WaitsBehind (run earlier empty_yard) track tram q
    → let yard = run later (run earlier empty_yard) in
    let m = accepted_releases track later (run earlier empty_yard) in
    ((left : ℕ) → m + left ≡ q → WaitsBehind yard track tram left × HoldsNone yard tram) × (m ≡ q + 1 → HoldsTrack yard track tram)
