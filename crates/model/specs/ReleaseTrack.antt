-- Document 02, P9: a tram releases the track of a card, by its word. Assumes nothing.
use Rattle.std.specs.Prelude.{Bool, true, false, cond, not, ◌&&◌, List, [], ◌∷◌, ℕ, ◌+◌, ltb, eqb, Result, Ok, Err}
use Rattle.model.specs.Refusals.{Row, refuses, refused_as, first_refusal, Refused, values_by, unless_refused}
use Rattle.model.specs.Card.{Code, card_refusal, code_of, track_of}
use Rattle.model.specs.ReadWord.{ReadAnswer, reading_of, read_word, read_answer, read_refusal}
use Rattle.model.specs.Trams.{margin}
use Rattle.model.specs.Yard.{number_in, slot_at, is_held, queue, unsound, freed, handed_to}
use Rattle.model.specs.declared.Yard.{Yard}
use Rattle.model.specs.declared.Released.{Released}
use Rattle.model.specs.declared.Release.{Release}
use Rattle.model.specs.declared.Release.TheVariants.{NotClear as TheTramNotClear, Freed as TheTrackFreed, HandedTo as TheTrackHandedTo}
use Rattle.model.specs.declared.Refusal.{Refusal}

-- the answer to a release
abbrev pub ReleaseAnswer : Type 0
ReleaseAnswer = Result Release Refusal

pattern abbrev pub NotClear : ReleaseAnswer
NotClear = Ok TheTramNotClear

pattern abbrev pub Freed : ReleaseAnswer
Freed = Ok TheTrackFreed

pattern abbrev pub HandedTo : (tram : ℕ) → ReleaseAnswer
HandedTo tram = Ok (TheTrackHandedTo tram)

-- ---- refusals

-- whether the tram is the holder of the track
unfoldable pub is_holder : Yard → (tram track : ℕ) → Bool
is_holder yard tram track = is_held yard track && eqb (number_in (slot_at yard track)) tram

-- rows 26, 20 and 21 of the table: the yard; the track; a releasing tram that isn't the holder
unfoldable pub rows_of_release : Yard → (tram track : ℕ) → List Row
rows_of_release yard tram track =
    refuses 26 (unsound yard) ∷ refuses 20 (ltb 15 track) ∷ refuses 21 (not (is_holder yard tram track)) ∷ []

-- what is refused ahead of the word: the card's rows come first, and its track is the track released
unfoldable pub refusal_ahead_of_word : Yard → (tram : ℕ) (card : List ℕ) → ℕ
refusal_ahead_of_word yard tram card = first_refusal (refused_as (card_refusal card) ∷ rows_of_release yard tram (track_of card))

-- the refusal's number, or 0
unfoldable pub release_refusal : Yard → (tram : ℕ) (word card : List ℕ) → ℕ
release_refusal yard tram word card = first_refusal (refused_as (refusal_ahead_of_word yard tram card) ∷ refused_as (read_refusal card word) ∷ [])

-- ---- a release that is not refused

-- whether the position less 10t is above the mark. The sum says it of every position and mark: nothing is cut at 0
unfoldable pub is_clear : Code → (position mark : ℕ) → Bool
is_clear C position mark = ltb (mark + margin C) position

-- an accepted release hands the track to the first waiting tram, or frees it if none waits
unfoldable pub handed_on : (track : ℕ) → Yard → (waiting : List ℕ) → Released
handed_on track yard [] = record { answer = Freed; yard = freed track yard }
handed_on track yard (first ∷ others) = record { answer = HandedTo first; yard = handed_to first track yard }

-- the release of a tram that is read at this position
unfoldable pub released_at : Code → (track : ℕ) → Yard → (position mark : ℕ) → Released
released_at C track yard position mark =
    cond (is_clear C position mark) (handed_on track yard (queue yard track)) (record { answer = NotClear; yard = yard })

-- the release by what is answered for the word: its refusal is the release's
unfoldable pub released_by : Code → (track : ℕ) → Yard → ReadAnswer → (mark : ℕ) → Released
released_by C track yard (Ok reading) mark = released_at C track yard reading.position mark
released_by C track yard (Err refusal) mark = record { answer = Err refusal; yard = yard }

-- the answer and the yard that is left for the code and the track of a sound card
unfoldable pub release_on : Code → (track : ℕ) → Yard → (tram : ℕ) (word : List ℕ) (mark : ℕ) → Released
release_on C track yard tram word mark =
    unless_refused (first_refusal (rows_of_release yard tram track))
    (λ number. record { answer = Refused number; yard = yard })
    (released_by C track yard (read_word C word) mark)

-- the answer and the yard that is left, which is the one handed in where the release is refused or the tram is not clear
unfoldable pub release_answer : Yard → (tram : ℕ) (word : List ℕ) (mark : ℕ) (card : List ℕ) → Released
release_answer yard tram word mark card =
    unless_refused (refusal_ahead_of_word yard tram card)
    (λ number. record { answer = Refused number; yard = yard })
    (released_by (code_of card) (track_of card) yard (read_answer card word) mark)

-- ---- the answer as numbers

-- whether the release is accepted
unfoldable pub accepted_release : Release → Bool
accepted_release TheTramNotClear = false
accepted_release TheTrackFreed = true
accepted_release (TheTrackHandedTo tram) = true

unfoldable pub accepted : ReleaseAnswer → Bool
accepted (Ok release) = accepted_release release
accepted (Err refusal) = false

-- what a release led to as a number: 0 for a tram that is not clear, 1 for a track that is freed, 2 for one that is handed on
unfoldable pub release_value : Release → ℕ
release_value TheTramNotClear = 0
release_value TheTrackFreed = 1
release_value (TheTrackHandedTo tram) = 2

-- an answer's value, none of a refusal
abbrev pub release_values : ReleaseAnswer → List ℕ
release_values answer = values_by (λ release. release_value release ∷ []) answer

-- the value expected of a release that is served, by the definitions
unfoldable pub release_expected : Yard → (word : List ℕ) (mark : ℕ) (card : List ℕ) → List ℕ
release_expected yard word mark card =
    release_values (released_at (code_of card) (track_of card) yard (reading_of (code_of card) word).position mark).answer
