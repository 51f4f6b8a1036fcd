-- Document 02, P9: a tram requests a track. Assumes nothing.
use Rattle.std.specs.Prelude.{cond, ◌&&◌, List, [], ◌∷◌, ℕ, leb, ltb, Result, Ok}
use Rattle.model.specs.Refusals.{Row, refuses, first_refusal, Refused, values_by, unless_refused}
use Rattle.model.specs.Yard.{most_waiting, is_held, trams_of, among, unsound, holding, joined}
use Rattle.model.specs.declared.Yard.{Yard}
use Rattle.model.specs.declared.Requested.{Requested}
use Rattle.model.specs.declared.Request.{Request}
use Rattle.model.specs.declared.Request.TheVariants.{Holds as TheTramHolds, Waits as TheTramWaits}
use Rattle.model.specs.declared.Refusal.{Refusal}

-- the answer to a request
abbrev pub RequestAnswer : Type 0
RequestAnswer = Result Request Refusal

pattern abbrev pub Holds : RequestAnswer
Holds = Ok TheTramHolds

pattern abbrev pub Waits : RequestAnswer
Waits = Ok TheTramWaits

-- rows 26, 20, 21 and 22 of the table: the yard; the track; a tram that already holds or waits for any track; a track that is held while 32
-- trams already wait over all tracks
unfoldable pub rows_of_request : Yard → (tram track : ℕ) → List Row
rows_of_request yard tram track =
    refuses 26 (unsound yard)
    ∷ refuses 20 (ltb 15 track)
    ∷ refuses 21 (among tram (trams_of yard))
    ∷ refuses 22 (is_held yard track && leb most_waiting yard.count)
    ∷ []

-- the refusal's number, or 0
unfoldable pub request_refusal : Yard → (tram track : ℕ) → ℕ
request_refusal yard tram track = first_refusal (rows_of_request yard tram track)

-- a request that is not refused: a tram requesting a free track holds it; otherwise it joins the end of that track's queue
unfoldable pub request_served : Yard → (tram track : ℕ) → Requested
request_served yard tram track =
    cond (is_held yard track)
    (record { answer = Waits; yard = joined tram track yard })
    (record { answer = Holds; yard = holding tram track yard })

-- the answer and the yard that is left, which is the one handed in where the request is refused
unfoldable pub request_answer : Yard → (tram track : ℕ) → Requested
request_answer yard tram track =
    unless_refused (request_refusal yard tram track)
    (λ number. record { answer = Refused number; yard = yard })
    (request_served yard tram track)

-- what a request led to as a number: 0 for a tram that holds the track, 1 for one that waits
unfoldable pub request_value : Request → ℕ
request_value TheTramHolds = 0
request_value TheTramWaits = 1

-- an answer's value, none of a refusal
abbrev pub request_values : RequestAnswer → List ℕ
request_values answer = values_by (λ request. request_value request ∷ []) answer

-- the value expected of a request that is served, by the definitions
unfoldable pub request_expected : Yard → (tram track : ℕ) → List ℕ
request_expected yard tram track = request_values (request_served yard tram track).answer
