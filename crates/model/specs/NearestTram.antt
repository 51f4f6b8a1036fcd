-- Document 02, P8: the tram nearest to a mark. Assumes nothing.
use Rattle.std.specs.Prelude.{Bool, cond, ◌&&◌, ◌||◌, List, [], ◌∷◌, ℕ, zero, suc, ◌+◌, ◌-◌, min, ltb, eqb, length, Option, Some, None, Result, Ok}
use Rattle.model.specs.Refusals.{first_refusal, Refused, values_by, unless_refused}
use Rattle.model.specs.Card.{Code, code_of}
use Rattle.model.specs.Order.{last_position}
use Rattle.model.specs.Trams.{Trams, widened_at, rows_of_trams, trams_refusal}
use Rattle.model.specs.TramsCrossing.{crosses}
use Rattle.model.specs.declared.Stretch.{Stretch}
use Rattle.model.specs.declared.Refusal.{Refusal}

-- the answer to a search for the nearest tram: its place in the list, from 0, or that there is none
abbrev pub NearestAnswer : Type 0
NearestAnswer = Result (Option ℕ) Refusal

pattern abbrev pub Tram : (place : ℕ) → NearestAnswer
Tram place = Ok (Some place)

pattern abbrev pub NoTram : NearestAnswer
NoTram = Ok None

-- how far two positions are apart: the absolute difference (one of the two truncated ones is 0)
abbrev pub apart : (a b : ℕ) → ℕ
apart a b = (a - b) + (b - a)

-- the distance from the mark to a stretch's nearer end, 0 for a stretch that crosses the mark
unfoldable pub distance_to : (mark : ℕ) → Stretch → ℕ
distance_to mark s = cond (crosses mark s) 0 (min (apart mark s.low) (apart mark s.high))

-- whether a stretch goes before another: it is nearer to the mark, or as near with a smaller low end
unfoldable pub goes_before : (mark : ℕ) (s other : Stretch) → Bool
goes_before mark s other =
    ltb (distance_to mark s) (distance_to mark other)
    || eqb (distance_to mark s) (distance_to mark other) && ltb s.low other.low

-- the place of the nearest of the trams at places 0, …, m: a later one only if it goes before, so that a tie goes to the earlier
unfoldable pub nearest_up_to : (mark : ℕ) (stretch : ℕ → Stretch) (m : ℕ) → ℕ
nearest_up_to mark stretch zero = 0
nearest_up_to mark stretch (suc m) =
    let earlier : ℕ = nearest_up_to mark stretch m in
    cond (goes_before mark (stretch (suc m)) (stretch earlier)) (suc m) earlier

-- the nearest of so many trams; of no trams it is none
unfoldable pub nearest_of : (mark : ℕ) (stretch : ℕ → Stretch) (count : ℕ) → Option ℕ
nearest_of mark stretch zero = None
nearest_of mark stretch (suc m) = Some (nearest_up_to mark stretch m)

-- the nearest in the widened list
abbrev pub nearest_among : Code → Trams → (mark : ℕ) → Option ℕ
nearest_among C trams mark = nearest_of mark (widened_at C trams) (length trams)

-- the answer for the code of a sound card
unfoldable pub nearest_on : Code → Trams → (mark : ℕ) → NearestAnswer
nearest_on C trams mark = unless_refused (first_refusal (rows_of_trams (last_position C) trams mark mark)) Refused (Ok (nearest_among C trams mark))

-- the refusal's number, or 0
abbrev pub nearest_refusal : (card : List ℕ) → Trams → (mark : ℕ) → ℕ
nearest_refusal card trams mark = trams_refusal card trams mark mark

-- the answer
unfoldable pub nearest_answer : (card : List ℕ) → Trams → (mark : ℕ) → NearestAnswer
nearest_answer card trams mark = unless_refused (nearest_refusal card trams mark) Refused (Ok (nearest_among (code_of card) trams mark))

-- a place as a number; for no tram, 2^32 - 1, which is no place (the documents leave that number open)
abbrev pub no_tram : ℕ
no_tram = 4294967295

unfoldable pub place_value : Option ℕ → ℕ
place_value (Some place) = place
place_value None = no_tram

-- its value, none of a refusal
abbrev pub nearest_values : NearestAnswer → List ℕ
nearest_values answer = values_by (λ place. place_value place ∷ []) answer

-- the value expected of a search that is served, by the definitions
unfoldable pub nearest_expected : (card : List ℕ) → Trams → (mark : ℕ) → List ℕ
nearest_expected card trams mark = place_value (nearest_among (code_of card) trams mark) ∷ []
