-- Where a track's queue begins: the first entry for the track, found among those that wait, is the first of its queue; without it the queue's
-- first entry is gone. Assumes nothing.
use Rattle.std.proofs.Common.{◌≡◌, refl, ap, arith, List, [], ◌∷◌, ℕ, zero, suc, ◌+◌, ◌≤◌, ◌<◌, length, get_or, take, eqb, Bool}
use Rattle.std.proofs.Common.{Some, None}
use Rattle.std.proofs.lemmas.Bool.{eq-eqb, ne_eqb, lt-ltb, le-ltb, cases_eq, cases_lt}
use Rattle.std.specs.List.{position, position_or_len}
use mathlib.Core.Logic.{⊎_elim}
use Rattle.model.specs.Yard.{no_entry, queue_in, without_first}
use Rattle.model.specs.declared.Waiting.{Waiting}
use Rattle.yard.specs.Entries.{without_place}

abbrev for_track : (track : ℕ) → Waiting → Bool
for_track track w = eqb w.track track

-- the place of the first entry for a track, or the number of entries
abbrev first : (track : ℕ) → List Waiting → ℕ
first track ws = position_or_len (for_track track) ws

past_all : (track : ℕ) (ws : List Waiting) → length ws ≤ first track ws → queue_in track ws ≡ []
unfolding queue_in
past_all track [] past = refl
past_all track (w ∷ ws) past =
    ⊎_elim
    (λ (here : w.track ≡ track). absurd (let none = rw (eq-eqb w.track track here) at past in omega arith))
    (λ (other : w.track ≡ track → ⊥).
    rw (ne_eqb w.track track other)
    (past_all track ws (let later = rw (ne_eqb w.track track other) at past in omega arith)))
    (cases_eq w.track track)

head_at_first : (track : ℕ) (ws : List Waiting) → first track ws < length ws
    → (others : List ℕ) × (queue_in track ws ≡ (get_or ws (first track ws) no_entry).tram ∷ others)
unfolding queue_in
head_at_first track [] found = absurd (omega (arith, found))
head_at_first track (w ∷ ws) found =
    ⊎_elim
    (λ (here : w.track ≡ track). rw (eq-eqb w.track track here) (queue_in track ws, refl))
    (λ (other : w.track ≡ track → ⊥).
    let next : 1 + first track ws ≡ suc (first track ws) = omega arith in
    rw (ne_eqb w.track track other, next)
    (head_at_first track ws (let later = rw (ne_eqb w.track track other) at found in omega arith)))
    (cases_eq w.track track)

removed_at_first : (track count : ℕ) (ws : List Waiting) → first track (take count ws) < length (take count ws)
    → without_place (first track (take count ws)) ws ≡ without_first track ws
unfolding without_place without_first
removed_at_first track zero ws found = absurd (omega (arith, found))
removed_at_first track (suc count) [] found = refl
removed_at_first track (suc count) (w ∷ ws) found =
    ⊎_elim
    (λ (here : w.track ≡ track). rw (eq-eqb w.track track here))
    (λ (other : w.track ≡ track → ⊥).
    let next : 1 + first track (take count ws) ≡ suc (first track (take count ws)) = omega arith in
    rw (ne_eqb w.track track other, next)
    (ap (λ (r : List Waiting). w ∷ r)
    (removed_at_first track count ws (let later = rw (ne_eqb w.track track other) at found in omega arith))))
    (cases_eq w.track track)

-- ---- by what is found

pub none_waits : (track : ℕ) (ws : List Waiting) → None ≡ position (for_track track) ws → queue_in track ws ≡ []
none_waits track ws none =
    ⊎_elim
    (λ (inside : first track ws < length ws). absurd (let some = rw (lt-ltb (first track ws) (length ws) inside) at none in cc))
    (past_all track ws) (cases_lt (first track ws) (length ws))

found_first : (track : ℕ) (ws : List Waiting) (place : ℕ) → Some place ≡ position (for_track track) ws
    → (first track ws ≡ place) × (first track ws < length ws)
found_first track ws place found =
    ⊎_elim
    (λ (inside : first track ws < length ws). (let is = rw (lt-ltb (first track ws) (length ws) inside) at found in cc, inside))
    (λ (past : length ws ≤ first track ws). absurd (let none = rw (le-ltb (first track ws) (length ws) past) at found in cc))
    (cases_lt (first track ws) (length ws))

pub first_waits : (track : ℕ) (ws : List Waiting) (place : ℕ) → Some place ≡ position (for_track track) ws
    → (others : List ℕ) × (queue_in track ws ≡ (get_or ws place no_entry).tram ∷ others)
first_waits track ws place found =
    let (is, inside) = found_first track ws place found in rw (← is) (head_at_first track ws inside)

-- the first entry for the track that waits is the first in all places
pub first_removed : (track count : ℕ) (ws : List Waiting) (place : ℕ) → Some place ≡ position (for_track track) (take count ws)
    → without_place place ws ≡ without_first track ws
first_removed track count ws place found =
    let (is, inside) = found_first track (take count ws) place found in rw (← is) (removed_at_first track count ws inside)

pub found_inside : (track : ℕ) (ws : List Waiting) (place : ℕ) → Some place ≡ position (for_track track) ws → place < length ws
found_inside track ws place found =
    let (is, inside) = found_first track ws place found in rw is at inside
