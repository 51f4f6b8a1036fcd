-- Who holds a track, and who waits for it with how many trams ahead. Assumes nothing.
use Rattle.std.specs.Prelude.{◌≡◌, cond, List, ◌∷◌, ◌++◌, ℕ, length}
use Rattle.model.specs.Yard.{number_in, slot_at, is_held, queue}
use Rattle.model.specs.declared.Slot.TheVariants.{Held}
use Rattle.model.specs.declared.Yard.{Yard}

-- the tram is in the list, with so many ahead of it
pub record HasAhead (trams : List ℕ) (tram many : ℕ) : Type 0 where
  pub ahead : List ℕ
  pub behind : List ℕ
  pub in_list : trams ≡ ahead ++ (tram ∷ behind)
  pub as_many : length ahead ≡ many

-- the tram waits for the track, with q trams ahead of it in the track's queue
abbrev pub WaitsBehind : Yard → (track tram q : ℕ) → Type 0
WaitsBehind yard track tram q = HasAhead (queue yard track) tram q

-- the tram holds the track
abbrev pub HoldsTrack : Yard → (track tram : ℕ) → Type 0
HoldsTrack yard track tram = slot_at yard track ≡ Held tram

-- the tram holds no track
unfoldable pub HoldsNone : Yard → (tram : ℕ) → Type 0
HoldsNone yard tram = (track : ℕ) → HoldsTrack yard track tram → ⊥

-- the line of a track: the tram that holds it, and then its queue
unfoldable pub line : Yard → (track : ℕ) → List ℕ
line yard track = cond (is_held yard track) (number_in (slot_at yard track) ∷ queue yard track) (queue yard track)
