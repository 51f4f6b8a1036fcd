-- Document 02, P9, "The slot queue": the yard with its sixteen tracks and the trams that wait for them; a track's queue; refusal 26; and what
-- a call changes. The two calls are in RequestTrack.antt and ReleaseTrack.antt. Assumes nothing.
use Rattle.std.specs.Prelude.{Bool, true, false, cond, not, ◌||◌, List, [], ◌∷◌, ◌++◌, map, ℕ, ◌+◌, ◌-◌, ltb, eqb, get_or, take, set, replicate}
use Rattle.model.specs.declared.Slot.{Slot}
use Rattle.model.specs.declared.Slot.TheVariants.{Free, Held}
use Rattle.model.specs.declared.Waiting.{Waiting}
use Rattle.model.specs.declared.Yard.{Yard}

-- ---- the yard

-- the tracks, 0 to 15
abbrev pub track_count : ℕ
track_count = 16

-- the most trams that wait, over all tracks
abbrev pub most_waiting : ℕ
most_waiting = 32

-- a track that nobody holds, and an entry that nothing has been put into
abbrev pub free_slot : Slot
free_slot = Free 0

abbrev pub no_entry : Waiting
no_entry = record { tram = 0; track = 0 }

-- the empty yard: every track is free, and no tram waits
unfoldable pub empty_yard : Yard
empty_yard = record { slots = replicate track_count free_slot; count = 0; waiting = replicate most_waiting no_entry }

-- whether a slot is held, and the number in it: its holder where it is held, and one that means nothing where it is free
abbrev pub taken : Slot → Bool
taken (Free number) = false
taken (Held tram) = true

abbrev pub number_in : Slot → ℕ
number_in (Free number) = number
number_in (Held tram) = tram

-- the slot of a track; a track above 15 is free
abbrev pub slot_at : Yard → (track : ℕ) → Slot
slot_at yard track = get_or yard.slots track free_slot

-- whether a track is held
abbrev pub is_held : Yard → (track : ℕ) → Bool
is_held yard track = taken (slot_at yard track)

-- the entries of the trams that wait, in the order in which they came
abbrev pub entries : Yard → List Waiting
entries yard = take yard.count yard.waiting

-- a track's queue: the trams that wait for it, in the order in which they came
unfoldable pub queue_in : (track : ℕ) → List Waiting → List ℕ
queue_in track [] = []
queue_in track (w ∷ ws) = cond (eqb w.track track) (w.tram ∷ queue_in track ws) (queue_in track ws)

abbrev pub queue : Yard → (track : ℕ) → List ℕ
queue yard track = queue_in track (entries yard)

-- ---- the trams of the yard

-- those that hold a track
unfoldable pub holders : List Slot → List ℕ
holders [] = []
holders (Free number ∷ slots) = holders slots
holders (Held tram ∷ slots) = tram ∷ holders slots

-- all trams of the yard, one for each track that it holds and each entry by which it waits
unfoldable pub trams_of : Yard → List ℕ
trams_of yard = holders yard.slots ++ map (λ w. w.tram) (entries yard)

-- whether a tram is among these
unfoldable pub among : (tram : ℕ) → List ℕ → Bool
among tram [] = false
among tram (x ∷ xs) = eqb x tram || among tram xs

-- ---- refusal 26

-- whether a tram is twice among these
unfoldable pub any_twice : List ℕ → Bool
any_twice [] = false
any_twice (x ∷ xs) = among x xs || any_twice xs

-- whether one of these waits for a free track
unfoldable pub any_for_free : Yard → List Waiting → Bool
any_for_free yard [] = false
any_for_free yard (w ∷ ws) = not (is_held yard w.track) || any_for_free yard ws

-- the yard handed in has a tram twice, a tram waiting for a free track, or more than 32 waiting
unfoldable pub unsound : Yard → Bool
unsound yard = any_twice (trams_of yard) || any_for_free yard (entries yard) || ltb most_waiting yard.count

-- ---- what a call changes

-- the track is held by this tram
abbrev pub held_by : (tram track : ℕ) → List Slot → List Slot
held_by tram track slots = set slots track (Held tram)

-- a tram holds a track that was free
unfoldable pub holding : (tram track : ℕ) → Yard → Yard
holding tram track yard = record { slots = held_by tram track yard.slots; count = yard.count; waiting = yard.waiting }

-- a tram joins the end of a track's queue: it comes last of all that wait
unfoldable pub joined : (tram track : ℕ) → Yard → Yard
joined tram track yard =
    record {
      slots = yard.slots;
      count = yard.count + 1;
      waiting = set yard.waiting yard.count (record { tram = tram; track = track });
    }

-- nobody holds the track any longer
unfoldable pub freed : (track : ℕ) → Yard → Yard
freed track yard = record { slots = set yard.slots track free_slot; count = yard.count; waiting = yard.waiting }

-- the entries without the first for this track: those after it move up by one place, and the last place is empty
unfoldable pub without_first : (track : ℕ) → List Waiting → List Waiting
without_first track [] = []
without_first track (w ∷ ws) = cond (eqb w.track track) (ws ++ (no_entry ∷ [])) (w ∷ without_first track ws)

-- the track is handed to this tram, the first of its queue, which no longer waits
unfoldable pub handed_to : (tram track : ℕ) → Yard → Yard
handed_to tram track yard =
    record {
      slots = held_by tram track yard.slots;
      count = yard.count - 1;
      waiting = without_first track yard.waiting;
    }
