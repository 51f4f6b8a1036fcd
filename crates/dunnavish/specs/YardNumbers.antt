-- The yard as a caller in C has it, 97 numbers of 16 bits: 16 flags (any number but 0 for a track that is held), 16 holders, the count of
-- waiting trams, and 32 trams and 32 tracks of their entries; and what a call leaves of it. Assumes nothing.
use Rattle.std.specs.Prelude.{Bool, cond, List, ℕ, ◌+◌, ◌-◌, ltb, eqb, get_or}
use Rattle.bits.specs.Places.{list_of}
use Rattle.model.specs.Refusals.{Refused, unless_refused}
use Rattle.model.specs.Yard.{track_count, most_waiting, no_entry, taken, number_in, slot_at}
use Rattle.model.specs.RequestTrack.{Holds, Waits}
use Rattle.model.specs.ReleaseTrack.{NotClear, Freed, HandedTo}
use Rattle.model.specs.declared.Slot.{Slot}
use Rattle.model.specs.declared.Slot.TheVariants.{Free, Held}
use Rattle.model.specs.declared.Waiting.{Waiting}
use Rattle.model.specs.declared.Yard.{Yard}
use Rattle.model.specs.declared.Requested.{Requested}
use Rattle.model.specs.declared.Released.{Released}

-- ---- the numbers

abbrev pub yard_count : ℕ
yard_count = 97

-- the places at which the holders, the count, the trams and the tracks of the entries begin
abbrev pub holders_at : ℕ
holders_at = 16

abbrev pub count_at : ℕ
count_at = 32

abbrev pub trams_at : ℕ
trams_at = 33

abbrev pub tracks_at : ℕ
tracks_at = 65

-- the yard that the numbers stand for. (A list has 0 past its end.)
abbrev pub slot_lent : (numbers : List ℕ) (track : ℕ) → Slot
slot_lent numbers track =
    cond (eqb (get_or numbers track 0) 0) (Free (get_or numbers (holders_at + track) 0)) (Held (get_or numbers (holders_at + track) 0))

abbrev pub entry_lent : (numbers : List ℕ) (i : ℕ) → Waiting
entry_lent numbers i = record { tram = get_or numbers (trams_at + i) 0; track = get_or numbers (tracks_at + i) 0 }

unfoldable pub yard_lent : (numbers : List ℕ) → Yard
yard_lent numbers =
    record {
      slots = list_of track_count (slot_lent numbers);
      count = get_or numbers count_at 0;
      waiting = list_of most_waiting (entry_lent numbers);
    }

-- the number at a place, and all of them; the flag of a track that is held is 1
unfoldable pub number_at : Yard → (place : ℕ) → ℕ
number_at yard place =
    cond (ltb place holders_at) (cond (taken (slot_at yard place)) 1 0)
    (cond (ltb place count_at) (number_in (slot_at yard (place - holders_at)))
    (cond (ltb place trams_at) yard.count
    (cond (ltb place tracks_at) (get_or yard.waiting (place - trams_at) no_entry).tram (get_or yard.waiting (place - tracks_at) no_entry).track)))

unfoldable pub yard_numbers : Yard → List ℕ
yard_numbers yard = list_of yard_count (number_at yard)

-- ---- what a call leaves

-- the numbers of the yard after a call that changes it, or as they were
unfoldable pub yard_left_by : (changes : Bool) → Yard → (lent : List ℕ) → List ℕ
yard_left_by changes after lent = cond changes (yard_numbers after) lent

-- The answer and the yard that a status and the numbers left stand for. The value of a request is 0 for a tram that holds the track, and 1
-- for one that waits.
unfoldable pub requested_left : (status : ℕ) (values yard : List ℕ) → Requested
requested_left status values yard =
    record { answer = unless_refused status Refused (cond (eqb (get_or values 0 0) 0) Holds Waits); yard = yard_lent yard }

-- That of a release of this track is 0 for a tram that is not clear, 1 for a track that is freed, and 2 for one that is handed on, to the
-- tram that now holds it.
unfoldable pub released_left : (track status : ℕ) (values yard : List ℕ) → Released
released_left track status values yard =
    record {
      answer =
          unless_refused status Refused
          (cond (eqb (get_or values 0 0) 0) NotClear (cond (eqb (get_or values 0 0) 1) Freed (HandedTo (number_in (slot_at (yard_lent yard) track)))));
      yard = yard_lent yard;
    }
