-- An accepted release: the first entry for the track, found by its place, is handed the track; where none is found, the track is freed.
-- Assumes nothing.
use Rattle.std.proofs.Common.{◌≡◌, ap, arith, ℕ, ◌-◌, ◌≤◌, ◌<◌, length, get_or, eqb, Some, None}
use Rattle.std.proofs.lemmas.List.{length-take-le, get_or-take}
use Rattle.std.specs.List.{position}
use Rattle.model.specs.Yard.{most_waiting, no_entry, entries, queue, held_by, freed, handed_to}
use Rattle.model.specs.ReleaseTrack.{handed_on, Freed, HandedTo}
use Rattle.model.specs.declared.Waiting.{Waiting}
use Rattle.model.specs.declared.Yard.{Yard}
use Rattle.model.specs.declared.Released.{Released}
use Rattle.yard.specs.Entries.{without_place}
use Rattle.yard.proofs.QueueFront.{none_waits, first_waits, first_removed, found_inside}

module _ (yard : Yard) (track : ℕ) where
  pub none_handed : None ≡ position (λ (w : Waiting). eqb w.track track) (entries yard)
      → ◌≡◌ {A = Released} (record { answer = Freed; yard = freed track yard }) (handed_on track yard (queue yard track))
  unfolding handed_on
  none_handed none = rw (none_waits track (entries yard) none)

  module _ (size : length yard.waiting ≡ most_waiting) (few : yard.count ≤ most_waiting) (place : ℕ)
      (found : Some place ≡ position (λ (w : Waiting). eqb w.track track) (entries yard)) where
    pub place_below : place < yard.count
    place_below =
        let as_many = length-take-le yard.count yard.waiting (omega (arith, size, few)) in
        rw as_many at (found_inside track (entries yard) place found)

    abbrev first : ℕ
    first = (get_or yard.waiting place no_entry).tram

    pub first_handed : ◌≡◌ {A = Released}
        (record {
          answer = HandedTo first;
          yard =
              record {
                slots = held_by first track yard.slots;
                count = yard.count - 1;
                waiting = without_place place yard.waiting;
              };
        })
        (handed_on track yard (queue yard track))
    unfolding handed_on handed_to
    first_handed =
        let (others, waits) = first_waits track (entries yard) place found in
        let same = ap (λ (w : Waiting). w.tram) (get_or-take yard.count yard.waiting place no_entry place_below) in
        rw (waits, same, first_removed track yard.count yard.waiting place found)
