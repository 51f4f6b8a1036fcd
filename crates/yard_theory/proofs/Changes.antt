-- What each of the four changes makes of a yard: it stays orderly, one line gains a tram at its end or loses its head, and no other line
-- changes. Assumes nothing.
use mathlib.Core.Path.{◌≡◌, refl, sym, ap, ◌∙◌}
use mathlib.Core.Bool.{Bool, true, false, cond, false≢true}
use mathlib.Core.List.{List, [], ◌∷◌, ◌++◌, append-nil}
use mathlib.Core.Logic.{⊎_elim}
use Prim.Native.Nat.{ℕ, ◌+◌, ◌≤◌, ◌<◌}
use native.Mathlib.Numerals.{add-one}
use native.Mathlib.Omega.{arith}
use borrow.Author.Tests.{eq-eqb, ne_eqb}
use lib.ListN.{length, get_or, set, length-set}
use lib.Seq.{get_or-set_same, get_or-set_other, take-suc-set}
use Rattle.bits.proofs.Numbers.{eq_or_ne}
use Rattle.model.specs.Yard.{track_count, most_waiting, free_slot, taken, number_in, slot_at, is_held, entries, queue_in, queue, holders, trams_of}
use Rattle.model.specs.Yard.{holding, joined, freed, handed_to}
use Rattle.model.specs.declared.Slot.{Slot}
use Rattle.model.specs.declared.Slot.TheVariants.{Held}
use Rattle.model.specs.declared.Waiting.{Waiting}
use Rattle.model.specs.declared.Yard.{Yard}
use Rattle.yard_theory.specs.Lines.{HoldsTrack, WaitsBehind, line}
use Rattle.yard_theory.specs.YardPromises.{OtherLinesStay}
use Rattle.yard_theory.proofs.TramCounts.{is_tram, times, times_append, in_free, times_set}
use Rattle.yard_theory.proofs.Queues.{trams_in, queue_append, queue_of_one, queue_of_other, trams_append}
use Rattle.yard_theory.proofs.Queues.{removed, length_without, removed_entries, removed_queue, removed_other, removed_times}
use Rattle.yard_theory.proofs.OrderlyYards.{Orderly}

-- ---- lines and counts

pub line_held : (yard : Yard) (track tram : ℕ) → HoldsTrack yard track tram → line yard track ≡ tram ∷ queue yard track
unfolding line
line_held yard track tram holds = ap (λ (s : Slot). cond (taken s) (number_in s ∷ queue yard track) (queue yard track)) holds

pub line_free : (yard : Yard) (track : ℕ) → Orderly yard → is_held yard track ≡ false → line yard track ≡ []
unfolding line
line_free yard track orderly free = rw free (orderly.none_for_free track free)

-- a line is known by its slot and its queue
same_line : (before after : Yard) (track : ℕ) → slot_at after track ≡ slot_at before track → queue after track ≡ queue before track
    → line after track ≡ line before track
unfolding line
same_line before after track slot waiting =
    ap (λ (s : Slot). cond (taken s) (number_in s ∷ queue after track) (queue after track)) slot
    ∙ ap (λ (q : List ℕ). cond (is_held before track) (number_in (slot_at before track) ∷ q) q) waiting

-- the trams of the yard are those that hold a track and those that wait
pub in_all : (x : ℕ) (yard : Yard) → times x (trams_of yard) ≡ times x (holders yard.slots) + times x (trams_in (entries yard))
unfolding trams_of
in_all x yard = times_append x (holders yard.slots) (trams_in (entries yard))

-- no tram is twice when one more comes that was not in the yard
one_more : (yard : Yard) → Orderly yard → (tram : ℕ) → times tram (trams_of yard) ≡ 0 → (x : ℕ) → is_tram x tram + times x (trams_of yard) ≤ 1
one_more yard orderly tram new x =
    ⊎_elim (λ (here : tram ≡ x). let none : times x (trams_of yard) ≡ 0 = rw here at new in rw (eq-eqb tram x here) (omega (arith, none)))
    (λ (other : tram ≡ x → ⊥). let few = orderly.at_most_once x in rw (ne_eqb tram x other) (omega (arith, few))) (eq_or_ne tram x)

-- ---- a slot changes

module _ (slots : List Slot) (track : ℕ) (s : Slot) (inside : track < length slots) where
  slot_changed : get_or (set slots track s) track free_slot ≡ s
  slot_changed = get_or-set_same slots track s free_slot inside

  slot_as_before : (other : ℕ) → (other ≡ track → ⊥) → get_or (set slots track s) other free_slot ≡ get_or slots other free_slot
  slot_as_before other ne = get_or-set_other slots track other s free_slot ne

-- ---- a tram comes that was not in the yard

module _ (yard : Yard) (orderly : Orderly yard) (tram track : ℕ) (inside : track < track_count) (new : times tram (trams_of yard) ≡ 0) where
  slots_16 : length yard.slots ≡ 16
  slots_16 = orderly.sized.tracks

  abbrev mine : Slot
  mine = Held tram

  abbrev entry : Waiting
  entry = record { tram = tram; track = track }

  -- it holds a free track
  module _ (free : is_held yard track ≡ false) where
    pub holding_holds : HoldsTrack (holding tram track yard) track tram
    unfolding holding
    holding_holds = slot_changed yard.slots track mine (omega (arith, inside, slots_16))

    pub holding_line : line (holding tram track yard) track ≡ line yard track ++ (tram ∷ [])
    unfolding holding
    holding_line =
        rw (line_free yard track orderly free)
        (line_held (holding tram track yard) track tram holding_holds
        ∙ ap (λ (r : List ℕ). tram ∷ r) (orderly.none_for_free track free))

    pub holding_others : OtherLinesStay track yard (holding tram track yard)
    unfolding OtherLinesStay holding
    holding_others other ne =
        same_line yard (holding tram track yard) other
        (slot_as_before yard.slots track mine (omega (arith, inside, slots_16)) other ne) refl

    pub holding_orderly : Orderly (holding tram track yard)
    unfolding holding
    holding_orderly =
        record {
          sized = record { tracks = length-set yard.slots track mine ∙ slots_16; places = orderly.sized.places };
          few = orderly.few;
          at_most_once = λ x.
              let now_held = times_set x yard.slots track mine (omega (arith, inside, slots_16)) in
              let was_free = in_free x (slot_at yard track) free in
              let before = in_all x yard in
              let after = in_all x (holding tram track yard) in
              omega (arith, now_held, was_free, before, after, one_more yard orderly tram new x);
          none_for_free = λ other still-free.
              ⊎_elim
              (λ (here : other ≡ track).
              absurd (false≢true (sym still-free ∙ ap (λ (t : ℕ). is_held (holding tram track yard) t) here ∙ ap taken holding_holds)))
              (λ (ne : other ≡ track → ⊥).
              orderly.none_for_free other
              (sym (ap taken (slot_as_before yard.slots track mine (omega (arith, inside, slots_16)) other ne)) ∙ still-free))
              (eq_or_ne other track);
        }

  -- it joins the queue of a track that is held
  module _ (held : is_held yard track ≡ true) (room : yard.count < most_waiting) where
    entries_joined : entries (joined tram track yard) ≡ entries yard ++ (entry ∷ [])
    unfolding joined
    entries_joined =
        rw (add-one yard.count) (take-suc-set yard.waiting yard.count entry (omega (arith, room, orderly.sized.places)))

    queue_joined : (other : ℕ) → queue (joined tram track yard) other ≡ queue yard other ++ queue_in other (entry ∷ [])
    queue_joined other = ap (queue_in other) entries_joined ∙ queue_append other (entries yard) (entry ∷ [])

    pub joined_queue : queue (joined tram track yard) track ≡ queue yard track ++ (tram ∷ [])
    joined_queue = queue_joined track ∙ ap (λ (r : List ℕ). queue yard track ++ r) (queue_of_one entry track refl)

    other_queues : (other : ℕ) → (other ≡ track → ⊥) → queue (joined tram track yard) other ≡ queue yard other
    other_queues other ne =
        queue_joined other ∙ ap (λ (r : List ℕ). queue yard other ++ r) (queue_of_other entry other (λ is. ne (sym is))) ∙ append-nil (queue yard other)

    pub joined_waits : WaitsBehind (joined tram track yard) track tram (length (queue yard track))
    joined_waits = record { ahead = queue yard track; behind = []; in_list = joined_queue; as_many = refl }

    pub joined_line : line (joined tram track yard) track ≡ line yard track ++ (tram ∷ [])
    unfolding line joined
    joined_line = rw (held, joined_queue)

    pub joined_others : OtherLinesStay track yard (joined tram track yard)
    unfolding OtherLinesStay joined
    joined_others other ne = same_line yard (joined tram track yard) other refl (other_queues other ne)

    pub joined_orderly : Orderly (joined tram track yard)
    unfolding joined times
    joined_orderly =
        record {
          sized = record { tracks = slots_16; places = length-set yard.waiting yard.count entry ∙ orderly.sized.places };
          few = omega (arith, room);
          at_most_once = λ x.
              let one : times x (trams_in (entries (joined tram track yard))) ≡ times x (trams_in (entries yard)) + times x (tram ∷ []) =
              ap (λ (ws : List Waiting). times x (trams_in ws)) entries_joined
              ∙ ap (times x) (trams_append (entries yard) (entry ∷ [])) ∙ times_append x (trams_in (entries yard)) (tram ∷ []) in
              let before = in_all x yard in
              let after = in_all x (joined tram track yard) in
              omega (arith, one, before, after, one_more yard orderly tram new x);
          none_for_free = λ other free.
              ⊎_elim (λ (here : other ≡ track). absurd (false≢true (sym free ∙ ap (is_held yard) here ∙ held)))
              (λ (ne : other ≡ track → ⊥). other_queues other ne ∙ orderly.none_for_free other free) (eq_or_ne other track);
        }

-- ---- the holder leaves

module _ (yard : Yard) (orderly : Orderly yard) (tram track : ℕ) (inside : track < track_count) (holds : HoldsTrack yard track tram) where
  tracks_16 : track < length yard.slots
  tracks_16 = omega (arith, inside, orderly.sized.tracks)

  -- nobody waits, and the track is free
  module _ (none : queue yard track ≡ []) where
    pub freed_free : is_held (freed track yard) track ≡ false
    unfolding freed
    freed_free = ap taken (slot_changed yard.slots track free_slot tracks_16)

    pub freed_line : line yard track ≡ tram ∷ line (freed track yard) track
    unfolding line freed
    freed_line =
        line_held yard track tram holds
        ∙ sym (ap (λ (b : Bool). tram ∷ cond b (number_in (slot_at (freed track yard) track) ∷ queue yard track) (queue yard track)) freed_free)

    pub freed_others : OtherLinesStay track yard (freed track yard)
    unfolding OtherLinesStay freed
    freed_others other ne = same_line yard (freed track yard) other (slot_as_before yard.slots track free_slot tracks_16 other ne) refl

    pub freed_orderly : Orderly (freed track yard)
    unfolding freed
    freed_orderly =
        record {
          sized = record { tracks = length-set yard.slots track free_slot ∙ orderly.sized.tracks; places = orderly.sized.places };
          few = orderly.few;
          at_most_once = λ x.
              let now_free = times_set x yard.slots track free_slot tracks_16 in
              let before = in_all x yard in
              let after = in_all x (freed track yard) in
              omega (arith, now_free, before, after, orderly.at_most_once x);
          none_for_free = λ other still-free.
              ⊎_elim (λ (here : other ≡ track). ap (queue yard) here ∙ none)
              (λ (ne : other ≡ track → ⊥).
              orderly.none_for_free other
              (sym (ap taken (slot_as_before yard.slots track free_slot tracks_16 other ne)) ∙ still-free))
              (eq_or_ne other track);
        }

  -- the first of the queue holds the track
  module _ (first : ℕ) (rest : List ℕ) (waits : queue yard track ≡ first ∷ rest) where
    abbrev next : Slot
    next = Held first

    pub handed_holds : HoldsTrack (handed_to first track yard) track first
    unfolding handed_to
    handed_holds = slot_changed yard.slots track next tracks_16

    entries_left : entries (handed_to first track yard) ≡ removed track (entries yard)
    unfolding handed_to
    entries_left = removed_entries track first rest yard.count yard.waiting (omega (arith, orderly.few, orderly.sized.places)) waits

    pub handed_line : line yard track ≡ tram ∷ line (handed_to first track yard) track
    handed_line =
        line_held yard track tram holds
        ∙ ap (λ (r : List ℕ). tram ∷ r)
        (waits ∙ sym (line_held (handed_to first track yard) track first handed_holds
        ∙ ap (λ (r : List ℕ). first ∷ r) (ap (queue_in track) entries_left ∙ removed_queue track first rest (entries yard) waits)))

    other_queues_stay : (other : ℕ) → (other ≡ track → ⊥) → queue (handed_to first track yard) other ≡ queue yard other
    other_queues_stay other ne = ap (queue_in other) entries_left ∙ removed_other track other (entries yard) ne

    pub handed_others : OtherLinesStay track yard (handed_to first track yard)
    unfolding OtherLinesStay handed_to
    handed_others other ne =
        same_line yard (handed_to first track yard) other (slot_as_before yard.slots track next tracks_16 other ne) (other_queues_stay other ne)

    pub handed_orderly : Orderly (handed_to first track yard)
    unfolding handed_to
    handed_orderly =
        record {
          sized = record { tracks = length-set yard.slots track next ∙ orderly.sized.tracks; places = length_without track yard.waiting ∙ orderly.sized.places };
          few = omega (arith, orderly.few);
          at_most_once = λ x.
              let handed = times_set x yard.slots track next tracks_16 in
              let left = removed_times track first rest x (entries yard) waits in
              let entries_are = ap (λ (ws : List Waiting). times x (trams_in ws)) entries_left in
              let before = in_all x yard in
              let after = in_all x (handed_to first track yard) in
              omega (arith, handed, left, entries_are, before, after, orderly.at_most_once x);
          none_for_free = λ other still-free.
              ⊎_elim
              (λ (here : other ≡ track).
              absurd (false≢true (sym still-free ∙ ap (λ (t : ℕ). is_held (handed_to first track yard) t) here ∙ ap taken handed_holds)))
              (λ (ne : other ≡ track → ⊥).
              other_queues_stay other ne
              ∙ orderly.none_for_free other
              (sym (ap taken (slot_as_before yard.slots track next tracks_16 other ne)) ∙ still-free))
              (eq_or_ne other track);
        }
