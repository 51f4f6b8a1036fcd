-- The 97 numbers of a yard, part by part; and that the yard which they stand for is that yard. Assumes nothing.
use mathlib.Core.Path.{◌≡◌, refl, sym, ap, ◌∙◌}
use mathlib.Core.Bool.{cond}
use mathlib.Core.List.{List}
use mathlib.Core.Logic.{⊎_elim}
use Prim.Native.Nat.{ℕ, ◌+◌, ◌-◌, ◌≤◌, ◌<◌}
use native.Mathlib.Omega.{arith}
use borrow.Author.Tests.{lt-ltb, le-ltb}
use lib.Dec.{eqb}
use lib.ListN.{length, get_or}
use Rattle.bits.proofs.Numbers.{lt_or_le, zero_or_one, by_test}
use Rattle.bits.proofs.Places.{get_or_list_of}
use Rattle.bits.proofs.FilledLists.{is_list_of}
use Rattle.model.specs.Yard.{track_count, most_waiting, free_slot, no_entry, taken, number_in, slot_at}
use Rattle.model.specs.declared.Slot.{Slot}
use Rattle.model.specs.declared.Slot.TheVariants.{Free, Held}
use Rattle.model.specs.declared.Waiting.{Waiting}
use Rattle.model.specs.declared.Yard.{Yard}
use Rattle.yard_theory.proofs.OrderlyYards.{Sized}
use Rattle.dunnavish.specs.YardNumbers.{yard_count, holders_at, count_at, trams_at, tracks_at, slot_lent, entry_lent, yard_lent, number_at, yard_numbers}

module _ (yard : Yard) (place : ℕ) where
  -- ---- the number at a place, by the part that the place lies in

  pub flag_number : place < holders_at → cond (taken (slot_at yard place)) 1 0 ≡ number_at yard place
  unfolding number_at
  flag_number below = rw (lt-ltb place holders_at below)

  module _ (past_flags : holders_at ≤ place) where
    pub holder_number : place < count_at → number_in (slot_at yard (place - holders_at)) ≡ number_at yard place
    unfolding number_at
    holder_number below = rw (le-ltb place holders_at past_flags, lt-ltb place count_at below)

    module _ (past_holders : count_at ≤ place) where
      pub count_number : place < trams_at → yard.count ≡ number_at yard place
      unfolding number_at
      count_number below = rw (le-ltb place holders_at past_flags, le-ltb place count_at past_holders, lt-ltb place trams_at below)

      module _ (past_count : trams_at ≤ place) where
        pub tram_number : place < tracks_at → (get_or yard.waiting (place - trams_at) no_entry).tram ≡ number_at yard place
        unfolding number_at
        tram_number below =
            rw (le-ltb place holders_at past_flags, le-ltb place count_at past_holders, le-ltb place trams_at past_count, lt-ltb place tracks_at below)

        pub track_number : tracks_at ≤ place → (get_or yard.waiting (place - tracks_at) no_entry).track ≡ number_at yard place
        unfolding number_at
        track_number past =
            rw (le-ltb place holders_at past_flags, le-ltb place count_at past_holders, le-ltb place trams_at past_count, le-ltb place tracks_at past)

-- ---- the yard back from its numbers

slot_from : (s : Slot) → cond (eqb (cond (taken s) 1 0) 0) (Free (number_in s)) (Held (number_in s)) ≡ s
slot_from (Free number) = refl
slot_from (Held tram) = refl

module _ (yard : Yard) where
  number_of : (place : ℕ) → place < yard_count → get_or (yard_numbers yard) place 0 ≡ number_at yard place
  unfolding yard_numbers
  number_of place below = get_or_list_of yard_count (number_at yard) 0 place below

  slot_back : (track : ℕ) → track < track_count → slot_at yard track ≡ slot_lent (yard_numbers yard) track
  slot_back track below =
      let back : holders_at + track - holders_at ≡ track = omega arith in
      let flag = number_of track (omega (arith, below)) ∙ sym (flag_number yard track below) in
      let holder =
      number_of (holders_at + track) (omega (arith, below))
      ∙ sym (holder_number yard (holders_at + track) (omega arith) (omega (arith, below))) in
      rw (flag, holder, back) (sym (slot_from (slot_at yard track)))

  entry_back : (i : ℕ) → i < most_waiting → get_or yard.waiting i no_entry ≡ entry_lent (yard_numbers yard) i
  entry_back i below =
      let tram_back : trams_at + i - trams_at ≡ i = omega arith in
      let track_back : tracks_at + i - tracks_at ≡ i = omega arith in
      let tram =
      number_of (trams_at + i) (omega (arith, below))
      ∙ sym (tram_number yard (trams_at + i) (omega arith) (omega arith) (omega arith) (omega (arith, below))) in
      let track =
      number_of (tracks_at + i) (omega (arith, below))
      ∙ sym (track_number yard (tracks_at + i) (omega arith) (omega arith) (omega arith) (omega arith)) in
      rw (tram, track, tram_back, track_back)

  pub yard_back : Sized yard → yard_lent (yard_numbers yard) ≡ yard
  unfolding yard_lent
  yard_back sized =
      let slots = is_list_of free_slot track_count (slot_lent (yard_numbers yard)) yard.slots sized.tracks slot_back in
      let entries = is_list_of no_entry most_waiting (entry_lent (yard_numbers yard)) yard.waiting sized.places entry_back in
      let count =
      number_of count_at (omega arith) ∙ sym (count_number yard count_at (omega arith) (omega arith) (omega arith)) in
      rw (← slots, ← entries, count)

-- ---- the numbers back from the yard that they stand for, whose flags are 0 and 1

flag_kept : (flag number : ℕ) → flag < 2 → cond (taken (cond (eqb flag 0) (Free number) (Held number))) 1 0 ≡ flag
flag_kept flag number bit = ⊎_elim (λ (is : flag ≡ 0). rw is) (λ (is : flag ≡ 1). rw is) (zero_or_one flag bit)

number_kept : (flag number : ℕ) → number_in (cond (eqb flag 0) (Free number) (Held number)) ≡ number
number_kept flag number = by_test (λ (s : Slot). number_in s ≡ number) (eqb flag 0) (λ _. refl) (λ _. refl)

module _ (numbers : List ℕ) where
  slot_lent_lem : (track : ℕ) → track < track_count → slot_at (yard_lent numbers) track ≡ slot_lent numbers track
  unfolding yard_lent
  slot_lent_lem track below = get_or_list_of track_count (slot_lent numbers) free_slot track below

  entry_lent_lem : (i : ℕ) → i < most_waiting → get_or (yard_lent numbers).waiting i no_entry ≡ entry_lent numbers i
  unfolding yard_lent
  entry_lent_lem i below = get_or_list_of most_waiting (entry_lent numbers) no_entry i below

  -- a number past the flags, by the part that its place lies in
  past_flags : (place : ℕ) → holders_at ≤ place → place < yard_count → number_at (yard_lent numbers) place ≡ get_or numbers place 0
  unfolding yard_lent
  past_flags place past below =
      ⊎_elim
      (λ (holder : place < count_at).
      let at : holders_at + (place - holders_at) ≡ place = omega (arith, past) in
      sym (holder_number (yard_lent numbers) place past holder)
      ∙ ap number_in (slot_lent_lem (place - holders_at) (omega (arith, past, holder))) ∙ number_kept _ _ ∙ ap (λ (k : ℕ). get_or numbers k 0) at)
      (λ (past_holders : count_at ≤ place).
      ⊎_elim
      (λ (count : place < trams_at).
      let at : count_at ≡ place = omega (arith, past_holders, count) in
      sym (count_number (yard_lent numbers) place past past_holders count) ∙ ap (λ (k : ℕ). get_or numbers k 0) at)
      (λ (past_count : trams_at ≤ place).
      ⊎_elim
      (λ (tram : place < tracks_at).
      let at : trams_at + (place - trams_at) ≡ place = omega (arith, past_count) in
      sym (tram_number (yard_lent numbers) place past past_holders past_count tram)
      ∙ ap (λ (w : Waiting). w.tram) (entry_lent_lem (place - trams_at) (omega (arith, past_count, tram))) ∙ ap (λ (k : ℕ). get_or numbers k 0) at)
      (λ (track : tracks_at ≤ place).
      let at : tracks_at + (place - tracks_at) ≡ place = omega (arith, track) in
      sym (track_number (yard_lent numbers) place past past_holders past_count track)
      ∙ ap (λ (w : Waiting). w.track) (entry_lent_lem (place - tracks_at) (omega (arith, track, below))) ∙ ap (λ (k : ℕ). get_or numbers k 0) at)
      (lt_or_le place tracks_at))
      (lt_or_le place trams_at))
      (lt_or_le place count_at)

  pub numbers_back : length numbers ≡ yard_count → ((track : ℕ) → track < track_count → get_or numbers track 0 < 2)
      → yard_numbers (yard_lent numbers) ≡ numbers
  unfolding yard_numbers
  numbers_back size flags =
      sym
      (is_list_of 0 yard_count (number_at (yard_lent numbers)) numbers size
      (λ place below.
      ⊎_elim
      (λ (flag : place < holders_at).
      sym
      (sym (flag_number (yard_lent numbers) place flag) ∙ ap (λ (s : Slot). cond (taken s) 1 0) (slot_lent_lem place flag)
      ∙ flag_kept (get_or numbers place 0) _ (flags place flag)))
      (λ (past : holders_at ≤ place). sym (past_flags place past below))
      (lt_or_le place holders_at)))
