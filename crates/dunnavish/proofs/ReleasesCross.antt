-- The contract of a release, for each way out. Assumes nothing.
use Rattle.std.proofs.Common.{◌≡◌, refl, sym, ap, ◌∙◌, List, [], ◌∷◌, ℕ, ◌≤◌, length, get_or, set, Bool, true, false, cond, ◌&&◌, eqb, Ok, Err}
use Rattle.std.proofs.lemmas.Bool.{ne_eqb, cond_both}
use mathlib.Core.Logic.{◌⊎◌}
use Rattle.model.specs.Refusals.{status_of, values_by, Refused}
use Rattle.model.specs.Card.{Code, code_of, track_of}
use Rattle.model.specs.ReadWord.{reading_of}
use Rattle.model.specs.Yard.{most_waiting, number_in, slot_at, queue}
use Rattle.model.specs.ReleaseTrack.{ReleaseAnswer, NotClear, Freed, HandedTo, is_clear, handed_on, released_at, release_answer, release_expected}
use Rattle.model.specs.ReleaseTrack.{release_value, release_values, accepted_release, accepted}
use Rattle.model.specs.declared.Refusal.{Refusal}
use Rattle.model.specs.declared.Release.{Release}
use Rattle.model.specs.declared.Release.TheVariants.{NotClear as TheTramNotClear, Freed as TheTrackFreed, HandedTo as TheTrackHandedTo}
use Rattle.model.specs.declared.Yard.{Yard}
use Rattle.model.specs.declared.Released.{Released}
use Rattle.code_theory.proofs.RefusalRows.{served_if_none, refused_if_some}
use Rattle.yard_theory.specs.Runs.{release, yard_after}
use Rattle.yard_theory.specs.YardPromises.{ReleasePromises}
use Rattle.yard_theory.proofs.OrderlyYards.{Sized, sound_few}
use Rattle.yard_theory.proofs.SizedYards.{sized_after}
use Rattle.depot.proofs.YardContract.{ReleaseMeets}
use Rattle.dunnavish.specs.Crossing.{number_count, wrong_count}
use Rattle.dunnavish.specs.YardNumbers.{yard_count, yard_lent, yard_numbers, yard_left_by, released_left}
use Rattle.dunnavish.proofs.Inherited.{refused_nonzero}
use Rattle.dunnavish.proofs.Lent.{all_stored}
use Rattle.dunnavish.proofs.YardNumbers.{yard_back}
use Rattle.dunnavish.proofs.YardCalls.{YardContract, miscounted, yard_refused, yard_served}
use Rattle.dunnavish.proofs.RequestsCross.{lent_sized}

-- a release's answer and yard
same_released : (r : Released) (answer : ReleaseAnswer) (yard : Yard) → r.answer ≡ answer → r.yard ≡ yard
    → r ≡ record { answer = answer; yard = yard }
same_released r answer yard answer_is yard-is =
    ap (λ (a : ReleaseAnswer). record { answer = a; yard = r.yard }) answer_is
    ∙ ap (λ (y : Yard). record { answer = answer; yard = y }) yard-is

-- a release that is served has a value
handed_on_value : (track : ℕ) (yard : Yard) (waiting : List ℕ) → eqb (length (release_values (handed_on track yard waiting).answer)) 0 ≡ false
unfolding handed_on values_by
handed_on_value track yard [] = refl
handed_on_value track yard (first ∷ others) = refl

released_value : (C : Code) (track : ℕ) (yard : Yard) (position mark : ℕ)
    → eqb (length (release_values (released_at C track yard position mark).answer)) 0 ≡ false
unfolding released_at values_by
released_value C track yard position mark =
    cond_both (is_clear C position mark) _ _ (λ (r : Released). eqb (length (release_values r.answer)) 0 ≡ false)
    (λ _. handed_on_value track yard (queue yard track)) (λ _. refl)

module _ (numbers lent : List ℕ) (tram : ℕ) (word : List ℕ) (mark : ℕ) (card : List ℕ) where
  abbrev yard : Yard
  yard = yard_lent numbers

  abbrev defined : Released
  defined = release_answer yard tram word mark card

  abbrev Promised : Released → Type 0
  Promised = ReleasePromises yard tram word mark card

  -- the yard changes where the release is accepted
  abbrev changed : (s : ℕ) → Bool
  changed s = eqb s 0 && accepted defined.answer

  abbrev ReleaseContract : (s : ℕ) (left after : List ℕ) → Type 0
  ReleaseContract =
      YardContract (status_of defined.answer) (release_values defined.answer) defined.yard (released_left (track_of card)) Promised
      numbers lent changed

  pub release_miscounted : (length numbers ≡ yard_count → ⊥) ⊎ ((length numbers ≡ yard_count) × (length lent ≡ number_count → ⊥))
      → ReleaseContract wrong_count lent numbers
  release_miscounted = miscounted _ _ _ (released_left (track_of card)) Promised numbers lent changed refl

  one_value : eqb (length (release_expected yard word mark card)) 0 ≡ false
  unfolding release_expected
  one_value = released_value (code_of card) (track_of card) yard (reading_of (code_of card) word).position mark

  after_sized : Sized defined.yard
  unfolding yard_after
  after_sized = sized_after yard (lent_sized numbers) (release tram word mark card)

  -- what the library's contract says of its answer
  module _ (whole : length numbers ≡ yard_count) (one : length lent ≡ number_count) (released : Released)
      (ensured : ReleaseMeets yard tram word mark card released) where
    promised : Promised defined
    promised = rw (← ensured.answer) ensured.promises

    answer_is : (answer : ReleaseAnswer) → released.answer ≡ answer → defined.answer ≡ answer
    answer_is answer given = ap (λ (r : Released). r.answer) (sym ensured.answer) ∙ given

    pub few_wait : (done : Release) → released.answer ≡ Ok done → accepted_release done ≡ true → released.yard.count ≤ most_waiting
    unfolding accepted
    few_wait done given is = sound_few released.yard (ensured.promises.sound (ap accepted given ∙ is))

    pub release_refused_crosses : (refusal : Refusal) → released.answer ≡ Err refusal → ReleaseContract refusal.number lent numbers
    unfolding status_of values_by accepted released_left
    release_refused_crosses refusal given =
        let some : refusal.number ≡ 0 → ⊥ =
        refused_nonzero status_of release_values (release_expected yard word mark card) (ensured.values, one_value) given refl in
        let is = answer_is (Err refusal) given in
        yard_refused _ _ _ (released_left (track_of card)) Promised numbers lent changed whole one defined promised refusal.number some
        (rw (ne_eqb refusal.number 0 some)) (ap status_of is)
        (sym
        (same_released defined _ yard (is ∙ sym (refused_if_some refusal.number Refused _ some)) (promised.unchanged (ap accepted is))))

    -- the answer that a value stands for, where the track is held by this tram in the yard that is left
    abbrev answer_for : (value holder : ℕ) → ReleaseAnswer
    answer_for value holder = cond (eqb value 0) NotClear (cond (eqb value 1) Freed (HandedTo holder))

    -- served with this release, by which these numbers are left of the yard
    served_crosses : (done : Release) (after : List ℕ) → released.answer ≡ Ok done
        → after ≡ yard_left_by (accepted_release done) defined.yard numbers → yard_lent after ≡ defined.yard
        → answer_for (release_value done) (number_in (slot_at defined.yard (track_of card))) ≡ Ok done
        → ReleaseContract 0 (set lent 0 (release_value done)) after
    unfolding status_of values_by accepted released_left
    served_crosses done after given left back decodes =
        let value = release_value done in
        let is = answer_is (Ok done) given in
        let stored : set lent 0 value ≡ value ∷ [] = all_stored (value ∷ []) lent one in
        yard_served _ _ _ (released_left (track_of card)) Promised numbers lent changed whole one defined promised (set lent 0 value) after
        (ap status_of is) (stored ∙ sym (ap release_values is)) (rw is left)
        (sym
        (same_released defined _ _
        (is
        ∙ sym (served_if_none 0 Refused _ refl
        ∙ ap (λ (l : List ℕ). answer_for (get_or l 0 0) (number_in (slot_at (yard_lent after) (track_of card)))) stored
        ∙ ap (λ (y : Yard). answer_for value (number_in (slot_at y (track_of card)))) back ∙ decodes))
        (sym back)))

    not_clear_crosses : released.answer ≡ NotClear → ReleaseContract 0 (set lent 0 0) numbers
    unfolding release_value accepted accepted_release yard_left_by
    not_clear_crosses given =
        served_crosses TheTramNotClear numbers given refl (sym (promised.unchanged (ap accepted (answer_is NotClear given)))) refl

    -- the numbers of the yard that is left
    put_yard : yard_numbers released.yard ≡ yard_numbers defined.yard
    put_yard = ap (λ (r : Released). yard_numbers r.yard) ensured.answer

    put_back : yard_lent (yard_numbers released.yard) ≡ defined.yard
    put_back = ap yard_lent put_yard ∙ yard_back defined.yard after_sized

    freed_crosses : released.answer ≡ Freed → ReleaseContract 0 (set lent 0 1) (yard_numbers released.yard)
    unfolding release_value accepted_release yard_left_by
    freed_crosses given = served_crosses TheTrackFreed (yard_numbers released.yard) given put_yard put_back refl

    handed_crosses : (first : ℕ) → released.answer ≡ HandedTo first → ReleaseContract 0 (set lent 0 2) (yard_numbers released.yard)
    unfolding release_value accepted_release yard_left_by
    handed_crosses first given =
        served_crosses (TheTrackHandedTo first) (yard_numbers released.yard) given put_yard put_back
        (ap (λ (tram : ℕ). HandedTo tram) (ap number_in (promised.handed first (answer_is (HandedTo first) given))))

    -- the yard is put down where the release is accepted
    pub release_served_crosses : (done : Release) → released.answer ≡ Ok done → (after : List ℕ)
        → after ≡ cond (accepted_release done) (yard_numbers released.yard) numbers
        → ReleaseContract 0 (set lent 0 (release_value done)) after
    unfolding release_value accepted_release
    release_served_crosses TheTramNotClear given after is = rw is (not_clear_crosses given)
    release_served_crosses TheTrackFreed given after is = rw is (freed_crosses given)
    release_served_crosses (TheTrackHandedTo first) given after is = rw is (handed_crosses first given)
