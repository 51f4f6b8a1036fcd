-- The contract of a request, for each way out. Assumes nothing.
use Rattle.std.proofs.Common.{◌≡◌, refl, sym, ap, ◌∙◌, List, [], ◌∷◌, ℕ, ◌≤◌, length, get_or, set, cond, eqb, false, Ok, Err}
use Rattle.std.proofs.lemmas.Bool.{ne_eqb, cond_both}
use mathlib.Core.Logic.{◌⊎◌}
use Rattle.bits.proofs.Places.{length_list_of}
use Rattle.model.specs.Refusals.{status_of, values_by, Refused}
use Rattle.model.specs.Yard.{track_count, most_waiting, is_held}
use Rattle.model.specs.RequestTrack.{RequestAnswer, Holds, Waits, request_served, request_answer, request_expected, request_value, request_values}
use Rattle.model.specs.declared.Refusal.{Refusal}
use Rattle.model.specs.declared.Request.{Request}
use Rattle.model.specs.declared.Request.TheVariants.{Holds as TheTramHolds, Waits as TheTramWaits}
use Rattle.model.specs.declared.Yard.{Yard}
use Rattle.model.specs.declared.Requested.{Requested}
use Rattle.code_theory.proofs.RefusalRows.{served_if_none, refused_if_some}
use Rattle.yard_theory.specs.Runs.{request, yard_after}
use Rattle.yard_theory.specs.YardPromises.{RequestPromises}
use Rattle.yard_theory.proofs.OrderlyYards.{Sized, sound_few}
use Rattle.yard_theory.proofs.SizedYards.{sized_after}
use Rattle.depot.proofs.YardContract.{RequestMeets}
use Rattle.dunnavish.specs.Crossing.{number_count, wrong_count}
use Rattle.dunnavish.specs.YardNumbers.{yard_count, yard_lent, yard_numbers, yard_left_by, requested_left}
use Rattle.dunnavish.proofs.Inherited.{refused_nonzero}
use Rattle.dunnavish.proofs.Lent.{all_stored}
use Rattle.dunnavish.proofs.YardNumbers.{yard_back}
use Rattle.dunnavish.proofs.YardCalls.{YardContract, miscounted, yard_refused, yard_served}

-- a lent yard is one as the type has it
pub lent_sized : (numbers : List ℕ) → Sized (yard_lent numbers)
unfolding yard_lent
lent_sized numbers = record { tracks = length_list_of track_count _; places = length_list_of most_waiting _ }

-- a request's answer and yard
same_requested : (r : Requested) (answer : RequestAnswer) (yard : Yard) → r.answer ≡ answer → r.yard ≡ yard
    → r ≡ record { answer = answer; yard = yard }
same_requested r answer yard answer_is yard-is =
    ap (λ (a : RequestAnswer). record { answer = a; yard = r.yard }) answer_is
    ∙ ap (λ (y : Yard). record { answer = answer; yard = y }) yard-is

module _ (numbers lent : List ℕ) (tram track : ℕ) where
  abbrev yard : Yard
  yard = yard_lent numbers

  abbrev defined : Requested
  defined = request_answer yard tram track

  abbrev RequestContract : (s : ℕ) (left after : List ℕ) → Type 0
  RequestContract =
      YardContract (status_of defined.answer) (request_values defined.answer) defined.yard requested_left
      (RequestPromises yard tram track) numbers lent (λ s. eqb s 0)

  pub request_miscounted : (length numbers ≡ yard_count → ⊥) ⊎ ((length numbers ≡ yard_count) × (length lent ≡ number_count → ⊥))
      → RequestContract wrong_count lent numbers
  request_miscounted = miscounted _ _ _ requested_left (RequestPromises yard tram track) numbers lent (λ s. eqb s 0) refl

  one_value : eqb (length (request_expected yard tram track)) 0 ≡ false
  unfolding request_expected request_served values_by
  one_value =
      cond_both (is_held yard track) _ _ (λ (r : Requested). eqb (length (request_values r.answer)) 0 ≡ false) (λ _. refl) (λ _. refl)

  after_sized : Sized defined.yard
  unfolding yard_after
  after_sized = sized_after yard (lent_sized numbers) (request tram track)

  -- what the library's contract says of its answer
  module _ (whole : length numbers ≡ yard_count) (one : length lent ≡ number_count) (requested : Requested)
      (ensured : RequestMeets yard tram track requested) where
    promised : RequestPromises yard tram track defined
    promised = rw (← ensured.answer) ensured.promises

    answer_is : (answer : RequestAnswer) → requested.answer ≡ answer → defined.answer ≡ answer
    answer_is answer given = ap (λ (r : Requested). r.answer) (sym ensured.answer) ∙ given

    pub few_wait : (done : Request) → requested.answer ≡ Ok done → requested.yard.count ≤ most_waiting
    unfolding status_of
    few_wait done served = sound_few requested.yard (ensured.promises.sound (ap status_of served))

    pub request_refused_crosses : (refusal : Refusal) → requested.answer ≡ Err refusal → RequestContract refusal.number lent numbers
    unfolding status_of values_by requested_left
    request_refused_crosses refusal given =
        let some : refusal.number ≡ 0 → ⊥ =
        refused_nonzero status_of request_values (request_expected yard tram track) (ensured.values, one_value) given refl in
        let is = answer_is (Err refusal) given in
        yard_refused _ _ _ requested_left (RequestPromises yard tram track) numbers lent (λ s. eqb s 0) whole one defined promised
        refusal.number some (ne_eqb refusal.number 0 some) (ap status_of is)
        (sym
        (same_requested defined _ yard (is ∙ sym (refused_if_some refusal.number Refused _ some))
        (promised.unchanged (λ zero. some (sym (ap status_of is) ∙ zero)))))

    decoded_back : (done : Request) → cond (eqb (request_value done) 0) Holds Waits ≡ Ok done
    unfolding request_value
    decoded_back TheTramHolds = refl
    decoded_back TheTramWaits = refl

    pub request_served_crosses : (done : Request) → requested.answer ≡ Ok done
        → RequestContract 0 (set lent 0 (request_value done)) (yard_numbers requested.yard)
    unfolding status_of values_by requested_left yard_left_by
    request_served_crosses done given =
        let value = request_value done in
        let is = answer_is (Ok done) given in
        let stored : set lent 0 value ≡ value ∷ [] = all_stored (value ∷ []) lent one in
        yard_served _ _ _ requested_left (RequestPromises yard tram track) numbers lent (λ s. eqb s 0) whole one defined promised
        (set lent 0 value) (yard_numbers requested.yard)
        (ap status_of is) (stored ∙ sym (ap request_values is)) (rw ensured.answer refl)
        (sym
        (same_requested defined _ _
        (is
        ∙ sym (served_if_none 0 Refused _ refl ∙ ap (λ (l : List ℕ). cond (eqb (get_or l 0 0) 0) Holds Waits) stored ∙ decoded_back done))
        (rw ensured.answer (sym (yard_back defined.yard after_sized)))))
