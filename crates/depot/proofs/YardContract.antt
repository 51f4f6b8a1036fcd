-- What the calls on the yard answer: the answer is the one that the definition gives, of which the clauses of the contract are theorems; and
-- the definition of a release answers by the card's refusal, or on the code and the track of a sound card. Assumes nothing.
use Rattle.std.proofs.Common.{◌≡◌, refl, ◌∙◌, ap, List, ℕ, Err}
use Rattle.model.specs.Refusals.{Refused, status_of, values_by, if_served}
use Rattle.model.specs.Decoded.{meaning}
use Rattle.model.specs.Card.{code_of, track_of}
use Rattle.model.specs.ReadWord.{reading_of}
use Rattle.model.specs.RequestTrack.{request_refusal, request_served, request_answer, request_expected, request_values}
use Rattle.model.specs.ReleaseTrack.{release_refusal, release_on, release_answer, release_expected, release_values}
use Rattle.model.specs.declared.Refusal.{Refusal}
use Rattle.model.specs.declared.Yard.{Yard}
use Rattle.model.specs.declared.Requested.{Requested}
use Rattle.model.specs.declared.Released.{Released}
use Rattle.model.specs.declared.DecodedCard.{DecodedCard}
use Rattle.code_theory.proofs.RefusalRows.{status_and_values}
use Rattle.code_theory.specs.Promise.{RefusalOf}
use Rattle.yard_theory.specs.YardPromises.{RequestPromises, ReleasePromises}
use Rattle.yard_theory.proofs.OrderlyYards.{Sized}
use Rattle.yard_theory.proofs.RequestPromises.{request_promises}
use Rattle.yard_theory.proofs.ReleasePromises.{release_promises}
use Rattle.yard_theory.proofs.ReleaseStatus.{request_served_status, released_status, released_by_word, by_one_refusal, release_sound, release_by_card}
use Rattle.card_reader.specs.DecodedFrom.{DecodedCardOf}
use Rattle.depot.proofs.Contracts.{met}

-- ---- a request

module _ (yard : Yard) (tram track : ℕ) where
  abbrev pub RequestMeets : Requested → Type 0
  RequestMeets r =
      record {
        answer : r ≡ request_answer yard tram track;
        status : status_of r.answer ≡ request_refusal yard tram track;
        values : request_values r.answer ≡ if_served (status_of r.answer) (request_expected yard tram track);
        promises : RequestPromises yard tram track r;
      }

  pub request_answered : Sized yard → {r : Requested} → r ≡ request_answer yard tram track → RequestMeets r
  unfolding request_answer request_expected status_of values_by
  request_answered sized e =
      let (status, values) =
      status_and_values (λ (r : Requested). status_of r.answer) (λ r. request_values r.answer) (request_refusal yard tram track)
      (request_expected yard tram track) (λ number. record { answer = Refused number; yard = yard }) (request_served yard tram track)
      (λ number. refl) (λ number. refl) (request_served_status yard tram track) refl in
      (met RequestMeets (record { answer = refl; status = status; values = values; promises = request_promises yard tram track sized }) e).1

-- ---- a release

module _ (yard : Yard) (tram : ℕ) (word : List ℕ) (mark : ℕ) (card : List ℕ) where
  abbrev pub ReleaseMeets : Released → Type 0
  ReleaseMeets r =
      record {
        answer : r ≡ release_answer yard tram word mark card;
        status : status_of r.answer ≡ release_refusal yard tram word card;
        values : release_values r.answer ≡ if_served (status_of r.answer) (release_expected yard word mark card);
        promises : ReleasePromises yard tram word mark card r;
      }

  pub release_answered : Sized yard → {r : Released} → r ≡ release_answer yard tram word mark card → ReleaseMeets r
  unfolding release_expected status_of values_by
  release_answered sized e =
      let (status, values) =
      status_and_values (λ (r : Released). status_of r.answer) (λ r. release_values r.answer) (release_refusal yard tram word card)
      (release_expected yard word mark card) (λ number. record { answer = Refused number; yard = yard })
      (released_by_word yard tram word mark card) (λ number. refl) (λ number. refl)
      (released_status (code_of card) (track_of card) yard (reading_of (code_of card) word).position mark) refl in
      let meets : ReleaseMeets (release_answer yard tram word mark card) =
      record {
        answer = refl;
        status = ap (λ (r : Released). status_of r.answer) (by_one_refusal yard tram word mark card) ∙ status;
        values = rw (by_one_refusal yard tram word mark card) values;
        promises = release_promises yard tram word mark card sized;
      } in
      (met ReleaseMeets meets e).1

  pub release_by_refused_card : (refusal : Refusal) → RefusalOf card refusal
      → ◌≡◌ {A = Released} (record { answer = Err refusal; yard = yard }) (release_answer yard tram word mark card)
  release_by_refused_card refusal is =
      rw (release_by_card yard tram word mark card (rw is.number is.not_zero), is.number)

  pub release_on_card : (decoded : DecodedCard) → DecodedCardOf card decoded → (r : Released)
      → r ≡ release_on (meaning decoded.code) decoded.track yard tram word mark → r ≡ release_answer yard tram word mark card
  release_on_card decoded from r is =
      rw (release_sound yard tram word mark card from.sound_card, ← from.code, ← from.track) is
