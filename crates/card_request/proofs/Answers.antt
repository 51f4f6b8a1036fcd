-- The answer to a request: its status and values are those of the table and of the card, and a card that is made is the one of document
-- 02, P1. Assumes nothing.
use Rattle.std.proofs.Common.{◌≡◌, refl, true, List, ℕ, ◌≤◌, Result, arith}
use Rattle.std.proofs.lemmas.Bool.Decides.{nat_tests}
use Rattle.std.specs.Prelude.{IfOk}
use Rattle.model.specs.Refusals.{first_refusal, if_served}
use Rattle.reed_muller_theory.specs.MadeCards.{IsReedMullerCard}
use Rattle.reed_muller_theory.proofs.MadeCards.{is_reed_muller_card}
use Rattle.card_request.specs.declared.RequestRefusal.{RequestRefusal}
use Rattle.card_request.specs.Request.{number_in, is_number, greatest_track, refusal_number}
use Rattle.card_request.specs.Request.{request_refusal, request_card, request_answer, request_status, request_values}

-- the status
module _ (track r m : List ℕ) where
  status_is : request_status (request_answer track r m) ≡ request_refusal track r m
  unfolding request_answer request_refusal request_status refusal_number first_refusal
  status_is = grind (arith, nat_tests)

  values_are : request_values (request_answer track r m) ≡ if_served (request_status (request_answer track r m)) (request_card track r m)
  unfolding request_answer request_values request_status refusal_number if_served
  values_are = grind (arith, nat_tests)

  fits : is_number greatest_track track ≡ true → number_in track ≤ greatest_track
  unfolding is_number
  fits e = grind (arith, nat_tests)

  pub made_card : IfOk (request_answer track r m) (λ card. IsReedMullerCard (number_in track) (number_in r) (number_in m) card)
  unfolding request_answer
  made_card = grind (arith, nat_tests, fits, is_reed_muller_card)

  -- what the contract says of the answer
  abbrev Meets : Result (List ℕ) RequestRefusal → Type 0
  Meets a =
      record {
        answer : a ≡ request_answer track r m;
        status : request_status a ≡ request_refusal track r m;
        values : request_values a ≡ if_served (request_status a) (request_card track r m);
        made : IfOk a (λ card. IsReedMullerCard (number_in track) (number_in r) (number_in m) card);
      }

  pub meets : {a : Result (List ℕ) RequestRefusal} → a ≡ request_answer track r m → Meets a
  meets e = rw e (record { answer = refl; status = status_is; values = values_are; made = made_card })
