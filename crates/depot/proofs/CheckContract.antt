-- What a check of a card answers, from what decoding the card gave: a refusal as it stands, and of a sound card its summary. The answer is the
-- one that the definition gives, of which the clauses of the contract are theorems. Assumes nothing.
use mathlib.Core.Path.{◌≡◌, refl, sym}
use mathlib.Core.List.{List}
use Prim.Native.Nat.{ℕ}
use Rattle.std.specs.Prelude.{Ok, Err}
use Rattle.model.specs.Refusals.{Refused, status_of, if_served}
use Rattle.model.specs.Card.{card_refusal, radius}
use Rattle.model.specs.Decoded.{meaning}
use Rattle.model.specs.Order.{last_position}
use Rattle.model.specs.Words.{word_bits}
use Rattle.model.specs.CheckCard.{CardAnswer, summary_of, summary_values, card_answer, card_values, card_expected}
use Rattle.model.specs.declared.DecodedCard.{DecodedCard}
use Rattle.model.specs.declared.Refusal.{Refusal}
use Rattle.code_theory.specs.Offsets.{CheckPromises}
use Rattle.code_theory.proofs.Offsets.{check_promises}
use Rattle.code_theory.proofs.RefusalRows.{served_if_none, refused_if_some, status_and_values_alone}
use Rattle.card_reader.specs.DecodedFrom.{DecodedCardOf}
use Rattle.code_theory.specs.Promise.{RefusalOf}

module _ (card : List ℕ) where
  pub card_refused : (refusal : Refusal) → RefusalOf card refusal → Err refusal ≡ card_answer card
  unfolding card_answer
  card_refused refusal is =
      rw is.number (sym (refused_if_some refusal.number Refused (Ok (summary_of card)) is.not_zero))

  pub card_sound : (decoded : DecodedCard) → DecodedCardOf card decoded
      → (t bits last : ℕ) → t ≡ radius (meaning decoded.code) → bits ≡ word_bits (meaning decoded.code)
      → last ≡ last_position (meaning decoded.code)
      → Ok (record {
        n = decoded.code.n;
        k = decoded.code.k;
        track = decoded.track;
        distance = decoded.code.distance;
        radius = t;
        bits = bits;
        last = last;
      }) ≡ card_answer card
  unfolding card_answer summary_of
  card_sound decoded from t bits last is-radius is-bits is_last =
      rw (served_if_none (card_refusal card) Refused (Ok (summary_of card)) from.sound_card, ← from.code, ← from.track, is-radius, is-bits, is_last)

  -- the contract, and that the definition's answer meets it
  abbrev CheckMeets : CardAnswer → Type 0
  CheckMeets a =
      record {
        answer : a ≡ card_answer card;
        status : status_of a ≡ card_refusal card;
        values : card_values a ≡ if_served (status_of a) (card_expected card);
        promises : CheckPromises card a;
      }

  pub card_checked : {answer : CardAnswer} → answer ≡ card_answer card → CheckMeets answer
  unfolding card_answer card_expected summary_of
  card_checked e =
      let (status, values) = status_and_values_alone summary_values (card_refusal card) (summary_of card) in
      rw e (record { answer = refl; status = status; values = values; promises = check_promises card })
