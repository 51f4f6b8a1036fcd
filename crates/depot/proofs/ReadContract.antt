-- What a read answers: the card's refusal, or what the reading of the word answers on the code of a sound card. The answer is the one that the
-- definition gives, of which the clauses of the contract are theorems. Assumes nothing.
use mathlib.Core.Path.{◌≡◌, refl, sym, ap, ◌∙◌}
use mathlib.Core.List.{List}
use Prim.Native.Nat.{ℕ}
use Rattle.std.specs.Prelude.{Err}
use Rattle.model.specs.Refusals.{status_of, if_served}
use Rattle.model.specs.Card.{Code, code_of}
use Rattle.model.specs.Decoded.{meaning}
use Rattle.model.specs.Reading.{reading_values}
use Rattle.model.specs.ReadWord.{ReadAnswer, reading_of, read_word, read_refusal, read_answer, read_values, read_expected}
use Rattle.model.specs.declared.DecodedCard.{DecodedCard}
use Rattle.model.specs.declared.Refusal.{Refusal}
use Rattle.code_theory.proofs.RefusalRows.{err_by_card, status_and_values_alone}
use Rattle.card_reader.specs.DecodedFrom.{DecodedCardOf}
use Rattle.position_theory.specs.ReadPromises.{OffByAtMostTwiceDamaged, OffByAtMostDamagedAndResidual, ReadPromises}
use Rattle.position_theory.proofs.ReadPromises.{off_by_at_most_twice_damaged, off_by_at_most_damaged_and_residual, read_promises}
use Rattle.position_theory.proofs.SoundCards.{read_sound}
use Rattle.code_theory.specs.Promise.{RefusalOf}

module _ (card received : List ℕ) where
  pub read_by_card : (refusal : Refusal) → RefusalOf card refusal → Err refusal ≡ read_answer card received
  unfolding read_answer read_refusal
  read_by_card refusal is = err_by_card card refusal _ _ is

  pub word_read : (decoded : DecodedCard) → DecodedCardOf card decoded → read_word (meaning decoded.code) received ≡ read_answer card received
  word_read decoded from =
      ap (λ (C : Code). read_word C received) from.code ∙ sym (read_sound card received from.sound_card)

  -- the contract, and that the definition's answer meets it
  abbrev ReadMeets : ReadAnswer → Type 0
  ReadMeets a =
      record {
        answer : a ≡ read_answer card received;
        status : status_of a ≡ read_refusal card received;
        values : read_values a ≡ if_served (status_of a) (read_expected card received);
        bounded : OffByAtMostTwiceDamaged card received a;
        sharper : OffByAtMostDamagedAndResidual card received a;
        promises : ReadPromises card received a;
      }

  pub read_answered : {answer : ReadAnswer} → answer ≡ read_answer card received → ReadMeets answer
  unfolding read_answer read_expected
  read_answered e =
      let (status, values) =
      status_and_values_alone reading_values (read_refusal card received) (reading_of (code_of card) received) in
      rw e
      (record {
        answer = refl;
        status = status;
        values = values;
        bounded = off_by_at_most_twice_damaged card received;
        sharper = off_by_at_most_damaged_and_residual card received;
        promises = read_promises card received;
      })
