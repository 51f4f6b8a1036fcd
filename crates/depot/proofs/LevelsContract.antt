-- What a read of levels answers: the card's refusal, or what the reading of the levels answers on the code of a sound card. The answer is the
-- one that the definition gives, of which the clauses of the contract are theorems. Assumes nothing.
use mathlib.Core.Path.{◌≡◌, refl, sym, ap, ◌∙◌}
use mathlib.Core.List.{List, [], ◌∷◌}
use Prim.Native.Nat.{ℕ}
use lib.Ieee.{Float}
use Rattle.std.specs.Prelude.{Err}
use Rattle.model.specs.Refusals.{status_of, if_served}
use Rattle.model.specs.Card.{Code, code_of}
use Rattle.model.specs.Decoded.{meaning}
use Rattle.model.specs.Words.{word_bits}
use Rattle.model.specs.Reading.{reading_values}
use Rattle.model.specs.Levels.{received_at, strength_of}
use Rattle.model.specs.ReadLevels.{LevelsAnswer, reading_in_levels, read_levels, levels_answered, levels_answer, levels_refusal, levels_expected}
use Rattle.model.specs.ReadLevels.{strength_expected, position_answer, levels_values, strength_values}
use Rattle.model.specs.declared.DecodedCard.{DecodedCard}
use Rattle.model.specs.declared.LevelsReading.{LevelsReading}
use Rattle.model.specs.declared.Refusal.{Refusal}
use Rattle.code_theory.proofs.RefusalRows.{err_by_card, status_and_values_alone}
use Rattle.card_reader.specs.DecodedFrom.{DecodedCardOf}
use Rattle.level_theory.specs.LevelPromises.{OffByAtMostTwiceWrongAndErased, LevelPromises}
use Rattle.level_theory.proofs.LevelsAnswered.{position_answered, levels_sound}
use Rattle.level_theory.proofs.LevelPromises.{off_by_at_most_twice_wrong_and_erased, level_promises}
use Rattle.code_theory.specs.Promise.{RefusalOf}

module _ (card : List ℕ) (levels : List Float) where
  pub levels_by_card : (refusal : Refusal) → RefusalOf card refusal → Err refusal ≡ levels_answer card levels
  unfolding levels_answer levels_answered levels_refusal
  levels_by_card refusal is = err_by_card card refusal _ _ is

  pub levels_read : (decoded : DecodedCard) → DecodedCardOf card decoded → read_levels (meaning decoded.code) levels ≡ levels_answer card levels
  levels_read decoded from =
      ap (λ (C : Code). read_levels C levels) from.code ∙ sym (levels_sound card levels from.sound_card)

  -- the contract, and that the definition's answer meets it
  abbrev LevelsMeet : LevelsAnswer → Type 0
  LevelsMeet a =
      record {
        answer : a ≡ levels_answer card levels;
        status : status_of a ≡ levels_refusal card levels;
        values : levels_values a ≡ if_served (status_of a) (levels_expected card levels);
        strength : strength_values a ≡ if_served (status_of a) (strength_expected card levels);
        bounded : OffByAtMostTwiceWrongAndErased card levels (position_answer a);
        promises : LevelPromises card levels (position_answer a);
      }

  -- what is served: the reading, and the strength of all levels
  abbrev served : LevelsReading
  served =
      record {
        reading = reading_in_levels (code_of card) (received_at levels);
        strength = strength_of (received_at levels) (word_bits (code_of card));
      }

  pub levels_answered_lem : {answer : LevelsAnswer} → answer ≡ levels_answer card levels → LevelsMeet answer
  unfolding levels_answer levels_answered levels_expected strength_expected
  levels_answered_lem e =
      let (same, values) = status_and_values_alone reading_values (levels_refusal card levels) served.reading in
      let (status, strength) =
      status_and_values_alone (λ (read : LevelsReading). read.strength.sum ∷ read.strength.greatest ∷ []) (levels_refusal card levels) served in
      rw e
      (record {
        answer = refl;
        status = status;
        values =
            rw (position_answered (code_of card) levels (levels_refusal card levels))
            (values ∙ ap (λ (s : ℕ). if_served s (levels_expected card levels)) (same ∙ sym status));
        strength = strength;
        bounded = off_by_at_most_twice_wrong_and_erased card levels;
        promises = level_promises card levels;
      })
