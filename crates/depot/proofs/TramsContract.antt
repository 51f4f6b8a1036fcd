-- What the searches among trams answer: the card's refusal, or what the search answers on the code of a sound card. The answer is the one
-- that the definition gives, of which the clauses of the contract are theorems. The two that say yes or no of each tram have one law,
-- whatever their test. Assumes nothing.
use mathlib.Core.Path.{◌≡◌, refl, sym, ap, ◌∙◌}
use mathlib.Core.Bool.{Bool}
use mathlib.Core.List.{List, [], ◌∷◌}
use Prim.Native.Nat.{ℕ}
use Rattle.std.specs.Prelude.{Option, Err}
use Rattle.model.specs.Refusals.{status_of, if_served}
use Rattle.model.specs.Card.{Code, code_of}
use Rattle.model.specs.Decoded.{meaning}
use Rattle.model.specs.Trams.{Trams, TramsAnswer, trams_refusal, each_tram_on, each_tram_answer}
use Rattle.model.specs.NearestTram.{NearestAnswer, nearest_among, nearest_on, nearest_refusal, nearest_answer, place_value}
use Rattle.model.specs.NearestTram.{nearest_values, nearest_expected}
use Rattle.model.specs.declared.DecodedCard.{DecodedCard}
use Rattle.model.specs.declared.Refusal.{Refusal}
use Rattle.model.specs.declared.Stretch.{Stretch}
use Rattle.code_theory.specs.Promise.{RefusalOf}
use Rattle.code_theory.proofs.RefusalRows.{err_by_card, status_and_values_alone}
use Rattle.tram_theory.specs.TramPromises.{NearestPromises}
use Rattle.tram_theory.proofs.ServedTrams.{each_status, each_sound}
use Rattle.tram_theory.proofs.TramPromises.{nearest_promises, nearest_sound}
use Rattle.card_reader.specs.DecodedFrom.{DecodedCardOf}

-- ---- yes or no for each tram

module _ (test : Stretch → Bool) (card : List ℕ) (trams : Trams) (first second : ℕ) where
  pub each_asked : (decoded : DecodedCard) → DecodedCardOf card decoded
      → each_tram_on test (meaning decoded.code) trams first second ≡ each_tram_answer test card trams first second
  each_asked decoded from =
      ap (λ (C : Code). each_tram_on test C trams first second) from.code
      ∙ sym (each_sound test card trams first second from.sound_card)

  -- the contract, and that the definition's answer meets it
  module _ (Promise : TramsAnswer → Type 0) (promised : Promise (each_tram_answer test card trams first second)) where
    abbrev EachMeets : TramsAnswer → Type 0
    EachMeets given =
        record {
          answer : given ≡ each_tram_answer test card trams first second;
          status : status_of given ≡ trams_refusal card trams first second;
          promises : Promise given;
        }

    pub each_answered : {answer : TramsAnswer} → answer ≡ each_tram_answer test card trams first second → EachMeets answer
    each_answered e = rw e (record { answer = refl; status = each_status test card trams first second; promises = promised })

-- ---- the nearest tram

module _ (card : List ℕ) (trams : Trams) (mark : ℕ) where
  pub nearest_by_card : (refusal : Refusal) → RefusalOf card refusal → Err refusal ≡ nearest_answer card trams mark
  unfolding nearest_answer trams_refusal
  nearest_by_card refusal is = err_by_card card refusal _ _ is

  pub nearest_found : (decoded : DecodedCard) → DecodedCardOf card decoded
      → nearest_on (meaning decoded.code) trams mark ≡ nearest_answer card trams mark
  nearest_found decoded from =
      ap (λ (C : Code). nearest_on C trams mark) from.code ∙ sym (nearest_sound card trams mark from.sound_card)

  abbrev NearestMeets : NearestAnswer → Type 0
  NearestMeets given =
      record {
        answer : given ≡ nearest_answer card trams mark;
        status : status_of given ≡ nearest_refusal card trams mark;
        values : nearest_values given ≡ if_served (status_of given) (nearest_expected card trams mark);
        promises : NearestPromises card trams mark given;
      }

  pub nearest_answered : {answer : NearestAnswer} → answer ≡ nearest_answer card trams mark → NearestMeets answer
  unfolding nearest_answer nearest_expected
  nearest_answered e =
      let (status, values) =
      status_and_values_alone (λ (place : Option ℕ). place_value place ∷ []) (nearest_refusal card trams mark)
      (nearest_among (code_of card) trams mark) in
      rw e (record { answer = refl; status = status; values = values; promises = nearest_promises card trams mark })
