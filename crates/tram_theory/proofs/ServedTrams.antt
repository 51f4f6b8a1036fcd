-- Searches that say yes or no of each tram: the refusal stands beside the answers, and a tram is told yes just where the search is served,
-- the tram is in the list, and the test holds of its widened stretch. Assumes nothing.
use mathlib.Core.Path.{◌≡◌, refl, sym, ◌∙◌}
use mathlib.Core.Bool.{Bool, true, false, cond, false≢true}
use mathlib.Core.List.{List, [], ◌∷◌}
use mathlib.Core.Logic.{⊎_elim}
use Prim.Native.Nat.{ℕ, ◌≤◌, ◌<◌}
use native.Mathlib.Omega.{arith}
use lib.Dec.{ltb}
use lib.ListN.{get_or, get_or-eq_default}
use borrow.Author.Tests.{ltb-true, lt-ltb, eq-eqb, ne_eqb}
use Rattle.std.specs.Prelude.{length, Err}
use Rattle.bits.specs.Places.{list_of}
use Rattle.bits.proofs.Numbers.{lt_or_le, eq_or_ne}
use Rattle.bits.proofs.Places.{length_list_of, get_or_list_of}
use Rattle.model.specs.Refusals.{refuses, refused_as, first_refusal, status_of}
use Rattle.model.specs.Card.{Code, card_refusal, code_of, SoundCard}
use Rattle.model.specs.Trams.{Trams, most_trams, widened_at, rows_of_trams, trams_refusal, answers_by, answers_of, each_tram_unless}
use Rattle.model.specs.Trams.{each_tram_on, each_tram_answer}
use Rattle.model.specs.declared.Stretch.{Stretch}
use Rattle.model.specs.declared.Refusal.{Refusal}
use Rattle.code_theory.proofs.RefusalRows.{served_if_none, refused_if_some, err_by_card, past_card, status_and_values_alone}
use Rattle.code_theory.specs.Promise.{RefusalOf}
use Rattle.tram_theory.specs.TramPromises.{AnsweredYes}

-- a test that is made only where another holds
both : (asked holds : Bool) → cond asked holds false ≡ true → (asked ≡ true) × (holds ≡ true)
both true holds e = (refl, e)
both false holds e = absurd (false≢true e)

module _ (test : Stretch → Bool) (stretch : ℕ → Stretch) (count : ℕ) where
  -- the answer of the tram at place i
  abbrev answer_at : ℕ → Bool
  answer_at i = cond (ltb i count) (test (stretch i)) false

  pub yes_if : (i : ℕ) → count ≤ most_trams → i < count → test (stretch i) ≡ true → get_or (answers_by test stretch count) i false ≡ true
  unfolding answers_by
  yes_if i few below holds = get_or_list_of most_trams answer_at false i (omega arith) ∙ rw (lt-ltb i count below) holds

  pub yes_only_if : (i : ℕ) → get_or (answers_by test stretch count) i false ≡ true → (i < count) × (test (stretch i) ≡ true)
  unfolding answers_by
  yes_only_if i told =
      ⊎_elim
      (λ (few : i < most_trams).
      let (below, holds) = both (ltb i count) _ (sym (get_or_list_of most_trams answer_at false i few) ∙ told) in (ltb-true i count below, holds))
      (λ (past : most_trams ≤ i).
      absurd (false≢true (sym (get_or-eq_default (list_of most_trams answer_at) false (rw (length_list_of most_trams answer_at) past)) ∙ told)))
      (lt_or_le i most_trams)

-- the refusal and the answers of a search whose refusal has this number
module _ (test : Stretch → Bool) (C : Code) (trams : Trams) (refusal : ℕ) where
  pub each_refusal : status_of (each_tram_unless refusal test C trams) ≡ refusal
  unfolding each_tram_unless
  each_refusal = (status_and_values_alone (λ answers. answers) refusal _).0

  pub each_answers : refusal ≡ 0 → answers_of (each_tram_unless refusal test C trams) ≡ answers_by test (widened_at C trams) (length trams)
  unfolding each_tram_unless answers_of
  each_answers e = rw (served_if_none refusal _ _ e)

  -- where it is refused no tram is told yes
  pub served_if_told : (i : ℕ) → AnsweredYes (each_tram_unless refusal test C trams) i → refusal ≡ 0
  unfolding each_tram_unless answers_of
  served_if_told i told =
      ⊎_elim (λ (e : refusal ≡ 0). e) (λ (ne : refusal ≡ 0 → ⊥). absurd (false≢true (rw (refused_if_some refusal _ _ ne) at told)))
      (eq_or_ne refusal 0)

-- the answer to a card's trams: its refusal stands beside the answers; a refused card refuses; on a sound card it is that for its code
module _ (test : Stretch → Bool) (card : List ℕ) (trams : Trams) (first second : ℕ) where
  pub each_status : status_of (each_tram_answer test card trams first second) ≡ trams_refusal card trams first second
  unfolding each_tram_answer
  each_status = each_refusal test (code_of card) trams (trams_refusal card trams first second)

  pub each_by_card : (refusal : Refusal) → RefusalOf card refusal → Err refusal ≡ each_tram_answer test card trams first second
  unfolding each_tram_answer each_tram_unless trams_refusal
  each_by_card refusal is = err_by_card card refusal _ _ is

  pub each_sound : SoundCard card → each_tram_answer test card trams first second ≡ each_tram_on test (code_of card) trams first second
  unfolding each_tram_answer each_tram_on each_tram_unless trams_refusal
  each_sound sound = past_card (card_refusal card) _ _ _ sound

-- more trams than a track has are refused alike, whichever they are
module _ (card : List ℕ) (trams : Trams) (first second : ℕ) (many : most_trams < length trams) where
  pub too_many : trams_refusal card trams first second ≡ first_refusal (refused_as (card_refusal card) ∷ refuses 18 true ∷ [])
  unfolding trams_refusal rows_of_trams first_refusal
  too_many = rw (lt-ltb most_trams (length trams) many)

  pub too_many_refused : trams_refusal card trams first second ≡ 0 → ⊥
  unfolding first_refusal
  too_many_refused none =
      ⊎_elim (λ (e : card_refusal card ≡ 0). let eighteen : 18 ≡ 0 = rw (too_many, eq-eqb (card_refusal card) 0 e) at none in omega arith)
      (λ (ne : card_refusal card ≡ 0 → ⊥). ne (rw (too_many, ne_eqb (card_refusal card) 0 ne) at none))
      (eq_or_ne (card_refusal card) 0)
