-- The theorems of the searches among trams, of the answer that the definition gives to any card, trams and marks: tests of widened
-- stretches for the equations, and for what stands on the track that a widened stretch holds both true positions. Assumes nothing.
use mathlib.Core.Path.{◌≡◌, refl, sym, ◌∙◌, ap}
use mathlib.Core.Bool.{Bool, true}
use mathlib.Core.List.{List}
use mathlib.Core.Logic.{⊎_elim}
use Prim.Native.Nat.{ℕ, ◌≤◌, ◌<◌}
use native.Mathlib.Omega.{arith}
use Rattle.std.specs.Prelude.{length, Option, Some, None, Ok, []}
use Rattle.bits.proofs.Numbers.{lt_or_le}
use Rattle.model.specs.Refusals.{Refused, status_of}
use Rattle.model.specs.Card.{card_refusal, code_of, SoundCard}
use Rattle.model.specs.Order.{last_position}
use Rattle.model.specs.Trams.{stretch_at, margin, widened_at, rows_of_trams, trams_refusal, each_tram_answer, Trams}
use Rattle.model.specs.TramsCrossing.{crosses, crossing_answer}
use Rattle.model.specs.TramsWithin.{lies_within, within_answer}
use Rattle.model.specs.NearestTram.{nearest_of, nearest_on, nearest_answer, NoTram, Tram, NearestAnswer}
use Rattle.model.specs.declared.Stretch.{Stretch}
use Rattle.code_theory.proofs.RefusalRows.{none_past_card, past_card, served_if_none, status_and_values_alone}
use Rattle.tram_theory.specs.Stretches.{Holds, WithinMarks, Between, OnTrack, StandsFrom, WidenedHoldsBoth}
use Rattle.tram_theory.specs.TramPromises.{YesExactlyIf, NoneMissed, TrulyWithin, CrossingPromises, WithinPromises, NearestOfAll}
use Rattle.tram_theory.specs.TramPromises.{ZeroExactlyIfCrossing, NoneCloser, NearestPromises}
use Rattle.tram_theory.proofs.Stretches.{on_track, widened_in_order, widened_holds_both, crosses_if, crosses_only_if, within_if}
use Rattle.tram_theory.proofs.Stretches.{within_only_if}
use Rattle.tram_theory.proofs.ServedTrams.{yes_if, yes_only_if, each_refusal, each_answers, each_status, served_if_told}
use Rattle.tram_theory.proofs.NearestTrams.{crossing_at_0, at_0_crossing, no_farther, found, some_found, none_found, of_no_trams}

-- ---- trams of a search that is served

module _ (card : List ℕ) (trams : Trams) where
  pub served : (first second : ℕ) → trams_refusal card trams first second ≡ 0 → SoundCard card × OnTrack (last_position (code_of card)) trams
  unfolding trams_refusal
  served first second none =
      let (sound, rows) = none_past_card (card_refusal card) (rows_of_trams (last_position (code_of card)) trams first second) none in
      (sound, on_track (last_position (code_of card)) trams first second rows)

  module _ (sound : SoundCard card) (placed : OnTrack (last_position (code_of card)) trams) (i : ℕ) (below : i < length trams) where
    in_order : (widened_at (code_of card) trams i).low ≤ (widened_at (code_of card) trams i).high
    unfolding widened_at
    in_order =
        widened_in_order (margin (code_of card)) (last_position (code_of card)) (stretch_at trams i) (placed.in_order i below)
        (placed.below_last i below)

    -- the widened stretch holds both true positions, and so every position between them
    holds_both : (a b : ℕ) → StandsFrom card (stretch_at trams i) a b
        → Holds (widened_at (code_of card) trams i) a × Holds (widened_at (code_of card) trams i) b
    unfolding WidenedHoldsBoth widened_at
    holds_both a b stands = widened_holds_both card (stretch_at trams i) a b sound (placed.in_order i below) stands

    holds_between : (a b position : ℕ) → StandsFrom card (stretch_at trams i) a b → Between a b position
        → Holds (widened_at (code_of card) trams i) position
    holds_between a b position stands =
        let ((low-a, high-a), (low-b, high-b)) = holds_both a b stands in
        ⊎_elim (λ (from_a : (a ≤ position) × (position ≤ b)). (omega arith, omega arith))
        (λ (from_b : (b ≤ position) × (position ≤ a)). (omega arith, omega arith))

-- ---- yes or no for each tram

module _ (Test : Stretch → Type 0) (test : Stretch → Bool)
    (if : (s : Stretch) → Test s → test s ≡ true) (only_if : (s : Stretch) → test s ≡ true → Test s) where
  yes_exactly_if : (card : List ℕ) (trams : Trams) (first second : ℕ)
      → YesExactlyIf Test card trams (each_tram_answer test card trams first second)
  unfolding each_tram_answer
  yes_exactly_if card trams first second =
      let C = code_of card in
      let refusal = trams_refusal card trams first second in
      let number = each_refusal test C trams refusal in
      record {
        yes = λ i none below holds.
            let is : refusal ≡ 0 = sym number ∙ none in
            let (_, placed) = served card trams first second is in
            rw (each_answers test C trams refusal is)
            (yes_if test (widened_at C trams) (length trams) i placed.few below (if (widened_at C trams i) holds));
        only = λ i told.
            let is = served_if_told test C trams refusal i told in
            let (below, holds) =
            yes_only_if test (widened_at C trams) (length trams) i (rw (each_answers test C trams refusal is) at told) in
            (number ∙ is, below, only_if (widened_at C trams i) holds);
      }

pub crossing_promises : (card : List ℕ) (trams : Trams) (mark : ℕ) → CrossingPromises card trams mark (crossing_answer card trams mark)
unfolding NoneMissed
crossing_promises card trams mark =
    let exactly = yes_exactly_if (λ s. Holds s mark) (crosses mark) (crosses_if mark) (crosses_only_if mark) card trams mark mark in
    record {
      exactly = exactly;
      none_missed = λ i a b none below stands between.
          let inside : i < length trams = omega arith in
          let (sound, placed) = served card trams mark mark (sym (each_status (crosses mark) card trams mark mark) ∙ none) in
          exactly.yes i none inside (holds_between card trams sound placed i inside a b mark stands between);
    }

pub within_promises : (card : List ℕ) (trams : Trams) (first second : ℕ)
    → WithinPromises card trams first second (within_answer card trams first second)
unfolding TrulyWithin
within_promises card trams first second =
    let exactly =
    yes_exactly_if (WithinMarks first second) (lies_within first second) (within_if first second) (within_only_if first second)
    card trams first second in
    record {
      exactly = exactly;
      truly = λ i a b told stands.
          let (none, below, (low, high)) = exactly.only i told in
          let (sound, placed) =
          served card trams first second (sym (each_status (lies_within first second) card trams first second) ∙ none) in
          let ((low-a, high-a), (low-b, high-b)) = holds_both card trams sound placed i below a b stands in
          ((omega arith, omega arith), (omega arith, omega arith));
    }

-- ---- the nearest tram

module _ (card : List ℕ) (trams : Trams) (mark : ℕ) where
  abbrev refusal : ℕ
  refusal = trams_refusal card trams mark mark

  abbrev stretch : ℕ → Stretch
  stretch = widened_at (code_of card) trams

  -- a search that is answered otherwise than by a refusal is served
  answered : refusal ≡ 0 → nearest_answer card trams mark ≡ Ok (nearest_of mark stretch (length trams))
  unfolding nearest_answer
  answered none = served_if_none refusal Refused _ none

  status_0 : status_of (nearest_answer card trams mark) ≡ 0 → refusal ≡ 0
  unfolding nearest_answer
  status_0 e = sym (status_and_values_alone {B = ℕ} (λ (place : Option ℕ). []) refusal _).0 ∙ e

  tram_answered : (place : ℕ) → nearest_answer card trams mark ≡ Tram place
      → (refusal ≡ 0) × (nearest_of mark stretch (length trams) ≡ Some place)
  unfolding status_of
  tram_answered place e =
      let none = status_0 (rw e refl) in
      let same : ◌≡◌ {A = NearestAnswer} (Ok (nearest_of mark stretch (length trams))) (Tram place) = sym (answered none) ∙ e in
      (none, cc)

  none_answered : nearest_answer card trams mark ≡ NoTram → nearest_of mark stretch (length trams) ≡ None
  unfolding status_of
  none_answered e =
      let same : ◌≡◌ {A = NearestAnswer} (Ok (nearest_of mark stretch (length trams))) NoTram = sym (answered (status_0 (rw e refl))) ∙ e in cc

  nearest_of_all : NearestOfAll card trams mark (nearest_answer card trams mark)
  nearest_of_all =
      record {
        nearest = λ place e.
            let (below, best) = found mark stretch (length trams) place (tram_answered place e).1 in
            record {
              in_list = below;
              none_nearer = λ i l. (best i l).no_farther_off;
              smaller_low = λ i l same. (best i l).no_higher (sym same);
              earlier = λ i l same low.
                  ⊎_elim (λ (before : i < place). absurd (omega (arith, (best i l).lower_than_earlier before (sym same)))) (λ after. after)
                  (lt_or_le i place);
            };
        some = λ zero_is inhabited.
            let (place, is) = some_found mark stretch (length trams) inhabited in (place, answered (status_0 zero_is) ∙ ap Ok is);
        none = λ e. none_found mark stretch (length trams) (none_answered e);
        of_none = λ zero_is empty. answered (status_0 zero_is) ∙ ap Ok (of_no_trams mark stretch (length trams) empty);
      }

  zero_exactly_if_crossing : ZeroExactlyIfCrossing card trams mark (nearest_answer card trams mark)
  unfolding ZeroExactlyIfCrossing
  zero_exactly_if_crossing i zero_is below =
      let (sound, placed) = served card trams mark mark (status_0 zero_is) in
      (crossing_at_0 mark (stretch i), at_0_crossing mark (stretch i) (in_order card trams sound placed i below))

  none_closer : NoneCloser card trams mark (nearest_answer card trams mark)
  unfolding NoneCloser
  none_closer place i a b position e below stands between =
      let (none, is) = tram_answered place e in
      let (sound, placed) = served card trams mark mark none in
      let near = no_farther mark (stretch i) position (holds_between card trams sound placed i below a b position stands between) in
      omega (arith, ((found mark stretch (length trams) place is).1 i below).no_farther_off)

  pub nearest_promises : NearestPromises card trams mark (nearest_answer card trams mark)
  nearest_promises = record { of_all = nearest_of_all; crossing = zero_exactly_if_crossing; none_closer = none_closer }

-- on a sound card the search is answered as for the card's code
pub nearest_sound : (card : List ℕ) (trams : Trams) (mark : ℕ) → SoundCard card
    → nearest_answer card trams mark ≡ nearest_on (code_of card) trams mark
unfolding nearest_answer nearest_on trams_refusal
nearest_sound card trams mark sound = past_card (card_refusal card) _ _ _ sound
