-- Each row by its promise: the premise is computed of the trams and the damaged word, and what the promise then says is the row. Assumes
-- nothing.
use mathlib.Core.Path.{◌≡◌, refl, ap, ◌∙◌}
use mathlib.Core.List.{List, [], ◌∷◌}
use mathlib.Core.Logic.{inl, inr, ⊎_elim}
use Prim.Native.Nat.{ℕ, ◌≤◌}
use native.Mathlib.Omega.{arith}
use Rattle.std.specs.Prelude.{None, Ok, Some}
use Rattle.bits.specs.Sums.{sum_below, distance, join_at}
use Rattle.bits.specs.Walk.{walk}
use Rattle.bits.specs.Places.{weight, place, cut, byte_of, list_of, pack}
use Rattle.bits.specs.Searches.{any_below, first, least_at, greatest}
use Rattle.bits.proofs.Numbers.{zero_or_one}
use Rattle.model.specs.Refusals.{first_refusal, unless_refused, status_of}
use Rattle.model.specs.Card.{high_first, row_of, sum_of_rows, least_weight, code_of}
use Rattle.model.specs.CardBytes.{bytes_of, row_bytes, sealed, card_of}
use Rattle.model.specs.CardsToTry.{card_a, card_b}
use Rattle.model.specs.Order.{gray, last_codeword, codeword, changed_row, changed_weight, start, last_position}
use Rattle.model.specs.Words.{chunk_size, places_before, five_chunks, word, block_of, word_at, word_bytes}
use Rattle.model.specs.Reading.{majority, chunk_distance, within_radius, read_first, chunk_reading, unreadable, number_read, seen}
use Rattle.model.specs.Reading.{rule_of, number_by, separator_of, parity_differs, two_ends, rows_9_to_12, rows_seen, rule_named, rows_of}
use Rattle.model.specs.Reading.{allowed, residual, nearest_in, bits_needed, nearest_reading}
use Rattle.model.specs.Trams.{widened, widened_at}
use Rattle.model.specs.TramsCrossing.{crosses}
use Rattle.model.specs.NearestTram.{distance_to, Tram}
use Rattle.model.specs.declared.Reading.{Reading}
use Rattle.model.specs.declared.Stretch.{Stretch}
use Rattle.model.specs.ReadWord.{spare_set, rows_of_word, read_word}
use Rattle.code_theory.proofs.CodeWitnesses.{card_b_sound}
use Rattle.position_theory.specs.Damage.{damaged_in, WithinRadius}
use Rattle.position_theory.specs.Margin.{ReadFrom}
use Rattle.position_theory.specs.PositionWitnesses.{last_damaged}
use Rattle.position_theory.proofs.PositionWitnesses.{computed, within}
use Rattle.position_theory.proofs.SoundCards.{read_sound}
use Rattle.tram_theory.specs.Stretches.{StandsFrom, WidenedHoldsBoth}
use Rattle.tram_theory.specs.TramPromises.{NoneMissed, TrulyWithin, IsNearest, ZeroExactlyIfCrossing, NoneCloser}
use Rattle.tram_theory.specs.TramWitnesses.{from_to, at15, from12, from11, exchanged, TramsWitnessed}

-- ---- positions of card B that are read from words within the radius

read_as : (position : ℕ) (received : List ℕ) (reading : Reading) → position ≤ last_position (code_of card_b)
    → WithinRadius (code_of card_b) position received → read_word (code_of card_b) received ≡ Ok reading
    → ReadFrom card_b position reading.position
read_as position received reading on_track near is =
    record {
      on_track = on_track;
      received = received;
      within = near;
      reading = reading;
      read = read_sound card_b received card_b_sound ∙ is;
      position = refl;
    }

abbrev by_rule1 : (position : ℕ) → Reading
by_rule1 position = record { position = position; residual = 0; rule = 1; chunk1 = Some 0; chunk2 = None }

abbrev by_rule3 : (position residual : ℕ) → Reading
by_rule3 position residual = record { position = position; residual = residual; rule = 3; chunk1 = Some 0; chunk2 = Some 0 }

record Reads : Type 0 where
  15-as-13 : ReadFrom card_b 15 13
  11-as-13 : ReadFrom card_b 11 13
  12-as-12 : ReadFrom card_b 12 12
  14-as-14 : ReadFrom card_b 14 14
  15-as-15 : ReadFrom card_b 15 15

reads : Reads
unfolding sum_below distance join_at walk weight place cut byte_of list_of pack
    any_below first least_at greatest
    high_first row_of sum_of_rows least_weight code_of first_refusal unless_refused bytes_of row_bytes sealed card_of card_b
    gray last_codeword codeword changed_row changed_weight start last_position
    chunk_size places_before five_chunks word block_of word_at word_bytes
    majority chunk_distance within_radius read_first chunk_reading unreadable number_read seen
    rule_of number_by separator_of parity_differs two_ends rows_9_to_12 rows_seen rule_named rows_of allowed residual nearest_in bits_needed nearest_reading
    spare_set rows_of_word read_word damaged_in
reads =
    record {
      15-as-13 = read_as 15 last_damaged (by_rule3 13 1) (computed refl) (within _ 15 last_damaged refl refl refl) refl;
      11-as-13 = read_as 11 (0xff ∷ 0x1f ∷ []) (by_rule1 13) (computed refl) (within _ 11 (0xff ∷ 0x1f ∷ []) refl refl refl) refl;
      12-as-12 = read_as 12 (0xff ∷ 0x0f ∷ []) (by_rule1 12) (computed refl) (within _ 12 (0xff ∷ 0x0f ∷ []) refl refl refl) refl;
      14-as-14 = read_as 14 (0xff ∷ 0x3f ∷ []) (by_rule3 14 0) (computed refl) (within _ 14 (0xff ∷ 0x3f ∷ []) refl refl refl) refl;
      15-as-15 = read_as 15 (0xff ∷ 0x7f ∷ []) (by_rule3 15 0) (computed refl) (within _ 15 (0xff ∷ 0x7f ∷ []) refl refl refl) refl;
    }

stands_at_15 : StandsFrom card_b at15 15 15
stands_at_15 = record { low_end = reads.15-as-13; high_end = reads.15-as-13 }

stands_from_12 : StandsFrom card_b from12 12 15
stands_from_12 = record { low_end = reads.12-as-12; high_end = reads.15-as-13 }

stands_from_11 : StandsFrom card_b from11 11 15
stands_from_11 = record { low_end = reads.11-as-13; high_end = reads.15-as-15 }

stands_exchanged : StandsFrom card_b exchanged 15 14
stands_exchanged = record { low_end = reads.15-as-13; high_end = reads.14-as-14 }

-- of two trams the nearest is the one, where it is not the other
module _ (mark : ℕ) (stretch : ℕ → Stretch) where
  second_of_two : (IsNearest mark stretch 2 0 → ⊥) → (place : ℕ) → IsNearest mark stretch 2 place → place ≡ 1
  second_of_two other place is =
      ⊎_elim (λ (e : place ≡ 0). absurd (other (rw e at is))) (λ e. e) (zero_or_one place is.in_list)

  first_of_two : (IsNearest mark stretch 2 1 → ⊥) → (place : ℕ) → IsNearest mark stretch 2 place → place ≡ 0
  first_of_two other place is =
      ⊎_elim (λ e. e) (λ (e : place ≡ 1). absurd (other (rw e at is))) (zero_or_one place is.in_list)

pub trams_witnessed : TramsWitnessed
unfolding sum_below weight place list_of any_below
    high_first row_of sum_of_rows least_weight code_of bytes_of row_bytes sealed card_of card_a card_b
    gray last_codeword start last_position
    widened widened_at crosses distance_to status_of
    WidenedHoldsBoth NoneMissed TrulyWithin ZeroExactlyIfCrossing NoneCloser
trams_witnessed =
    record {
      read_short = reads.15-as-13;
      holds_low_end = λ promise stands.
          let ((_, above), _) = promise (from_to 2 2) 15 2 card_b_sound (computed refl) stands in omega arith;
      holds_high_end = λ promise stands.
          let (_, (_, above)) = promise (from_to 2 2) 2 15 card_b_sound (computed refl) stands in omega arith;
      at_low_end = λ answer none promise. promise.yes 0 none (computed refl) (computed refl, computed refl);
      below_low_end = λ answer promise yes_is. let (_, _, (low, _)) = promise.only 0 yes_is in omega arith;
      cut_at_last = λ answer none promise. promise.yes 0 none (computed refl) (computed refl, computed refl);
      at_high_end = λ answer none promise. promise.yes 0 none (computed refl) (computed refl, computed refl);
      above_high_end = λ answer promise yes_is. let (_, _, (_, high)) = promise.only 0 yes_is in omega arith;
      cut_at_0 = λ answer none promise. promise.yes 0 none (computed refl) (computed refl, computed refl);
      past_count = λ answer promise yes_is. let (_, below, _) = promise.only 1 yes_is in omega arith;
      refused = λ answer by promise yes_is. let (none, _, _) = promise.only 0 yes_is in omega arith;
      none_missed = λ answer none promise. promise 0 12 15 none (computed refl) stands_from_12 (inl (computed refl, computed refl));
      last_of_64 = λ answer none promise. promise 63 15 15 none (computed refl) stands_at_15 (inl (computed refl, computed refl));
      ends_exchanged = λ answer none promise. promise 0 15 14 none (computed refl) stands_exchanged (inr (computed refl, computed refl));
      just_within = λ answer none promise. promise.yes 0 none (computed refl) (computed refl, computed refl);
      not_from_4 = λ answer promise yes_is. let (_, _, (low, _)) = promise.only 0 yes_is in omega arith;
      not_to_14 = λ answer promise yes_is. let (_, _, (_, high)) = promise.only 0 yes_is in omega arith;
      truly_below = λ answer promise yes_is. let (_, (_, above)) = promise 0 12 15 yes_is stands_from_12 in omega arith;
      truly_above = λ answer promise yes_is. let ((below, _), _) = promise 0 11 15 yes_is stands_from_11 in omega arith;
      nearer = λ place promise.
          second_of_two _ _ (λ is. let far = is.none_nearer 1 (computed refl) in omega arith) place (promise.nearest place refl);
      tie_to_low_end = λ place promise.
          second_of_two _ _ (λ is. let high = is.smaller_low 1 (computed refl) refl in omega arith) place
          (promise.nearest place refl);
      tie_to_earlier = λ place promise.
          first_of_two _ _ (λ is. let late = is.earlier 0 (computed refl) refl refl in omega arith) place
          (promise.nearest place refl);
      widened_tie = λ place promise.
          first_of_two _ _ (λ is. let late = is.earlier 0 (computed refl) refl refl in omega arith) place
          (promise.nearest place refl);
      no_trams = λ answer status promise. promise.of_none status refl;
      some_tram = λ answer status promise.
          let (place, is) = promise.some status (computed refl) in
          let first_place_lem : place ≡ 0 = let below = (promise.nearest place is).in_list in omega arith in
          is ∙ ap Tram first_place_lem;
      none_of_some = λ promise. let z : ◌≡◌ {A = ℕ} 1 0 = promise.none refl in omega arith;
      at_distance_0 = λ s promise. (promise 0 refl (computed refl)).1;
      not_passed_over = λ promise.
          let far = promise 1 0 12 15 15 refl (computed refl) stands_from_12 (inl (computed refl, computed refl)) in omega arith;
    }
