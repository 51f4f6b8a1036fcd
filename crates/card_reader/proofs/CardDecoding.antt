-- What decoding a card shows past refusals 1 to 3. What is misplaced is refusal 4, and then an offset outside its range is 14. Where no
-- row is too wide, the least weight of the sets of rows is 0 if the rows are dependent, which is refusal 5, and the code's least distance
-- if they are not. Assumes nothing.
use mathlib.Core.Path.{◌≡◌}
use mathlib.Core.Bool.{true, false, cond}
use mathlib.Core.List.{List}
use mathlib.Core.Logic.{⊎_elim}
use Prim.Native.Nat.{ℕ, ◌-◌, ◌^◌}
use native.Mathlib.Omega.{arith}
use borrow.Author.Tests.{eq-eqb, ne_eqb}
use lib.Dec.{eqb}
use lib.ListN.{length, get_or}
use Rattle.bits.proofs.Numbers.{eq_or_ne, or_false_left}
use Rattle.model.specs.Card.{length_of, row_count_of, row_of, code_of, track_of, offset_of, stored_check, computed_check}
use Rattle.model.specs.Card.{within_limits, row_too_wide, misplaced, offset_outside, dependent, card_refusal, SoundCard}
use Rattle.model.specs.Decoded.{meaning}
use Rattle.model.specs.declared.DecodedCard.{DecodedCard}
use Rattle.code_theory.specs.LeastOfSets.{least_of_sets}
use Rattle.code_theory.proofs.LeastOfSets.{least_if_independent, independent_of_least, dependent_of_least}
use Rattle.code_theory.proofs.SoundCard.{limits_of_test, narrow_of_test, card_tests}
use Rattle.card_reader.specs.DecodedFrom.{DecodedCardOf}
use Rattle.card_reader.proofs.SplitRows.{Narrow}
use Rattle.card_reader.proofs.CardRefusals.{refusal_4_14_5_or_0}

-- the least weight of the sets of a card's rows
abbrev pub least : List ℕ → ℕ
least b = least_of_sets (length_of b) (row_count_of b) (row_of b) (2 ^ row_count_of b - 1)

-- the least weight for an n, a k and rows that are the card's is the card's
pub least_of_card : (b : List ℕ) (n k distance : ℕ) (row : ℕ → ℕ) → n ≡ length_of b → k ≡ row_count_of b → row ≡ row_of b
    → (Narrow n k row → distance ≡ least_of_sets n k row (2 ^ k - 1)) → Narrow (length_of b) (row_count_of b) (row_of b) → distance ≡ least b
least_of_card b n k distance row is_n is_k is_row is_least = rw (← is_n, ← is_k, ← is_row) is_least

-- where the limits hold and no row has a bit at n or above, the rows are narrow
narrow_rows : (b : List ℕ) → within_limits (length_of b) (row_count_of b) ≡ true → row_too_wide (length_of b) (row_of b) ≡ false
    → Narrow (length_of b) (row_count_of b) (row_of b)
narrow_rows b limits test z h =
    narrow_of_test (length_of b) (row_of b) test z (omega (arith, (limits_of_test (length_of b) (row_count_of b) limits).3))

module _ (b : List ℕ) (limits : within_limits (length_of b) (row_count_of b) ≡ true) where
  narrow : misplaced b ≡ false → Narrow (length_of b) (row_count_of b) (row_of b)
  unfolding misplaced
  narrow placed = narrow_rows b limits (or_false_left _ _ (or_false_left _ _ placed))

  -- the rows are dependent where their least weight is 0
  dependent_if_zero : misplaced b ≡ false → dependent (row_count_of b) (row_of b) ≡ eqb (least b) 0
  dependent_if_zero placed =
      ⊎_elim
      (λ (zero : least b ≡ 0).
      rw (eq-eqb (least b) 0 zero)
      (dependent_of_least (length_of b) (row_count_of b) (row_of b) (limits_of_test (length_of b) (row_count_of b) limits).0 (narrow placed) zero))
      (λ (ne : least b ≡ 0 → ⊥).
      rw (ne_eqb (least b) 0 ne) (independent_of_least (length_of b) (row_count_of b) (row_of b) (omega arith)))
      (eq_or_ne (least b) 0)

  -- the last three refusals, and a card that passes all three; 5 is tested by a number that is the least weight if the rows are narrow
  module _ (whole : length b ≡ 512) (checked : stored_check b ≡ computed_check b) where
    pub refusal_4 : misplaced b ≡ true → card_refusal b ≡ 4
    refusal_4 test = rw (refusal_4_14_5_or_0 b whole checked limits, test)

    pub refusal_14 : misplaced b ≡ false → offset_outside (offset_of b) ≡ true → card_refusal b ≡ 14
    refusal_14 placed outside = rw (refusal_4_14_5_or_0 b whole checked limits, placed, outside)

    module _ (placed : misplaced b ≡ false) (in_range : offset_outside (offset_of b) ≡ false) (distance : ℕ)
        (is_least : Narrow (length_of b) (row_count_of b) (row_of b) → distance ≡ least b) where
      by_distance : card_refusal b ≡ cond (eqb distance 0) 5 0
      by_distance = rw (refusal_4_14_5_or_0 b whole checked limits, placed, in_range, dependent_if_zero placed, is_least (narrow placed))

      pub refusal_5 : distance ≡ 0 → card_refusal b ≡ 5
      refusal_5 zero = rw (by_distance, eq-eqb distance 0 zero)

      pub not_refused : (distance ≡ 0 → ⊥) → card_refusal b ≡ 0
      not_refused positive = rw (by_distance, ne_eqb distance 0 positive)

-- the code of a sound card
pub code_of_least : (b : List ℕ) → SoundCard b → (n k distance : ℕ) (rows : List ℕ) → n ≡ length_of b → k ≡ row_count_of b
    → (λ z. get_or rows z 0) ≡ row_of b → (Narrow (length_of b) (row_count_of b) (row_of b) → distance ≡ least b)
    → record { n = n; k = k; row = λ z. get_or rows z 0; D = distance } ≡ code_of b
unfolding code_of
code_of_least b sound n k distance rows is_n is_k is-rows is_least =
    let tests = card_tests b sound in
    let fit = narrow_rows b tests.limits tests.rows_within_lem in
    rw (is_n, is_k, is-rows, is_least fit, least_if_independent (length_of b) (row_count_of b) (row_of b) tests.rows_independent)

-- a sound card, with its track, its offset and its code
pub decoded_from : (b : List ℕ) (decoded : DecodedCard) → SoundCard b → decoded.track ≡ track_of b → decoded.offset ≡ offset_of b
    → meaning decoded.code ≡ code_of b → DecodedCardOf b decoded
decoded_from b decoded sound track offset code =
    record { sound_card = sound; track = track; offset = offset; code = code; sound = decoded.code.sound }
