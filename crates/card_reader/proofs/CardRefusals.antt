-- Refusals 1 to 3, one law each; past them, what 4, 14 and 5 test. Assumes nothing.
use mathlib.Core.Path.{◌≡◌}
use mathlib.Core.Bool.{Bool, true, false, cond, ◌||◌}
use mathlib.Core.List.{List}
use Prim.Native.Nat.{ℕ}
use borrow.Author.Tests.{eq-eqb, ne_eqb}
use lib.ListN.{length}
use Rattle.model.specs.Refusals.{first_refusal}
use Rattle.model.specs.Card.{length_of, row_count_of, row_of, offset_of, stored_check, computed_check, within_limits, misplaced, offset_outside}
use Rattle.model.specs.Card.{row_too_wide, unused_row_set, unused_byte_set, dependent, card_refusal}

module _ (b : List ℕ) where
  pub refusal_1 : (length b ≡ 512 → ⊥) → card_refusal b ≡ 1
  unfolding card_refusal first_refusal
  refusal_1 short = rw (ne_eqb (length b) 512 short)

  pub refusal_2 : length b ≡ 512 → (stored_check b ≡ computed_check b → ⊥) → card_refusal b ≡ 2
  unfolding card_refusal first_refusal
  refusal_2 whole wrong = rw (eq-eqb (length b) 512 whole, ne_eqb (stored_check b) (computed_check b) wrong)

  pub refusal_3 : length b ≡ 512 → stored_check b ≡ computed_check b → within_limits (length_of b) (row_count_of b) ≡ false
      → card_refusal b ≡ 3
  unfolding card_refusal first_refusal
  refusal_3 whole checked outside =
      rw (eq-eqb (length b) 512 whole, eq-eqb (stored_check b) (computed_check b) checked, outside)

  -- what the fourth asks, of n, k, rows and a test of the unused bytes that are the card's
  pub misplaced_of_card : (n k : ℕ) (row : ℕ → ℕ) (unused_set answer : Bool) → n ≡ length_of b → k ≡ row_count_of b → row ≡ row_of b
      → unused_set ≡ unused_byte_set b → answer ≡ (row_too_wide n row || unused_row_set k row || unused_set) → answer ≡ misplaced b
  unfolding misplaced
  misplaced_of_card n k row unused_set answer is_n is_k is_row is-unused asked = rw (← is_n, ← is_k, ← is_row, ← is-unused) asked

  -- past the third, a card is refused for what is misplaced, then for its offset, then for its rows
  pub refusal_4_14_5_or_0 : length b ≡ 512 → stored_check b ≡ computed_check b → within_limits (length_of b) (row_count_of b) ≡ true
      → card_refusal b ≡ cond (misplaced b) 4 (cond (offset_outside (offset_of b)) 14 (cond (dependent (row_count_of b) (row_of b)) 5 0))
  unfolding card_refusal first_refusal
  refusal_4_14_5_or_0 whole checked limits =
      rw (eq-eqb (length b) 512 whole, eq-eqb (stored_check b) (computed_check b) checked, limits)
