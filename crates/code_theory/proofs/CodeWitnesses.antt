-- Each row by its promise: that the card is an old one is computed, and so is what document 01 alone answers. Assumes nothing.
use mathlib.Core.Path.{◌≡◌, refl, ◌∙◌}
use mathlib.Core.Bool.{false, not}
use mathlib.Core.List.{List}
use Prim.Native.Nat.{ℕ, ◌+◌}
use lib.Dec.{eqb}
use borrow.Author.Tests.{eqb-true, not-false}
use Rattle.bits.specs.Sums.{sum_below}
use Rattle.bits.specs.Places.{weight}
use Rattle.bits.specs.Searches.{any_below}
use Rattle.bits.proofs.Searches.{none_of_any}
use Rattle.model.specs.Refusals.{first_refusal, unless_refused}
use Rattle.model.specs.Card.{byte, high_first, track_of, row_of, stored_check, computed_check, sum_of_rows, least_weight, code_of}
use Rattle.model.specs.Card.{within_limits, row_too_wide, unused_row_set, dependent, SoundCard}
use Rattle.model.specs.CardBytes.{bytes_of, row_bytes, sealed, card_of}
use Rattle.model.specs.Order.{last_codeword, start, last_position}
use Rattle.model.specs.CheckCard.{summary_of}
use Rattle.model.specs.CardsToTry.{card_b}
use Rattle.code_theory.specs.Offsets.{OldCard, old_misplaced, old_card_refusal, old_card_answer, old_millimetres_answer, as_signed}
use Rattle.code_theory.specs.Offsets.{CheckedAsBefore, DistanceAsBefore}
use Rattle.code_theory.specs.CodeWitnesses.{byte104_set, OldCardsWitnessed}
use Rattle.code_theory.proofs.Offsets.{old_refusal}

-- bytes 100 to 103 are zero
old : (card : List ℕ) → any_below (λ i. not (eqb (byte card (100 + i)) 0)) 4 ≡ false → OldCard card
unfolding OldCard
old card none i four = eqb-true _ 0 (not-false _ (none_of_any _ 4 none i four))

-- document 01's refusals of the two cards
refusals : (old_card_refusal card_b ≡ 0) × (old_card_refusal byte104_set ≡ 4)
unfolding sum_below any_below first_refusal high_first row_of stored_check computed_check sum_of_rows
    within_limits row_too_wide unused_row_set dependent bytes_of row_bytes sealed card_of card_b old_misplaced old_card_refusal
refusals = (refl, refl)

-- so card B, which is an old one, is sound
pub card_b_sound : SoundCard card_b
unfolding any_below bytes_of row_bytes sealed card_of card_b
card_b_sound = old_refusal card_b (old card_b refl) ∙ refusals.0

pub old_cards_witnessed : OldCardsWitnessed
unfolding sum_below weight any_below first_refusal unless_refused
    high_first track_of row_of sum_of_rows least_weight code_of bytes_of row_bytes sealed card_of card_b
    last_codeword start last_position summary_of old_card_answer old_millimetres_answer as_signed CheckedAsBefore DistanceAsBefore
old_cards_witnessed =
    record {
      sound = λ answer promise. rw refusals.0 at (promise (old card_b refl));
      refused_by_4 = λ answer promise. rw refusals.1 at (promise (old byte104_set refl));
      at_last = λ answer promise. rw refusals.0 at (promise (old card_b refl));
      past_last = λ answer promise. rw refusals.0 at (promise (old card_b refl));
    }
