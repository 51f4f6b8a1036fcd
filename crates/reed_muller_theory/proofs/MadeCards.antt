-- The card of a Reed-Muller code within the limits is sound, and holds what was asked: the code is sound, so its card is, and each field
-- of a written card reads as what was written. Assumes nothing.
use mathlib.Core.Path.{◌≡◌, ap, ◌∙◌}
use mathlib.Core.Bool.{true}
use Prim.Native.Nat.{ℕ, ◌≤◌, ◌<◌}
use native.Mathlib.Nat.{le_trans}
use Rattle.model.specs.Card.{Code, code_of}
use Rattle.model.specs.ReedMuller.{product_of, reed_muller, reed_muller_card, order_within_limits}
use Rattle.code_theory.specs.Promise.{Sound}
use Rattle.code_theory.proofs.CardFields.{n_of_written, k_of_written, track_of_written, offset_of_written}
use Rattle.code_theory.proofs.CardFields.{written_card_sound, code_of_written}
use Rattle.reed_muller_theory.specs.MadeCards.{IsReedMullerCard}
use Rattle.reed_muller_theory.proofs.OrderLimits.{order_limits_of_test}
use Rattle.reed_muller_theory.proofs.Polynomials.{no_row}
use Rattle.reed_muller_theory.proofs.ReedMullerDistance.{reed_muller_distance, sound_code}

module _ (track r m : ℕ) (within : order_within_limits r m ≡ true) where
  sound : Sound (reed_muller r m)
  sound = let (_, six, order, twelve) = order_limits_of_test r m within in sound_code r m six order twelve

  none_past : (z : ℕ) → 12 ≤ z → product_of r m z ≡ 0
  none_past z past = no_row r m z (le_trans sound.k_high past)

  pub code_of_made : code_of (reed_muller_card track r m) ≡ reed_muller r m
  unfolding reed_muller_card
  code_of_made = code_of_written (reed_muller r m) sound track none_past

  pub is_reed_muller_card : track < 65536 → IsReedMullerCard track r m (reed_muller_card track r m)
  unfolding reed_muller_card
  is_reed_muller_card fits =
      let (_, _, order, _) = order_limits_of_test r m within in
      let C : Code = reed_muller r m in
      record {
        sound = written_card_sound C sound track none_past;
        n_is = n_of_written C.n C.k track C.row;
        k_is = k_of_written C.n C.k track C.row;
        D-is = ap (λ (read : Code). read.D) code_of_made ∙ reed_muller_distance r m order;
        track_is = track_of_written C.n C.k track C.row fits;
        offset_is = offset_of_written C.n C.k track C.row;
        code_is = code_of_made;
      }
