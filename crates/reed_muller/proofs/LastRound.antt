-- The last round, of the empty set alone. Each of its classes is one position, so its votes for 1 are the ones that are left. Where they
-- are most, its product, a one at each position, is taken off, which leaves ones at all the others. Assumes nothing.
use mathlib.Core.Path.{◌≡◌, refl, sym, ap, ◌∙◌}
use Prim.Native.Nat.{ℕ, ◌+◌, ◌-◌, ◌*◌, ◌^◌, ◌≤◌, ◌<◌}
use native.Mathlib.Nat.{mod-eq_of_lt}
use native.Mathlib.Omega.{arith}
use lib.Bits.{bit_and, bit_xor, and_mask}
use lib.Count.{ones}
use mathlib.Core.List.{[], ◌∷◌}
use lib.Pow.{pow_pos}
use Rattle.bits.specs.Sums.{sum_below, distance, difference}
use Rattle.bits.specs.Places.{bit, weight}
use Rattle.bits.specs.Counting.{those}
use Rattle.bits.proofs.Sums.{sum_ext, sum_add, sum_of_ones}
use Rattle.bits.proofs.Binary.{bit_bit, weight_zero, weight_ones, ones_xor}
use Rattle.bits.proofs.Shifts.{bit_all_ones}
use Rattle.model.specs.ReedMuller.{sets_of, product_row, classes, votes_for_one}
use Rattle.reed_muller_theory.proofs.Classes.{count_of_classes}
use Rattle.reed_muller_theory.proofs.ClassSums.{product_of_none, class_sum_alone}
use Rattle.reed_muller.proofs.ClassVotes.{votes_counted}
use Rattle.reed_muller.proofs.RoundSteps.{RoundMet, round_starts, round_ends, most_for_one, not_most_for_one, not_voted, voted_for}
use Rattle.reed_muller.proofs.VotedDown.{VotedDown, voting_goes_on}

all_classes : (m : ℕ) → classes m 0 ≡ 2 ^ m
all_classes m = omega (arith, rw (weight_zero m) at (count_of_classes m 0 (pow_pos m)))

module _ (m left : ℕ) (six : m ≤ 6) (narrow : left < 2 ^ 2 ^ m) where
  votes_of_none : votes_for_one m 0 (bit left) ≡ ones left
  votes_of_none =
      sym (votes_counted m 0 (product_row m 0) six refl left left
      (λ c l has. sym (class_sum_alone 6 (bit left) c l ∙ mod-eq_of_lt (bit_bit left c))))
      ∙ ap ones (ap (bit_and left) (product_of_none m) ∙ and_mask left (2 ^ m) ∙ mod-eq_of_lt narrow)

  -- with all positions flipped, the ones stand where the zeros stood
  pub ones_flipped : ones (bit_xor left (2 ^ 2 ^ m - 1)) ≡ 2 ^ m - ones left
  unfolding distance weight
  ones_flipped =
      let others : sum_below (λ p. difference (bit left p) (bit (2 ^ 2 ^ m - 1) p)) (2 ^ m) + sum_below (bit left) (2 ^ m) ≡ 2 ^ m =
      sym (sum_add (λ p. difference (bit left p) (bit (2 ^ 2 ^ m - 1) p)) (bit left) (2 ^ m))
      ∙ sum_ext (2 ^ m) (λ p l. one_of_two p l)
      ∙ sum_of_ones (2 ^ m) in
      omega (arith, others, ones_xor (2 ^ m) left (2 ^ 2 ^ m - 1) narrow (omega (arith, pow_pos (2 ^ m))), weight_ones (2 ^ m) left narrow)
    where
      one_of_two : (p : ℕ) → p < 2 ^ m → difference (bit left p) (bit (2 ^ 2 ^ m - 1) p) + bit left p ≡ 1
      one_of_two p l = rw (bit_all_ones (2 ^ m) p l) (omega (arith, bit_bit left p))

module _ (r m chunk left rows : ℕ) (six : m ≤ 6) (here : VotedDown r m chunk 1 left rows) where
  -- the one set of this size
  begun : RoundMet m 0 left rows (0 ∷ []) left rows
  unfolding sum_below weight those sets_of
  begun = round_starts m 0 left rows here.narrow

  twice_ones : 2 * ones left ≡ 2 * votes_for_one m 0 (bit left)
  twice_ones = ap (λ (v : ℕ). 2 * v) (sym (votes_of_none m left six here.narrow))

  ended : (left' found : ℕ) → RoundMet m 0 left rows [] left' found → VotedDown r m chunk 0 left' found
  ended left' found met =
      let done = round_ends m 0 left rows left' found six met in voting_goes_on r m chunk 0 left rows here left' found done.0 done.1

  pub taken_off : 2 ^ m < 2 * ones left → VotedDown r m chunk 0 (bit_xor left (2 ^ 2 ^ m - 1)) (rows * 2 + 1)
  taken_off most =
      ended (bit_xor left (2 ^ 2 ^ m - 1)) (rows * 2 + 1)
      (voted_for m 0 left rows [] 0 left rows begun (pow_pos m)
      (most_for_one m 0 (bit left) (2 * ones left) (2 ^ m) twice_ones (sym (all_classes m)) most)
      (2 ^ 2 ^ m - 1) (sym (product_of_none m)))

  pub not_taken_off : 2 * ones left ≤ 2 ^ m → VotedDown r m chunk 0 left (rows * 2)
  not_taken_off no_most =
      ended left (rows * 2)
      (not_voted m 0 left rows [] 0 left rows begun (pow_pos m)
      (not_most_for_one m 0 (bit left) (2 * ones left) (2 ^ m) twice_ones (sym (all_classes m)) no_most))
