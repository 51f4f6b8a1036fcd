-- What is left after all rounds is where the chunk and the codeword that was voted for differ: each product that was voted for has been
-- taken off once, in the round of its size. Assumes nothing.
use mathlib.Core.Path.{◌≡◌, sym, ap, ◌∙◌}
use mathlib.Core.Logic.{◌⊎◌, inl, inr}
use Prim.Native.Nat.{ℕ, zero, suc, ◌+◌, ◌-◌, ◌*◌, ◌%◌, ◌^◌, ◌≤◌, ◌<◌}
use native.Mathlib.Nat.{sub-zero, sub_self}
use native.Mathlib.Omega.{arith}
use lib.Dec.{eqb}
use borrow.Author.Tests.{eq-eqb, ne_eqb}
use Rattle.bits.specs.Sums.{sum_below, sum_over, distance, difference}
use Rattle.bits.specs.Places.{bit, weight}
use Rattle.bits.proofs.Numbers.{eq_or_ne}
use Rattle.bits.proofs.Sums.{sum_ext, sum_over_append, sum_over_entries}
use Rattle.bits.proofs.Counting.{where_true}
use Rattle.model.specs.Order.{codeword}
use Rattle.model.specs.Reading.{chunk_distance}
use Rattle.model.specs.ReedMuller.{product, sets_of, sets_up_to, set_of, count_of_sets, product_of, reed_muller, coefficient}
use Rattle.model.specs.ReedMuller.{vote_round, after_rounds, voted}
use Rattle.model.specs.ReedMuller.{voted_rows, voted_number, voted_distance}
use Rattle.reed_muller_theory.proofs.Sets.{sum_over_sets_of}
use Rattle.reed_muller_theory.proofs.Polynomials.{bit_of_rows, product_row_bit, row_is_product}
use Rattle.reed_muller_theory.proofs.VotedReading.{row_voted, number_found}

module _ (r m : ℕ) (y : ℕ → ℕ) (p : ℕ) where
  -- what a set adds at p if it was voted for
  abbrev share : ℕ → ℕ
  share S = voted r m y S * product S p

  -- a round takes off the shares of the sets of its size
  round_shares : (j : ℕ) → j ≤ r
      → sum_over (sets_of m (r - j)) (λ S. coefficient m (after_rounds r m y j) S * product S p) ≡ sum_over (sets_of m (r - j)) share
  unfolding voted
  round_shares j l =
      sum_over_sets_of m (r - j) (λ S. coefficient m (after_rounds r m y j) S * product S p)
      ∙ sum_ext (2 ^ m) (λ S h. of_size S (eq_or_ne (weight m S) (r - j)))
      ∙ sym (sum_over_sets_of m (r - j) share)
    where
      of_size : (S : ℕ) → (weight m S ≡ r - j) ⊎ (weight m S ≡ r - j → ⊥)
          → where_true (λ S. eqb (weight m S) (r - j)) (λ S. coefficient m (after_rounds r m y j) S * product S p) S
          ≡ where_true (λ S. eqb (weight m S) (r - j)) share S
      of_size S (inl is) =
          let back : r - weight m S ≡ j = omega arith in rw (eq-eqb (weight m S) (r - j) is, back)
      of_size S (inr other) = rw (ne_eqb (weight m S) (r - j) other)

  one_round_more : (a b c : ℕ) → ((a + b) % 2 + c) % 2 ≡ (a + (c + b)) % 2
  one_round_more a b c = omega arith

  size_more : (s : ℕ) → sum_over (sets_up_to m (suc s)) share ≡ sum_over (sets_up_to m s) share + sum_over (sets_of m (suc s)) share
  unfolding sets_up_to
  size_more s = sum_over_append (sets_up_to m s) (sets_of m (suc s)) share

  -- what is left, and the shares that are still to be taken off, make up the chunk and all shares
  so_far : (j : ℕ) → j ≤ r → (after_rounds r m y j p + sum_over (sets_up_to m (r - j)) share) % 2 ≡ (y p + sum_over (sets_up_to m r) share) % 2
  unfolding after_rounds vote_round
  so_far zero l = rw (sub-zero r)
  so_far (suc j) l =
      let still : ℕ = sum_over (sets_up_to m (r - suc j)) share in
      let off : ℕ = sum_over (sets_of m (r - j)) share in
      let parts : sum_over (sets_up_to m (r - j)) share ≡ still + off =
      let here : r - j ≡ suc (r - suc j) = omega arith in rw here (size_more (r - suc j)) in
      ap (λ (x : ℕ). ((after_rounds r m y j p + x) % 2 + still) % 2) (round_shares j (omega arith))
      ∙ one_round_more (after_rounds r m y j p) off still
      ∙ ap (λ (x : ℕ). (after_rounds r m y j p + x) % 2) (sym parts)
      ∙ so_far j (omega arith)

  after_all : after_rounds r m y (suc r) p ≡ (y p + sum_over (sets_up_to m r) share) % 2
  unfolding after_rounds vote_round sets_up_to
  after_all =
      ap (λ (x : ℕ). (after_rounds r m y r p + x) % 2) (round_shares r (omega arith))
      ∙ ap (λ (s : ℕ). (after_rounds r m y r p + sum_over (sets_of m s) share) % 2) (sub_self r)
      ∙ rw (sub_self r) at (so_far r (omega arith))

  -- the shares make up the codeword that was voted for
  voted_codeword : p < 2 ^ m → bit (codeword (reed_muller r m) (voted_number r m y)) p ≡ sum_over (sets_up_to m r) share % 2
  unfolding codeword count_of_sets
  voted_codeword h =
      rw (number_found r m y).1
      (bit_of_rows (product_of r m) (count_of_sets r m) (voted_rows r m y) p
      ∙ ap (λ (x : ℕ). x % 2) (sum_ext (count_of_sets r m) by_row ∙ sym (sum_over_entries (sets_up_to m r) share)))
    where
      by_row : (z : ℕ) → z < count_of_sets r m → bit (voted_rows r m y) z * bit (product_of r m z) p ≡ share (set_of r m z)
      by_row z l = rw (row_voted r m y z l, row_is_product r m z l, product_row_bit m (set_of r m z) p h)

  flipped_off : (a s : ℕ) → (a + s) % 2 ≡ difference (s % 2) a
  flipped_off a s = omega arith

  pub left_over : p < 2 ^ m → after_rounds r m y (suc r) p ≡ difference (bit (codeword (reed_muller r m) (voted_number r m y)) p) (y p)
  left_over h = after_all ∙ flipped_off (y p) (sum_over (sets_up_to m r) share) ∙ ap (λ (x : ℕ). difference x (y p)) (sym (voted_codeword h))

-- so the ones that are left count the places in which the two differ
pub left_count : (r m : ℕ) (y : ℕ → ℕ) → sum_below (after_rounds r m y (suc r)) (2 ^ m) ≡ voted_distance r m y
unfolding voted_distance chunk_distance distance
left_count r m y = sum_ext (2 ^ m) (λ p h. left_over r m y p h)
