-- All rounds of votes, from the sets of r variables down: what is left and the rows found stand for the rounds done. A round depends
-- on the 2^m positions alone, so its laws hold of the number that has them as its bits. Assumes nothing.
use mathlib.Core.Path.{◌≡◌, refl, sym, ap, ap₂, ◌∙◌, fun_ext}
use mathlib.Core.Bool.{true, cond}
use mathlib.Core.List.{List, [], ◌∷◌, ◌++◌}
use Prim.Native.Nat.{ℕ, zero, suc, ◌+◌, ◌-◌, ◌*◌, ◌/◌, ◌%◌, ◌^◌, ◌≤◌, ◌<◌}
use native.Mathlib.Nat.{mul-le-mul_right, le_trans, sub_self, sub-zero}
use native.Mathlib.Omega.{arith}
use lib.Bits.{bit_or}
use lib.Count.{ones}
use lib.Dec.{leb, ltb, eqb}
use lib.ListN.{length, get_or, length-append}
use lib.Pow.{pow_mono, pow-add}
use borrow.Author.Tests.{eqb-true, lt-leb, le-leb}
use Rattle.bits.specs.Sums.{sum_below, sum_over}
use Rattle.bits.specs.Places.{bit, weight}
use Rattle.bits.proofs.Sums.{sum_ext}
use Rattle.bits.proofs.Binary.{weight_ones}
use Rattle.bits.proofs.Counting.{those_pass}
use Rattle.model.specs.Card.{radius}
use Rattle.model.specs.Order.{gray}
use Rattle.model.specs.Reading.{within_radius}
use Rattle.model.specs.ReedMuller.{sets_of, sets_up_to, count_of_sets, reed_muller, class_sum, classes, votes_for_one}
use Rattle.model.specs.ReedMuller.{coefficient, vote_round, after_rounds, voted}
use Rattle.model.specs.ReedMuller.{product, voted_rows, voted_number, voted_distance, voted_within, voted_reading}
use Rattle.reed_muller_theory.proofs.Vote.{vote_bit}
use Rattle.reed_muller_theory.proofs.ReedMullerDistance.{reed_muller_distance}
use Rattle.reed_muller_theory.proofs.VotedReading.{voted_rows_below, number_is, tied_is_unreadable}
use Rattle.reed_muller_theory.proofs.LeftOver.{left_count}
use Rattle.reed_muller.specs.RoundResult.{bits_then, rows_after, Tied, LeftBy}
use Rattle.reed_muller.proofs.RoundSteps.{bits_bound}
use Rattle.model.specs.Reading.{Codeword, Unreadable}

-- ---- a round depends on the positions alone

module _ (m : ℕ) (y x : ℕ → ℕ) (alike : (p : ℕ) → p < 2 ^ m → y p ≡ x p) where
  class_sum_alike : (S c : ℕ) → class_sum m S y c ≡ class_sum m S x c
  unfolding class_sum
  class_sum_alike S c = ap (λ (s : ℕ). s % 2) (sum_ext (2 ^ m) (λ p l. ap (λ (b : ℕ). cond (eqb (bit_or p S) c) b 0) (alike p l)))

  votes_alike : (S : ℕ) → votes_for_one m S y ≡ votes_for_one m S x
  unfolding votes_for_one
  votes_alike S = sum_ext (2 ^ m) (λ c l. ap (λ (s : ℕ). product S c * s) (class_sum_alike S c))

  coefficient_alike : (S : ℕ) → coefficient m y S ≡ coefficient m x S
  unfolding coefficient
  coefficient_alike S = ap (λ (v : ℕ). cond (ltb (classes m S) (2 * v)) 1 0) (votes_alike S)

  round_alike : (s p : ℕ) → p < 2 ^ m → vote_round m s y p ≡ vote_round m s x p
  unfolding vote_round
  round_alike s p l =
      ap₂ (λ (a b : ℕ). (a + b) % 2) (alike p l)
      (ap (sum_over (sets_of m s)) (fun_ext (λ S. ap (λ (c : ℕ). c * product S p) (coefficient_alike S))))

-- ---- the rows found

bits_append : (k l : List ℕ) (f : ℕ → ℕ) (above : ℕ) → bits_then (k ++ l) f above ≡ bits_then k f (bits_then l f above)
unfolding bits_then
bits_append [] l f above = refl
bits_append (S ∷ k) l f above = ap (λ (x : ℕ). f S + 2 * x) (bits_append k l f above)

bits_alike : (l : List ℕ) (f g : ℕ → ℕ) (above : ℕ) → ((i : ℕ) → i < length l → f (get_or l i 0) ≡ g (get_or l i 0))
    → bits_then l f above ≡ bits_then l g above
unfolding bits_then
bits_alike [] f g above same = refl
bits_alike (S ∷ l) f g above same =
    ap₂ (λ (a b : ℕ). a + 2 * b) (same 0 (omega arith)) (bits_alike l f g above (λ i h. same (suc i) (omega arith)))

-- with nothing above them they are the sum of the bits, each times its power of two
bits_sum : (l : List ℕ) (f : ℕ → ℕ) → bits_then l f 0 ≡ sum_below (λ z. f (get_or l z 0) * 2 ^ z) (length l)
unfolding bits_then sum_below
bits_sum [] f = refl
bits_sum (S ∷ l) f =
    rw (bits_sum l f) (sym (first_bit (λ z. f (get_or (S ∷ l) z 0)) (length l)))
  where
    first_bit : (g : ℕ → ℕ) (d : ℕ) → sum_below (λ z. g z * 2 ^ z) (suc d) ≡ g 0 + 2 * sum_below (λ z. g (suc z) * 2 ^ z) d
    first_bit g zero = omega arith
    first_bit g (suc d) = let twice : 2 ^ suc d ≡ 2 * 2 ^ d = omega arith in rw (first_bit g d, twice) (omega arith)

-- ---- the rounds still to come

-- the sets of fewer than s variables
unfoldable pub sets_below : (m s : ℕ) → List ℕ
sets_below m zero = []
sets_below m (suc s) = sets_up_to m s

below_parts : (m s : ℕ) → sets_up_to m s ≡ sets_below m s ++ sets_of m s
unfolding sets_below sets_up_to
below_parts m zero = refl
below_parts m (suc s) = refl

pub record VotedDown (r m chunk size left rows : ℕ) : Type 0 where
  pub started : size ≤ suc r
  pub narrow : left < 2 ^ 2 ^ m
  pub bits : (p : ℕ) → p < 2 ^ m → bit left p ≡ after_rounds r m (bit chunk) (suc r - size) p
  pub counted : bits_then (sets_below m size) (voted r m (bit chunk)) rows ≡ voted_rows r m (bit chunk)
  pub room : (rows + 1) * 2 ^ length (sets_below m size) ≤ 4096

pub voting_starts : (r m chunk : ℕ) → chunk < 2 ^ 2 ^ m → count_of_sets r m ≤ 12 → VotedDown r m chunk (suc r) chunk 0
unfolding sets_below after_rounds voted_rows count_of_sets
voting_starts r m chunk narrow few =
    record {
      started = omega arith;
      narrow = narrow;
      bits = λ p l. rw (sub_self (suc r));
      counted = bits_sum (sets_up_to m r) (voted r m (bit chunk));
      room = omega (arith, pow_mono {i = count_of_sets r m} {j = 12} few);
    }

-- the round of size s
module _ (r m chunk s left rows : ℕ) (here : VotedDown r m chunk (suc s) left rows) where
  done : ℕ → ℕ
  done = after_rounds r m (bit chunk) (r - s)

  alike : (p : ℕ) → p < 2 ^ m → bit left p ≡ done p
  unfolding done
  alike p l = let back : suc r - suc s ≡ r - s = omega arith in rw back at (here.bits p l)

  -- a vote of the round is the vote on what is left of the chunk by then
  voted_here : (S : ℕ) → weight m S ≡ s → voted r m (bit chunk) S ≡ coefficient m (bit left) S
  unfolding voted done
  voted_here S size = rw size (sym (coefficient_alike m (bit left) done alike S))

  next_bits : (left' : ℕ) → LeftBy m s left left' → (p : ℕ) → p < 2 ^ m → bit left' p ≡ after_rounds r m (bit chunk) (suc r - s) p
  unfolding after_rounds done
  next_bits left' by p l =
      let later : suc r - s ≡ suc (r - s) = omega (arith, here.started) in
      let now : s ≡ r - (r - s) = omega (arith, here.started) in
      rw later (by.bits p l ∙ round_alike m (bit left) done alike s p l ∙ ap (λ (t : ℕ). vote_round m t done p) now)

  next_counted : bits_then (sets_below m s) (voted r m (bit chunk)) (rows_after m s left rows) ≡ voted_rows r m (bit chunk)
  unfolding sets_below sets_of
  next_counted =
      ap (bits_then (sets_below m s) (voted r m (bit chunk)))
      (sym (bits_alike (sets_of m s) (voted r m (bit chunk)) (coefficient m (bit left)) rows
      (λ i h. voted_here (get_or (sets_of m s) i 0) (eqb-true _ s (those_pass (λ S. eqb (weight m S) s) (2 ^ m) i h)))))
      ∙ sym (bits_append (sets_below m s) (sets_of m s) (voted r m (bit chunk)) rows)
      ∙ ap (λ (l : List ℕ). bits_then l (voted r m (bit chunk)) rows) (sym (below_parts m s))
      ∙ here.counted

  next_room : (rows_after m s left rows + 1) * 2 ^ length (sets_below m s) ≤ 4096
  unfolding sets_below
  next_room =
      let before : ℕ = 2 ^ length (sets_below m s) in
      let own : ℕ = 2 ^ length (sets_of m s) in
      let whole : 2 ^ length (sets_up_to m s) ≡ before * own =
      ap (λ (l : List ℕ). 2 ^ length l) (below_parts m s)
      ∙ ap (λ (e : ℕ). 2 ^ e) (length-append (sets_below m s) (sets_of m s))
      ∙ pow-add 2 (length (sets_below m s)) (length (sets_of m s)) in
      let bound : (rows_after m s left rows + 1) * before ≤ (rows + 1) * own * before =
      mul-le-mul_right before (bits_bound (sets_of m s) (coefficient m (bit left)) rows (vote_bit m (bit left))) in
      le_trans bound (rw (exchange (rows + 1) own before, ← whole) here.room)
    where
      exchange : (a b c : ℕ) → a * b * c ≡ a * (c * b)
      exchange a b c = omega arith

  pub voting_goes_on : (left' rows' : ℕ) → LeftBy m s left left' → rows' ≡ rows_after m s left rows → VotedDown r m chunk s left' rows'
  voting_goes_on left' rows' by is =
      rw is
      (record { started = omega (arith, here.started); narrow = by.narrow; bits = next_bits left' by; counted = next_counted; room = next_room })

  -- a tie shows that the chunk is not read
  pub voting_tied : r ≤ m → Tied m s left → Unreadable ≡ voted_reading r m (bit chunk)
  unfolding voted_reading done
  voting_tied order (S, own, size, tie) =
      let left_tied : 2 * votes_for_one m S (after_rounds r m (bit chunk) (r - weight m S)) ≡ classes m S =
      rw size (ap (λ (v : ℕ). 2 * v) (sym (votes_alike m (bit left) done alike S)) ∙ tie) in
      rw (tied_is_unreadable r m order (bit chunk) S own (omega (arith, here.started)) left_tied)

-- ---- after all rounds

module _ (r m chunk left rows : ℕ) (order : r ≤ m) (here : VotedDown r m chunk 0 left rows) where
  -- the ones left are the distance
  left_ones : ones left ≡ voted_distance r m (bit chunk)
  unfolding weight
  left_ones =
      sym (weight_ones (2 ^ m) left here.narrow)
      ∙ sum_ext (2 ^ m) (λ p l. here.bits p l ∙ ap (λ (j : ℕ). after_rounds r m (bit chunk) j p) (sub-zero (suc r)))
      ∙ left_count r m (bit chunk)

  -- t, by the least distance
  t_is : (t : ℕ) → t ≡ (2 ^ (m - r) - 1) / 2 → radius (reed_muller r m) ≡ t
  t_is t is = ap (λ (d : ℕ). (d - 1) / 2) (reed_muller_distance r m order) ∙ sym is

  pub not_accepted : (t differing : ℕ) → t ≡ (2 ^ (m - r) - 1) / 2 → differing ≡ ones left → t < differing
      → Unreadable ≡ voted_reading r m (bit chunk)
  unfolding voted_reading voted_within voted_distance within_radius
  not_accepted t differing is count far =
      rw (lt-leb (voted_distance r m (bit chunk)) (radius (reed_muller r m)) (omega (arith, left_ones, t_is t is)))

  pub accepted : (t differing number : ℕ) → t ≡ (2 ^ (m - r) - 1) / 2 → differing ≡ ones left → differing ≤ t → gray number ≡ rows
      → ((k : ℕ) → rows < 2 ^ k → number < 2 ^ k) → Codeword number differing ≡ voted_reading r m (bit chunk)
  unfolding voted_reading voted_within within_radius voted_distance sets_below bits_then
  accepted t differing number is count near named below =
      let found : rows ≡ voted_rows r m (bit chunk) = here.counted in
      let is_number : voted_number r m (bit chunk) ≡ number =
      number_is r m (bit chunk) number (below (count_of_sets r m) (rw found (voted_rows_below r m (bit chunk)))) (named ∙ found) in
      let within : leb (voted_distance r m (bit chunk)) (radius (reed_muller r m)) ≡ true =
      le-leb (voted_distance r m (bit chunk)) (radius (reed_muller r m)) (omega (arith, left_ones, t_is t is)) in
      rw within (ap₂ Codeword (sym is_number) (count ∙ left_ones))
