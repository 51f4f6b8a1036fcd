-- One round of votes, set by set from the end of those of one size in the table down to their start: what is left of y and what was
-- found stand for the sets met so far. Assumes nothing.
use Rattle.std.proofs.Common.{◌≡◌, refl, sym, ap, ◌∙◌, List, [], ◌∷◌, ◌++◌, ℕ, zero, suc, ◌+◌, ◌-◌, ◌*◌, ◌%◌, ◌^◌, ◌≤◌, ◌<◌, length, get_or, append_assoc, length-append, arith}
use Rattle.std.proofs.lemmas.List.{append-nil, get_or_at}
use mathlib.Core.Logic.{⊎_elim}
use native.Mathlib.Nat.{eq-zero-or-pos, mul-le-mul_left}
use lib.Bits.{bit_xor, xor_lt}
use lib.Dec.{eqb}
use lib.Pow.{pow_mono}
use borrow.Author.Tests.{lt-ltb, le-ltb, eqb-true}
use Rattle.bits.specs.Sums.{sum_over, difference}
use Rattle.bits.specs.Places.{bit, weight}
use Rattle.bits.proofs.Sums.{sum_mono}
use Rattle.bits.proofs.Binary.{bit_bit, bit_xor_lem, weight_zero, weight_wider}
use Rattle.bits.proofs.Counting.{those_pass, kept, kept_below, kept_above, kept_append}
use Rattle.model.specs.ReedMuller.{product, sets_of, sets_up_to, count_of_sets, product_row, class_sum, classes, votes_for_one}
use Rattle.model.specs.ReedMuller.{coefficient, vote_round}
use Rattle.reed_muller_theory.proofs.Vote.{vote_bit}
use Rattle.reed_muller_theory.proofs.ReedMullerDistance.{classes_of_largest}
use Rattle.reed_muller_theory.proofs.Polynomials.{product_row_bit, product_row_narrow}
use Rattle.reed_muller_theory.proofs.FewerVariables.{kept_sets_of}
use Rattle.reed_muller.specs.RoundResult.{bits_then, rows_after, LeftBy}
use Rattle.reed_muller.proofs.Tables.{set_narrow}

-- ---- bits of the entries of a list

-- with a bit for each entry put below it, a number grows by at most as many bits
pub bits_bound : (l : List ℕ) (f : ℕ → ℕ) (above : ℕ) → ((S : ℕ) → f S < 2) → bits_then l f above + 1 ≤ (above + 1) * 2 ^ length l
unfolding bits_then
bits_bound [] f above bits = omega arith
bits_bound (S ∷ l) f above bits =
    let twice : 2 ^ suc (length l) ≡ 2 * 2 ^ length l = omega arith in
    rw twice (omega (arith, bits_bound l f above bits, bits S))

-- as the votes are compared with the classes
pub most_for_one : (m S : ℕ) (y : ℕ → ℕ) (twice classes' : ℕ) → twice ≡ 2 * votes_for_one m S y → classes' ≡ classes m S → classes' < twice
    → coefficient m y S ≡ 1
unfolding coefficient
most_for_one m S y twice classes' is all more = rw (lt-ltb (classes m S) (2 * votes_for_one m S y) (omega arith))

pub not_most_for_one : (m S : ℕ) (y : ℕ → ℕ) (twice classes' : ℕ) → twice ≡ 2 * votes_for_one m S y → classes' ≡ classes m S
    → twice ≤ classes'
    → coefficient m y S ≡ 0
unfolding coefficient
not_most_for_one m S y twice classes' is all no_more = rw (le-ltb (classes m S) (2 * votes_for_one m S y) (omega arith))

sum_bit : (m S : ℕ) (y : ℕ → ℕ) (c : ℕ) → class_sum m S y c < 2
unfolding class_sum
sum_bit m S y c = omega arith

-- no more classes sum to 1 than there are
pub votes_bound : (m S : ℕ) (y : ℕ → ℕ) → votes_for_one m S y ≤ classes m S
unfolding votes_for_one classes
votes_bound m S y = sum_mono (2 ^ m) (λ c l. at_most (product S c) (class_sum m S y c) (sum_bit m S y c))
  where
    at_most : (a b : ℕ) → b < 2 → a * b ≤ a
    at_most a b h = let m : a * b ≤ a * 1 = mul-le-mul_left a (omega arith) in omega arith

-- ---- the sets of one size

module _ (s S : ℕ) (before after : List ℕ) (is : before ++ (S ∷ after) ≡ sets_of 6 s) where
  inside : length before < length (sets_of 6 s)
  inside = omega (arith, ap length is, length-append before (S ∷ after))

  here : get_or (sets_of 6 s) (length before) 0 ≡ S
  here = rw (← is) (get_or_at before S after 0 (length before) refl)

  narrow_set : S < 64
  narrow_set = rw here at (set_narrow s (length before) inside)

  -- each of them has s variables
  size_of_set : weight 6 S ≡ s
  unfolding sets_of
  size_of_set = rw here at (eqb-true _ s (those_pass (λ S. eqb (weight 6 S) s) (2 ^ 6) (length before) inside))

-- they are not more than the rows of order s
few_sets : (m s : ℕ) → length (sets_of m s) ≤ count_of_sets s m
unfolding count_of_sets sets_up_to
few_sets m zero = omega arith
few_sets m (suc s) = omega (arith, length-append (sets_up_to m s) (sets_of m (suc s)))

-- ---- the sets met so far, from the end of those of one size

-- `rest` are those that are left to look at
pub record RoundMet (m s y rows : ℕ) (rest : List ℕ) (left found : ℕ) : Type 0 where
  pub met : List ℕ
  pub parts : rest ++ met ≡ sets_of 6 s
  pub narrow : left < 2 ^ 2 ^ m
  pub bits : (p : ℕ) → p < 2 ^ m
      → bit left p ≡ (bit y p + sum_over (kept (2 ^ m) met) (λ S. coefficient m (bit y) S * product S p)) % 2
  pub counted : found ≡ bits_then (kept (2 ^ m) met) (coefficient m (bit y)) rows

module _ (m s y rows : ℕ) where
  -- none at first
  pub round_starts : y < 2 ^ 2 ^ m → RoundMet m s y rows (sets_of 6 s) y rows
  unfolding kept sum_over bits_then
  round_starts narrow =
      record { met = []; parts = append-nil (sets_of 6 s); narrow = narrow; bits = λ p l. omega (arith, bit_bit y p); counted = refl }

  -- all at the end
  pub round_ends : (left found : ℕ) → m ≤ 6 → RoundMet m s y rows [] left found → LeftBy m s y left × (found ≡ rows_after m s y rows)
  unfolding vote_round
  round_ends left found six here =
      let all : kept (2 ^ m) here.met ≡ sets_of m s = rw here.parts (kept_sets_of m 6 s six) in
      (record { narrow = here.narrow; bits = λ p l. rw all at (here.bits p l) }, rw all at here.counted)

  -- one set more
  module _ (rest : List ℕ) (S left found : ℕ) (here : RoundMet m s y rows (rest ++ (S ∷ [])) left found) where
    more : rest ++ (S ∷ here.met) ≡ sets_of 6 s
    more = sym (append_assoc rest (S ∷ []) here.met) ∙ here.parts

    size : weight 6 S ≡ s
    size = size_of_set s S rest here.met more

    pub narrow : S < 64
    narrow = narrow_set s S rest here.met more

    -- it is not empty where s is not 0
    pub not_empty : 0 < s → 0 < S
    not_empty some =
        ⊎_elim (λ (none : S ≡ 0). absurd (omega (arith, size, ap (weight 6) none, weight_zero 6))) (λ (one : 0 < S). one) (eq-zero-or-pos S)

    -- a set with another variable is passed over
    pub set_passed : 2 ^ m ≤ S → RoundMet m s y rows rest left found
    set_passed other =
        let same : kept (2 ^ m) (S ∷ here.met) ≡ kept (2 ^ m) here.met = kept_above (2 ^ m) S here.met other in
        record {
          met = S ∷ here.met;
          parts = more;
          narrow = here.narrow;
          bits = λ p l. rw same (here.bits p l);
          counted = rw same here.counted;
        }

    module _ (own : S < 2 ^ m) where
      grown : kept (2 ^ m) (S ∷ here.met) ≡ S ∷ kept (2 ^ m) here.met
      grown = kept_below (2 ^ m) S here.met own

      -- so it has 2^(m-s) classes
      pub own_size : m ≤ 6 → weight m S ≡ s
      own_size six = sym (weight_wider m 6 S six own) ∙ size

      pub classes_are : m ≤ 6 → s ≤ m → classes m S ≡ 2 ^ (m - s)
      classes_are six order = classes_of_largest s m order S own (own_size six)

      -- there is room for one more bit
      pub found_bound : m ≤ 6 → (rows + 1) * 2 ^ count_of_sets s m ≤ 4096 → 2 * found + 2 ≤ 4096
      found_bound six room =
          let bound : found + 1 ≤ (rows + 1) * 2 ^ length (kept (2 ^ m) here.met) =
          rw here.counted (bits_bound (kept (2 ^ m) here.met) (coefficient m (bit y)) rows (vote_bit m (bit y))) in
          let longer : suc (length (kept (2 ^ m) here.met)) ≤ count_of_sets s m =
          omega (
            arith,
            ap length grown,
            ap length (kept_append (2 ^ m) rest (S ∷ here.met)),
            length-append (kept (2 ^ m) rest) (kept (2 ^ m) (S ∷ here.met)),
            ap (λ (l : List ℕ). length (kept (2 ^ m) l)) more,
            ap length (kept_sets_of m 6 s six),
            few_sets m s,
          ) in
          let room_left : (rows + 1) * 2 ^ suc (length (kept (2 ^ m) here.met)) ≤ (rows + 1) * 2 ^ count_of_sets s m =
          mul-le-mul_left (rows + 1) (pow_mono longer) in
          let twice : 2 ^ suc (length (kept (2 ^ m) here.met)) ≡ 2 * 2 ^ length (kept (2 ^ m) here.met) = omega arith in
          omega (arith, bound, rw twice at room_left, room)

      -- a set that is not voted for
      pub not_voted : coefficient m (bit y) S ≡ 0 → RoundMet m s y rows rest left (found * 2)
      unfolding sum_over bits_then
      not_voted none =
          record {
            met = S ∷ here.met;
            parts = more;
            narrow = here.narrow;
            bits = λ p l. rw (grown, none) (here.bits p l ∙ ap (λ (x : ℕ). x % 2) (omega arith));
            counted = rw (grown, none) (omega (arith, here.counted));
          }

      -- a set that is
      pub voted_for : coefficient m (bit y) S ≡ 1 → (row : ℕ) → row ≡ product_row m S
          → RoundMet m s y rows rest (bit_xor left row) (found * 2 + 1)
      unfolding sum_over bits_then
      voted_for one row is =
          record {
            met = S ∷ here.met;
            parts = more;
            narrow = xor_lt (2 ^ m) left row here.narrow (rw is (product_row_narrow m S));
            bits = λ p l.
                rw (grown, one)
                (bit_xor_lem left row p
                ∙ ap (difference (bit left p)) (ap (λ (x : ℕ). bit x p) is ∙ product_row_bit m S p l)
                ∙ ap (λ (x : ℕ). difference x (product S p)) (here.bits p l)
                ∙ one_more (bit y p) (sum_over (kept (2 ^ m) here.met) (λ T. coefficient m (bit y) T * product T p)) (product S p));
            counted = rw (grown, one) (omega (arith, here.counted));
          }
        where
          one_more : (a x q : ℕ) → difference ((a + x) % 2) q ≡ (a + (1 * q + x)) % 2
          one_more a x q = omega arith
