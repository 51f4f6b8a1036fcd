-- Document 02, P1: Reed-Muller codes by their order r and number of variables m, and the majority voting of document 004.
-- A set of variables is an m-bit number S, whose bit v says whether variable v is in it. A position p of the code, one of 2^m, gives
-- variable v the value of its bit v. A bit function y gives each position 0 or 1. Assumes nothing.
use Rattle.std.specs.Prelude.{Bool, cond, ◌&&◌, List, ◌++◌, ℕ, zero, suc, ◌+◌, ◌-◌, ◌*◌, ◌%◌, ◌^◌, leb, ltb, eqb, length, get_or}
use Rattle.std.specs.Int.Bits.{bit_and, bit_or}
use Rattle.bits.specs.Sums.{sum_below, sum_over}
use Rattle.bits.specs.Places.{weight}
use Rattle.bits.specs.Searches.{first}
use Rattle.bits.specs.Counting.{those}
use Rattle.model.specs.Card.{Code, code_with}
use Rattle.model.specs.CardBytes.{card_of}
use Rattle.model.specs.Order.{gray}
use Rattle.model.specs.Reading.{Chunk, Codeword, Unreadable, chunk_distance, within_radius}

-- ---- the rows

-- the product of the variables of S: position p is 1 exactly when p has every bit of S
unfoldable pub product : (S p : ℕ) → ℕ
product S p = cond (eqb (bit_and p S) S) 1 0

-- the sets of s of the m variables, by S
unfoldable pub sets_of : (m s : ℕ) → List ℕ
sets_of m s = those (λ S. eqb (weight m S) s) (2 ^ m)

-- the sets of at most r of the m variables, by size and then by S
unfoldable pub sets_up_to : (m r : ℕ) → List ℕ
sets_up_to m zero = sets_of m 0
sets_up_to m (suc r) = sets_up_to m r ++ sets_of m (suc r)

-- the set whose product row z is
abbrev pub set_of : (r m z : ℕ) → ℕ
set_of r m z = get_or (sets_up_to m r) z 0

-- k: how many sets of at most r variables there are
unfoldable pub count_of_sets : (r m : ℕ) → ℕ
count_of_sets r m = length (sets_up_to m r)

-- the product of S as a row of 2^m places
unfoldable pub product_row : (m S : ℕ) → ℕ
product_row m S = sum_below (λ p. product S p * 2 ^ p) (2 ^ m)

-- row z of the rows 0 to k - 1; past them there is no row, and zero stands for it
unfoldable pub product_of : (r m z : ℕ) → ℕ
product_of r m z = cond (ltb z (count_of_sets r m)) (product_row m (set_of r m z)) 0

-- the Reed-Muller code of order r in m variables
abbrev pub reed_muller : (r m : ℕ) → Code
reed_muller r m = code_with (2 ^ m) (count_of_sets r m) (product_of r m)

-- its card for a track
unfoldable pub reed_muller_card : (track r m : ℕ) → List ℕ
reed_muller_card track r m = card_of (2 ^ m) (count_of_sets r m) track (product_of r m)

-- m is 1 to 6, r is 0 to m, and k is at most 12
unfoldable pub order_within_limits : (r m : ℕ) → Bool
order_within_limits r m = leb 1 m && leb m 6 && leb r m && leb (count_of_sets r m) 12

-- ---- the votes of document 004

-- Its t, v and r are r, m and the round's size s here. Three slips of its text are mended: S has the size of the round, not its t; what
-- was found is taken off, by a sum modulo 2; and its bound is that fewer than 2^(m-r-1) bits are damaged, where it prints another exponent.
-- By document 02 the bound is no premise: a result is accepted only within the radius, at the end.

-- The positions that agree in all variables outside S are a class of S. It is named by its greatest position, the one that has
-- every bit of S: position p lies in class c when p, joined with S, is c. The sum of y over class c, modulo 2:
unfoldable pub class_sum : (m S : ℕ) (y : ℕ → ℕ) (c : ℕ) → ℕ
class_sum m S y c = sum_below (λ p. cond (eqb (bit_or p S) c) (y p) 0) (2 ^ m) % 2

-- how many classes S has, and how many of them sum to 1
unfoldable pub classes : (m S : ℕ) → ℕ
classes m S = sum_below (product S) (2 ^ m)

unfoldable pub votes_for_one : (m S : ℕ) (y : ℕ → ℕ) → ℕ
votes_for_one m S y = sum_below (λ c. product S c * class_sum m S y c) (2 ^ m)

-- step 2 (a), the coefficient of S: what most of its class sums are; 0 on a tie
unfoldable pub coefficient : (m : ℕ) (y : ℕ → ℕ) (S : ℕ) → ℕ
coefficient m y S = cond (ltb (classes m S) (2 * votes_for_one m S y)) 1 0

-- step 2 (b), the round of size s: the products of s variables that were voted for are taken off y, modulo 2
unfoldable pub vote_round : (m s : ℕ) (y : ℕ → ℕ) (p : ℕ) → ℕ
vote_round m s y p = (y p + sum_over (sets_of m s) (λ S. coefficient m y S * product S p)) % 2

-- what is left of y after the first j rounds; they go from size r down to size 0
unfoldable pub after_rounds : (r m : ℕ) (y : ℕ → ℕ) (j : ℕ) → ℕ → ℕ
after_rounds r m y zero = y
after_rounds r m y (suc j) = vote_round m (r - j) (after_rounds r m y j)

-- the coefficient of S that the votes find, in the round of its size
unfoldable pub voted : (r m : ℕ) (y : ℕ → ℕ) (S : ℕ) → ℕ
voted r m y S = coefficient m (after_rounds r m y (r - weight m S)) S

-- the rows that were voted for, as a number: bit z is the coefficient of row z's set
unfoldable pub voted_rows : (r m : ℕ) (y : ℕ → ℕ) → ℕ
voted_rows r m y = sum_below (λ z. voted r m y (set_of r m z) * 2 ^ z) (count_of_sets r m)

-- the codeword that is their sum: the number p for which Gray(p) names these rows
unfoldable pub voted_number : (r m : ℕ) (y : ℕ → ℕ) → ℕ
voted_number r m y = first (λ p. eqb (gray p) (voted_rows r m y)) (2 ^ count_of_sets r m)

-- in how many places it and y differ, and whether that is within t
unfoldable pub voted_distance : (r m : ℕ) (y : ℕ → ℕ) → ℕ
voted_distance r m y = chunk_distance (reed_muller r m) y (voted_number r m y)

unfoldable pub voted_within : (r m : ℕ) (y : ℕ → ℕ) → Bool
voted_within r m y = within_radius (reed_muller r m) y (voted_number r m y)

-- what a chunk reads as by voting: the result is accepted only within t bits
unfoldable pub voted_reading : (r m : ℕ) (y : ℕ → ℕ) → Chunk
voted_reading r m y = cond (voted_within r m y) (Codeword (voted_number r m y) (voted_distance r m y)) Unreadable
