-- The reader that votes keeps the chunk promise's half of plain chunks: where a codeword lies within t of a chunk all votes find its
-- coefficients, and what is answered has been tested. So it answers every chunk as the search does. No vote on a chunk that it reads is
-- tied. Assumes nothing.
use mathlib.Core.Path.{◌≡◌, refl, sym, ◌∙◌, ap}
use mathlib.Core.Bool.{Bool, true, false, cond, true≢false}
use Prim.Native.Nat.{ℕ, ◌+◌, ◌-◌, ◌*◌, ◌%◌, ◌^◌, ◌≤◌, ◌<◌}
use native.Mathlib.Nat.{mod-add-mod, add-mod-mod}
use native.Mathlib.Omega.{arith}
use lib.Dec.{eqb}
use lib.Pow.{pow_pos, le_ones, lt_of_le_ones}
use borrow.Author.Tests.{leb-true, eq-eqb, ne_eqb}
use Rattle.bits.specs.Sums.{sum_below, distance, difference}
use Rattle.bits.specs.Places.{bit, weight}
use Rattle.bits.proofs.Numbers.{not-true}
use Rattle.bits.proofs.Binary.{bit_ext_below}
use Rattle.bits.proofs.Places.{number_below, bit_of_number}
use Rattle.bits.proofs.Searches.{first_is}
use Rattle.model.specs.Card.{radius}
use Rattle.model.specs.Order.{gray, codeword, last_codeword}
use Rattle.model.specs.Reading.{chunk_distance, within_radius, chunk_reading}
use Rattle.model.specs.ReedMuller.{set_of, count_of_sets, reed_muller, classes, votes_for_one, after_rounds, voted}
use Rattle.model.specs.ReedMuller.{voted_rows, voted_number, voted_distance, voted_within, voted_reading}
use Rattle.code_theory.specs.Promise.{Sound, ReadsChunks}
use Rattle.code_theory.proofs.Gray.{gray_below, gray_injective, gray_onto}
use Rattle.code_theory.proofs.Promise.{promise, readers_agree}
use Rattle.reed_muller_theory.proofs.Sets.{set_below, set_size}
use Rattle.reed_muller_theory.proofs.Polynomials.{value_at, coefficient_of, degree_of_codeword, codeword_is_polynomial}
use Rattle.reed_muller_theory.proofs.ReedMullerDistance.{coefficient_bit, coefficient_of_row, reed_muller_distance}
use Rattle.reed_muller_theory.proofs.Vote.{vote_bit, Damaged}
use Rattle.reed_muller_theory.proofs.Rounds.{voted_right, voted_clear}
use Rattle.model.specs.Reading.{Codeword, Unreadable}
use Rattle.model.specs.Reading.{number_read, differing_read, unreadable}

-- ---- the codeword that is voted for

module _ (r m : ℕ) (y : ℕ → ℕ) where
  voted_bit : (S : ℕ) → voted r m y S < 2
  unfolding voted
  voted_bit S = vote_bit m (after_rounds r m y (r - weight m S)) S

  pub voted_rows_below : voted_rows r m y < 2 ^ count_of_sets r m
  unfolding voted_rows
  voted_rows_below = number_below (λ z. voted r m y (set_of r m z)) (λ z. voted_bit (set_of r m z)) (count_of_sets r m)

  -- row z is among the rows voted for where the coefficient of its set is 1
  pub row_voted : (z : ℕ) → z < count_of_sets r m → bit (voted_rows r m y) z ≡ voted r m y (set_of r m z)
  unfolding voted_rows
  row_voted z l = bit_of_number (λ z. voted r m y (set_of r m z)) (λ z. voted_bit (set_of r m z)) (count_of_sets r m) z l

  -- the number whose Gray number names these rows is the one that is found
  pub number_is : (p : ℕ) → p < 2 ^ count_of_sets r m → gray p ≡ voted_rows r m y → voted_number r m y ≡ p
  unfolding voted_number
  number_is p l e =
      first_is (λ q. eqb (gray q) (voted_rows r m y)) (2 ^ count_of_sets r m) p l (eq-eqb (gray p) (voted_rows r m y) e)
      (λ q h. ne_eqb (gray q) (voted_rows r m y) (λ k. omega (arith, gray_injective q p (k ∙ sym e))))

  pub number_found : (voted_number r m y < 2 ^ count_of_sets r m) × (gray (voted_number r m y) ≡ voted_rows r m y)
  number_found =
      let (p, l, e) = gray_onto (count_of_sets r m) (voted_rows r m y) voted_rows_below in
      let is : voted_number r m y ≡ p = number_is p l e in
      rw is (l, e)

-- ---- a chunk with a codeword within t

damaged_value : (v x : ℕ) → x % 2 ≡ (v + difference (v % 2) x) % 2
damaged_value v x = simp (mod-add-mod, add-mod-mod) (omega arith)

module _ (r m : ℕ) (order : r ≤ m) (x : ℕ → ℕ) (p : ℕ) (last : p ≤ last_codeword (reed_muller r m))
    (near : within_radius (reed_muller r m) x p ≡ true) where
  -- the codeword's coefficients, and where it and the chunk differ
  abbrev H : ℕ → ℕ
  H = coefficient_of r m (gray p)

  abbrev difference_at : ℕ → ℕ
  difference_at q = difference (bit (codeword (reed_muller r m) p) q) (x q)

  damaged : Damaged m H difference_at x
  unfolding codeword
  damaged q l = rw (codeword_is_polynomial r m (gray p) q l) (damaged_value (value_at m H q) (x q))

  few : 2 * sum_below difference_at (2 ^ m) < 2 ^ (m - r)
  unfolding within_radius chunk_distance distance
  few =
      let within : sum_below difference_at (2 ^ m) ≤ radius (reed_muller r m) =
      leb-true (sum_below difference_at (2 ^ m)) (radius (reed_muller r m)) near in
      omega (arith, reed_muller_distance r m order, pow_pos (m - r))

  below : p < 2 ^ count_of_sets r m
  unfolding last_codeword
  below = lt_of_le_ones (count_of_sets r m) last

  -- every vote finds the codeword's coefficient ...
  same_rows : voted_rows r m x ≡ gray p
  same_rows =
      bit_ext_below (count_of_sets r m) (voted_rows r m x) (gray p) (voted_rows_below r m x) (gray_below (count_of_sets r m) p below)
      (λ z l.
      row_voted r m x z l
      ∙ voted_right r m order H difference_at (coefficient_bit r m order (gray p)) (degree_of_codeword r m (gray p)) few x damaged
      (set_of r m z) (set_below r m z l) (set_size r m z l)
      ∙ coefficient_of_row r m order (gray p) z l)

  found : voted_number r m x ≡ p
  found = number_is r m x p below (sym same_rows)

  near_is_read : voted_reading r m x ≡ Codeword p (chunk_distance (reed_muller r m) x p)
  unfolding voted_reading voted_within voted_distance
  near_is_read = rw (found, near)

  -- ... and none is tied
  near_is_clear : (S : ℕ) → S < 2 ^ m → weight m S ≤ r → 2 * votes_for_one m S (after_rounds r m x (r - weight m S)) ≡ classes m S → ⊥
  near_is_clear =
      voted_clear r m order H difference_at (coefficient_bit r m order (gray p)) (degree_of_codeword r m (gray p)) few x damaged

-- ---- the promise of plain chunks

-- what is read has been tested
read_is_near : (r m : ℕ) (x : ℕ → ℕ) (p e : ℕ) → voted_reading r m x ≡ Codeword p e
    → (p ≤ last_codeword (reed_muller r m)) × (within_radius (reed_muller r m) x p ≡ true) × (e ≡ chunk_distance (reed_muller r m) x p)
unfolding voted_reading voted_within voted_distance last_codeword number_read differing_read unreadable
read_is_near r m x p e = by_within (within_radius (reed_muller r m) x (voted_number r m x)) refl
  where
    by_within : (t : Bool) → within_radius (reed_muller r m) x (voted_number r m x) ≡ t
        → cond t (Codeword (voted_number r m x) (chunk_distance (reed_muller r m) x (voted_number r m x))) Unreadable ≡ Codeword p e
        → (p ≤ 2 ^ count_of_sets r m - 1) × (within_radius (reed_muller r m) x p ≡ true) × (e ≡ chunk_distance (reed_muller r m) x p)
    by_within true near read =
        let is_p : voted_number r m x ≡ p = ap number_read read in
        let is_e : chunk_distance (reed_muller r m) x (voted_number r m x) ≡ e = ap differing_read read in
        rw (← is_p) (le_ones (count_of_sets r m) (number_found r m x).0, near, sym is_e)
    by_within false near read = let no : ◌≡◌ {A = Bool} true false = ap unreadable read in absurd (true≢false no)

pub voting_keeps : (r m : ℕ) → r ≤ m → ReadsChunks (reed_muller r m) (voted_reading r m)
voting_keeps r m order =
    record { reads = λ x p l near. near_is_read r m order x p l near; within = λ x p e read. read_is_near r m x p e read }

-- so on every chunk, readable or not, it answers as the search does
pub votes_as_search : (r m : ℕ) → r ≤ m → Sound (reed_muller r m) → (x : ℕ → ℕ) → voted_reading r m x ≡ chunk_reading (reed_muller r m) x
votes_as_search r m order sound =
    readers_agree (voted_reading r m) (chunk_reading (reed_muller r m)) (voting_keeps r m order) (promise (reed_muller r m) sound).plain

-- where a vote is tied, the chunk is not read
pub tied_is_unreadable : (r m : ℕ) → r ≤ m → (x : ℕ → ℕ) (S : ℕ) → S < 2 ^ m → weight m S ≤ r
    → 2 * votes_for_one m S (after_rounds r m x (r - weight m S)) ≡ classes m S → voted_within r m x ≡ false
unfolding voted_within last_codeword
tied_is_unreadable r m order x S h size tie =
    not-true (within_radius (reed_muller r m) x (voted_number r m x))
    (λ near. near_is_clear r m order x (voted_number r m x) (le_ones (count_of_sets r m) (number_found r m x).0) near S h size tie)
