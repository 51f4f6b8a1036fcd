-- Entries of the constant tables, each of which is compared as a whole by one computation. Assumes nothing.
use Rattle.std.proofs.Common.{◌≡◌, refl, ap, List, ℕ, zero, suc, ◌+◌, ◌-◌, ◌^◌, ◌≤◌, ◌<◌, length, get_or, take, drop, add-one, arith, ◌∙◌, sym, length-drop, get_or-drop}
use Rattle.std.proofs.lemmas.List.{drop-take}
use Rattle.std.proofs.Math.Seq.{drop-append_seam}
use mathlib.Core.Logic.{⊎_elim}
use lib.Dec.{ltb, eqb}
use lib.Pow.{pow_pos}
use borrow.Author.Tests.{lt-ltb, le-ltb}
use Rattle.bits.specs.Sums.{sum_below}
use Rattle.bits.specs.Places.{bit, weight, list_of}
use Rattle.bits.specs.Counting.{those}
use Rattle.bits.proofs.Numbers.{lt_or_le}
use Rattle.bits.proofs.Binary.{bit_high}
use Rattle.bits.proofs.Shifts.{bit_all_ones}
use Rattle.bits.proofs.Places.{get_or_list_of}
use Rattle.model.specs.ReedMuller.{sets_of, sets_up_to, count_of_sets, product_row}
use Rattle.reed_muller_theory.proofs.Sets.{set_below}
use Rattle.reed_muller_theory.proofs.OrderLimits.{count_grows}
use Rattle.reed_muller.specs.Table.{sets_before, variable_rows}

-- a table that lists f of 0 to m - 1
pub entry_of_table : (table : List ℕ) (m : ℕ) (f : ℕ → ℕ) → table ≡ list_of m f → (i : ℕ) → i < m → get_or table i 0 ≡ f i
entry_of_table table m f e i h = rw e (get_or_list_of m f 0 i h)

pub variable_is : (variables : List ℕ) → variables ≡ variable_rows → (v : ℕ) → v < 6 → get_or variables v 0 ≡ product_row 6 (2 ^ v)
unfolding variable_rows
variable_is variables e v h = entry_of_table variables 6 (λ v. product_row 6 (2 ^ v)) e v h

-- the table of sets has 42 entries
pub all_sets : count_of_sets 3 6 ≡ 42
unfolding sum_below weight those sets_of sets_up_to count_of_sets
all_sets = refl

pub start_bound : (s : ℕ) → s ≤ 4 → sets_before s ≤ 42
unfolding sets_before
start_bound zero l = omega arith
start_bound (suc s) l = omega (arith, count_grows s 3 6 (omega arith), all_sets)

-- where the sets of one variable more start, those of at most s variables end
pub before_next : (s : ℕ) → sets_before (s + 1) ≡ count_of_sets s 6
unfolding sets_before
before_next s = rw (add-one s)

-- those are the first of the table
first_of_table : (s : ℕ) → s ≤ 3 → take (count_of_sets s 6) (sets_up_to 6 3) ≡ sets_up_to 6 s
unfolding sum_below weight those sets_of sets_up_to count_of_sets
first_of_table zero h = refl
first_of_table (suc zero) h = refl
first_of_table (suc (suc zero)) h = refl
first_of_table (suc (suc (suc zero))) h = refl
first_of_table (suc (suc (suc (suc s)))) h = absurd (omega arith)

-- the sets of s variables stand behind those of fewer
pub sets_before_low : (s : ℕ) → sets_before s ≤ count_of_sets s 6
unfolding sets_before
sets_before_low zero = omega arith
sets_before_low (suc s) = count_grows s (suc s) 6 (omega arith)

behind_fewer : (s : ℕ) → drop (sets_before s) (sets_up_to 6 s) ≡ sets_of 6 s
unfolding sets_before count_of_sets sets_up_to
behind_fewer zero = refl
behind_fewer (suc s) = drop-append_seam (sets_up_to 6 s) (sets_of 6 (suc s))

-- each of them is one of the 64 positions
pub set_narrow : (s j : ℕ) → j < length (sets_of 6 s) → get_or (sets_of 6 s) j 0 < 64
unfolding count_of_sets
set_narrow s j h =
    let whole : length (sets_of 6 s) ≡ count_of_sets s 6 - sets_before s =
    sym (ap length (behind_fewer s)) ∙ length-drop (sets_before s) (sets_up_to 6 s) in
    rw (← behind_fewer s, get_or-drop) (set_below s 6 (sets_before s + j) (omega (arith, whole)))

-- a part of the table that ends where the sets of s variables end
module _ (sets : List ℕ) (are : sets ≡ sets_up_to 6 3) (s start end : ℕ) (three : s ≤ 3) (ends : end ≡ sets_before (s + 1)) where
  pub part_of_table : start ≤ count_of_sets s 6 → take (end - start) (drop start sets) ≡ drop start (sets_up_to 6 s)
  part_of_table before =
      let whole : start + (end - start) ≡ count_of_sets s 6 = omega (arith, ends, before_next s) in
      rw (← drop-take, whole, are, first_of_table s three)

  pub sets_of_size : start ≡ sets_before s → take (end - start) (drop start sets) ≡ sets_of 6 s
  sets_of_size starts = part_of_table (omega (arith, sets_before_low s)) ∙ rw starts (behind_fewer s)

-- a set of the m variables is one of the 2^m positions
pub own_by_place : (m S positions : ℕ) → positions ≡ 2 ^ 2 ^ m - 1 → eqb (bit positions S) 1 ≡ ltb S (2 ^ m)
own_by_place m S positions are =
    ⊎_elim
    (λ (l : S < 2 ^ m). rw (are, bit_all_ones (2 ^ m) S l, lt-ltb S (2 ^ m) l))
    (λ (l : 2 ^ m ≤ S).
    let none : bit (2 ^ 2 ^ m - 1) S ≡ 0 = bit_high (2 ^ 2 ^ m - 1) (2 ^ m) S (omega (arith, pow_pos (2 ^ m))) l in
    rw (are, none, le-ltb S (2 ^ m) l))
    (lt_or_le S (2 ^ m))
