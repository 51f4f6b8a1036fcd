-- The outer loop of the least weight. Each set of rows is a set of the low rows, whose sums stand in the table, and a set of the
-- rows behind them, whose sums the loop steps through; both go in Gray order, and so meet each set once. The least that is kept is
-- the greatest number that is at most n and each weight met: that fixes it, in whichever order the sets are met.
-- Assumes nothing.
use mathlib.Core.Path.{◌≡◌, refl, sym, ap, ◌∙◌}
use mathlib.Core.List.{List}
use mathlib.Core.Logic.{⊎_elim}
use Prim.Native.Nat.{ℕ, suc, ◌+◌, ◌-◌, ◌*◌, ◌/◌, ◌%◌, ◌^◌, ◌≤◌, ◌<◌}
use native.Mathlib.Nat.{eq-zero-or-pos, add_comm, zero-mul, mod-lt, mul-pos, mul-le-mul_right}
use native.Mathlib.Omega.{arith}
use lib.Bits.{bit_xor}
use lib.Count.{count_trailing_zeros, ones}
use lib.ListN.{length, drop, length-drop}
use Rattle.std.proofs.lemmas.List.{get_or-drop}
use lib.Pow as pow
use lib.Pow.{pow_pos, pow-add, shr_lt, le_ones, lt_of_le_ones}
use Rattle.bits.specs.Places.{weight}
use Rattle.bits.proofs.Binary.{weight_ones}
use Rattle.bits.proofs.Numbers.{eq_or_ne}
use Rattle.model.specs.Card.{sum_of_rows}
use Rattle.model.specs.Order.{gray}
use Rattle.code_theory.specs.LeastOfSets.{least_of_sets}
use Rattle.code_theory.proofs.Codewords.{rows_below}
use Rattle.code_theory.proofs.Gray.{gray_zero, gray_below, gray_positive, gray_onto}
use Rattle.code_theory.proofs.LeastOfSets.{AtMostEach, least_in_any_order}
use Rattle.code_theory.proofs.GrayStep.{AtSet, set_start, row_below, set_next}
use Rattle.card_reader.specs.LeastOf.{LeastOf, ones_with}
use Rattle.card_reader.proofs.LeastOf.{least_of_part}
use Rattle.card_reader.proofs.LowSums.{Table}
use Rattle.card_reader.proofs.SplitRows.{Narrow, behind, rows_split}

-- the sum of set j of the low rows and set h of the rows behind
abbrev both : (low high : ℕ) (row : ℕ → ℕ) (h j : ℕ) → ℕ
both low high row h j = bit_xor (sum_of_rows row low (gray j)) (sum_of_rows (behind low row) high (gray h))

-- b is at most the weight of each such sum up to set h of the rows behind; the sum of no rows, at 0 and 0, is left out
abbrev AtMostMet : (low high : ℕ) (row : ℕ → ℕ) (h b : ℕ) → Type 0
AtMostMet low high row h b = (i j : ℕ) → i ≤ h → j < 2 ^ low → 0 < i + j → b ≤ ones (both low high row i j)

-- the loop stands at set h of the rows behind, whose sum is in word, and least is the least of n and the weights met
pub record AtBehind (n low high : ℕ) (row : ℕ → ℕ) (word least h : ℕ) : Type 0 where
  pub at : AtSet high (behind low row) (2 ^ high - 1) word h
  pub at_most_n : least ≤ n
  pub at_most_met : AtMostMet low high row h least
  pub greatest : (b : ℕ) → b ≤ n → AtMostMet low high row h b → b ≤ least

module _ (low high : ℕ) (row : ℕ → ℕ) where
  -- what the inner loop finds in the table from entry `from` on, said of the sums of rows
  of_table : (sums : List ℕ) (h word from start least : ℕ) → from ≤ 2 ^ low → length sums ≡ 2 ^ low → Table low row sums
      → word ≡ sum_of_rows (behind low row) high (gray h)
      → LeastOf (ones_with (drop from sums) word) 0 (length (drop from sums)) start least
      → LeastOf (λ j. ones (both low high row h j)) from (2 ^ low) start least
  of_table sums h word from start least inside all table is_IsWord =
      let behind_from : from + length (drop from sums) ≡ 2 ^ low = omega (arith, length-drop from sums) in
      least_of_part (ones_with (drop from sums) word) (λ j. ones (both low high row h j)) from (length (drop from sums)) (2 ^ low) start least
      behind_from
      (λ j l. rw (get_or-drop from sums j 0, table (from + j) (omega arith), is_IsWord))

module _ (n low high : ℕ) (row : ℕ → ℕ) (narrow : Narrow n (low + high) row) where
  -- the weight of set g of all rows, by its two parts
  weight_of_parts : (g i j : ℕ) → g % 2 ^ low ≡ gray j → g / 2 ^ low ≡ gray i
      → weight n (sum_of_rows row (low + high) g) ≡ ones (both low high row i j)
  weight_of_parts g i j is-low is-high =
      weight_ones n (sum_of_rows row (low + high) g) (rows_below n row (low + high) g narrow)
      ∙ ap ones (rows_split row low high g ∙ rw (is-low, is-high))

  -- the loops meet every nonempty set of rows ...
  each_met : (b : ℕ) → AtMostMet low high row (2 ^ high - 1) b → AtMostEach n (low + high) row b
  each_met b met g pos below =
      by_parts (gray_onto low (g % 2 ^ low) (mod-lt g (pow_pos low)))
      (gray_onto high (g / 2 ^ low) (shr_lt high low (rw (add_comm high low) below)))
    where
      some : (i j : ℕ) → gray j ≡ g % 2 ^ low → gray i ≡ g / 2 ^ low → 0 < i + j
      some i j is-low is-high =
          ⊎_elim
          (λ (none : i + j ≡ 0).
          let no_i : i ≡ 0 = omega arith in
          let no_j : j ≡ 0 = omega arith in
          let none_low : g % 2 ^ low ≡ 0 = sym is-low ∙ ap gray no_j ∙ gray_zero in
          let none_high : g / 2 ^ low ≡ 0 = sym is-high ∙ ap gray no_i ∙ gray_zero in
          let empty : g ≡ 0 = sym (pow.split g low) ∙ rw (none_high, none_low, zero-mul) in
          omega arith)
          (λ (l : 0 < i + j). l)
          (eq-zero-or-pos (i + j))

      by_parts : (j : ℕ) × (j < 2 ^ low) × (gray j ≡ g % 2 ^ low) → (i : ℕ) × (i < 2 ^ high) × (gray i ≡ g / 2 ^ low)
          → b ≤ weight n (sum_of_rows row (low + high) g)
      by_parts (j, j_below, is-low) (i, i_below, is-high) =
          rw (weight_of_parts g i j (sym is-low) (sym is-high))
          (met i j (le_ones high i_below) j_below (some i j is-low is-high))

  -- ... and nothing else
  only_met : (b : ℕ) → AtMostEach n (low + high) row b → AtMostMet low high row (2 ^ high - 1) b
  only_met b each i j l m pos =
      let g : ℕ = gray i * 2 ^ low + gray j in
      let j_below : gray j < 2 ^ low = gray_below low j m in
      let i_below : gray i < 2 ^ high = gray_below high i (lt_of_le_ones high l) in
      let block : suc (gray i) * 2 ^ low ≤ 2 ^ high * 2 ^ low = mul-le-mul_right (2 ^ low) i_below in
      let some : 0 < g =
      ⊎_elim (λ (none : i ≡ 0). omega (arith, gray_positive j (omega arith)))
      (λ (up : 0 < i). omega (arith, mul-pos (gray_positive i up) (pow_pos low)))
      (eq-zero-or-pos i) in
      rw (← (weight_of_parts g i j (pow.low (gray i) low j_below) (pow.high (gray i) low j_below)))
      (each g some (rw (pow-add 2 low high) (omega arith)))

module _ {n low high : ℕ} {row : ℕ → ℕ} where
  -- before the first turn: the sets of low rows alone
  pub at_start : (sums : List ℕ) {least : ℕ} → length sums ≡ 2 ^ low → Table low row sums
      → LeastOf (ones_with (drop 1 sums) 0) 0 (length (drop 1 sums)) n least → AtBehind n low high row 0 least 0
  at_start sums {least = least} all table found =
      let none : AtSet high (behind low row) (2 ^ high - 1) 0 0 = set_start refl in
      let (at_most, at-most-each, greatest) =
      of_table low high row sums 0 0 1 n least (pow_pos low) all table none.current found in
      record {
        at = none;
        at_most_n = at_most;
        at_most_met = λ i j l m pos. let first : i ≡ 0 = omega arith in rw first (at-most-each j (omega arith) m);
        greatest = λ b hi all. greatest b hi (λ j lo m. all 0 j (omega arith) m (omega arith));
      }

  -- the row that is added is one of the twelve
  pub row_behind : low + high ≤ 12 → {word least h j : ℕ} → AtBehind n low high row word least h → j ≡ h + 1 → j < 2 ^ high
      → low + count_trailing_zeros 32 j < 12
  row_behind twelve stand is_next more = rw is_next (omega (arith, row_below (omega arith) stand.at (omega arith)))

  -- a turn
  pub at_next : high ≤ 12 → (sums : List ℕ) {word least h j least' : ℕ} → length sums ≡ 2 ^ low → Table low row sums
      → AtBehind n low high row word least h → j ≡ h + 1 → j < 2 ^ high
      → let next = bit_xor word (row (low + count_trailing_zeros 32 j)) in
      LeastOf (ones_with sums next) 0 (length sums) least least' → AtBehind n low high row next least' j
  at_next twelve sums {least = least} {h = h} {least' = least'} all table stand is_next more =
      let next = set_next twelve stand.at (omega arith) in
      rw is_next
      (λ found.
      let (at_most, at-most-each, greatest) =
      of_table low high row sums (h + 1) _ 0 least least' (omega arith) all table next.current found in
      record {
        at = next;
        at_most_n = omega arith;
        at_most_met =
            λ i j l m pos.
            ⊎_elim (λ (last : i ≡ h + 1). rw last (at-most-each j (omega arith) m))
            (λ (other : i ≡ h + 1 → ⊥). omega (arith, stand.at_most_met i j (omega arith) m pos))
            (eq_or_ne i (h + 1));
        greatest =
            λ b hi all.
            greatest b (stand.greatest b hi (λ i j l m pos. all i j (omega arith) m pos))
            (λ j lo m. all (h + 1) j (omega arith) m (omega arith));
      })

  -- at the end all nonempty sets are met
  pub at_end : {k word least h : ℕ} → low + high ≡ k → AtBehind n low high row word least h → 2 ^ high ≤ h + 1
      → Narrow n k row → least ≡ least_of_sets n k row (2 ^ k - 1)
  at_end {least = least} {h = h} is_k stand done =
      let all : h ≡ 2 ^ high - 1 = omega (arith, stand.at.within) in
      rw (← is_k)
      (λ narrow.
      least_in_any_order n (low + high) row least stand.at_most_n
      (each_met n low high row narrow least (rw all at stand.at_most_met))
      (λ b hi each. stand.greatest b hi (rw all (only_met n low high row narrow b each))))
