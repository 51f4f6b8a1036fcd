-- The table of the sums of the low rows, as its loop fills it: the sets of those rows in Gray order, so that each sum is the one
-- before it with one row added. Assumes nothing.
use mathlib.Core.Path.{◌≡◌, refl, sym, ◌∙◌}
use mathlib.Core.List.{List}
use Prim.Native.Nat.{ℕ, ◌+◌, ◌-◌, ◌^◌, ◌≤◌, ◌<◌}
use native.Mathlib.Omega.{arith}
use lib.Bits.{bit_xor}
use lib.Count.{count_trailing_zeros}
use lib.ListN.{length, get_or, set, length-set}
use lib.Pow.{pow_mono}
use Rattle.bits.proofs.ByteLists.{one_entry_more}
use Rattle.model.specs.Card.{sum_of_rows}
use Rattle.model.specs.Order.{gray}
use Rattle.code_theory.proofs.Codewords.{rows_start}
use Rattle.code_theory.proofs.GrayStep.{AtSet, set_start, row_of_twelve, set_next}

-- entry j is the sum of set j of the low rows
abbrev pub Table : (low : ℕ) (row : ℕ → ℕ) (sums : List ℕ) → Type 0
Table low row sums = (j : ℕ) → j < 2 ^ low → get_or sums j 0 ≡ sum_of_rows row low (gray j)

-- the loop stands at entry i: the entries up to it stand in sums, and it is in sum
pub record AtSum (low : ℕ) (row : ℕ → ℕ) (sums : List ℕ) (sum i : ℕ) : Type 0 where
  pub at : AtSet low row (2 ^ low - 1) sum i
  pub whole : length sums ≡ 32
  pub entries : (j : ℕ) → j < i + 1 → get_or sums j 0 ≡ sum_of_rows row low (gray j)

-- an entry that is written is one of the table's 32
pub sum_room : {low : ℕ} → low ≤ 5 → {j : ℕ} → j < 2 ^ low → j < 32
sum_room {low = low} five more = omega (arith, pow_mono {i = low} {j = 5} five)

module _ {low : ℕ} {row : ℕ → ℕ} where
  -- before the first turn: the sum of no rows
  pub sum_start : {sums : List ℕ} → length sums ≡ 32 → get_or sums 0 0 ≡ 0 → AtSum low row sums 0 0
  sum_start whole first =
      record {
        at = set_start refl;
        whole = whole;
        entries = λ j l. let none : j ≡ 0 = omega arith in rw none (first ∙ sym (rows_start row low));
      }

  -- the row that is added is one of the twelve
  pub sum_row : low ≤ 5 → {sums : List ℕ} {sum i : ℕ} → AtSum low row sums sum i → i + 1 < 2 ^ low → count_trailing_zeros 32 (i + 1) < 12
  sum_row five stand more = row_of_twelve (omega arith) stand.at (omega arith)

  -- a turn
  pub sum_next : low ≤ 5 → {sums : List ℕ} {sum i : ℕ} → AtSum low row sums sum i → i + 1 < 2 ^ low
      → let next = bit_xor sum (row (count_trailing_zeros 32 (i + 1))) in AtSum low row (set sums (i + 1) next) next (i + 1)
  sum_next five {sums = sums} {i = i} stand more =
      let next = set_next (omega arith) stand.at (omega arith) in
      let room : i + 1 < length sums = omega (arith, sum_room five more) in
      record {
        at = next;
        whole = simp length-set stand.whole;
        entries = one_entry_more (λ j. sum_of_rows row low (gray j)) sums (i + 1) _ room stand.entries next.current;
      }

  -- at the end the table is full
  pub sum_end : {sums : List ℕ} {sum i : ℕ} → AtSum low row sums sum i → 2 ^ low ≤ i + 1 → Table low row sums
  sum_end stand done j below = stand.entries j (omega arith)
