-- Words put one after the other: what has been put of the first i, and one word more, whose line follows the lines before it, and
-- which is counted if it is read. The part that is lent of the bytes is the word. Assumes nothing.
use Prim.Native.Nat.{ℕ, ◌+◌, ◌-◌, ◌*◌, ◌≤◌}
use mathlib.Core.Path.{◌≡◌}
use mathlib.Core.List.{List, ◌++◌}
use native.Mathlib.Nat.{add-sub_cancel_left}
use native.Mathlib.Numerals.{add-one}
use lib.ListN.{take, drop}
use lib.Seq.{drop-drop}
use Rattle.bits.specs.Sums.{sum_below}
use Rattle.model.specs.Card.{Code}
use Rattle.model.specs.Words.{word_length}
use Rattle.model.specs.ReadWord.{read_word}
use Rattle.report.specs.Filled.{Filled}
use Rattle.report.specs.Lines.{word_line, line_room}
use Rattle.report.specs.Puts.{Puts}
use Rattle.report.specs.Report.{answer_at, word_lines, count_if_read, words_read}

-- of the words that stand from place `first` on, the lines of the first i have been put, at most `line_room` bytes each, and of these
-- words those that were read are counted
pub record WordsPutSoFar (C : Code) (bytes : List ℕ) (first met : ℕ) (out₀ out : Filled) (read i : ℕ) : Type 0 where
  pub lines : Puts out₀ (word_lines C (drop first bytes) met i) (i * line_room) out
  pub counted : read ≡ words_read C (drop first bytes) i
  pub few : read ≤ i

module _ (C : Code) (bytes : List ℕ) (i : ℕ) where
  pub lines_next : (met : ℕ) → word_lines C bytes met (i + 1) ≡ word_lines C bytes met i ++ word_line (met + i + 1) (answer_at C bytes i)
  unfolding word_lines
  lines_next met = rw (add-one i)

  pub read_next : words_read C bytes (i + 1) ≡ words_read C bytes i + count_if_read (answer_at C bytes i)
  unfolding words_read sum_below
  read_next = rw (add-one i)

  pub part_is_word : (first w : ℕ) → w ≡ word_length C → let from : ℕ = first + i * w in
      read_word C (take (from + w - from) (drop from bytes)) ≡ answer_at C (drop first bytes) i
  part_is_word first w is_length = rw (add-sub_cancel_left, is_length, drop-drop)
