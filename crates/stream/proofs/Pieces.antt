-- A report made piece by piece is the report of the whole input. Where the first piece has whole words, the words of the joined
-- bytes are those of the first piece and then those of the second, so their lines follow one another and the counts add.
-- Assumes nothing.
use Prim.Native.Nat.{ℕ, zero, suc, ◌+◌, ◌*◌, ◌≤◌, ◌<◌}
use mathlib.Core.Path.{◌≡◌, refl, ap, ◌∙◌}
use mathlib.Core.List.{List, ◌++◌, append_assoc, append-nil}
use native.Mathlib.Nat.{add-zero, add-suc, add_assoc, suc-mul, add-mul, mul-le-mul_right}
use native.Mathlib.Omega.{arith}
use lib.ListN.{length, drop, length-drop}
use lib.Seq.{take-append-le, drop-append-le, drop-append-add}
use Rattle.bits.proofs.Sums.{sum_ext, sum_split}
use Rattle.model.specs.Card.{Code}
use Rattle.model.specs.Words.{word_length}
use Rattle.model.specs.ReadWord.{read_word}
use Rattle.report.specs.Report.{word_part, answer_at, word_lines, count_if_read, words_read}

-- word i lies within the first m words
pub within : (w i m : ℕ) → i < m → i * w + w ≤ m * w
within w i m h = rw suc-mul at (mul-le-mul_right w h)

module _ (w m : ℕ) (first second : List ℕ) (whole : length first ≡ m * w) where
  -- a word of the first piece
  part_of_first : (i : ℕ) → i < m → word_part w (first ++ second) i ≡ word_part w first i
  part_of_first i h =
      let room : i * w + w ≤ length first = rw whole (within w i m h) in
      let start : i * w ≤ length first = omega arith in
      let end : w ≤ length (drop (i * w) first) = rw length-drop (omega arith) in
      rw (drop-append-le (i * w) first second start) (take-append-le w (drop (i * w) first) second end)

  -- a word of the second piece
  part_of_second : (i : ℕ) → word_part w (first ++ second) (m + i) ≡ word_part w second i
  part_of_second i = rw (add-mul, ← whole, drop-append-add)

module _ (C : Code) (m : ℕ) (first second : List ℕ) (whole : length first ≡ m * word_length C) where
  answer_of_first : (i : ℕ) → i < m → answer_at C (first ++ second) i ≡ answer_at C first i
  answer_of_first i h = ap (read_word C) (part_of_first (word_length C) m first second whole i h)

  answer_of_second : (i : ℕ) → answer_at C (first ++ second) (m + i) ≡ answer_at C second i
  answer_of_second i = ap (read_word C) (part_of_second (word_length C) m first second whole i)

  lines_so_far : (met i : ℕ) → i ≤ m → word_lines C (first ++ second) met i ≡ word_lines C first met i
  unfolding word_lines
  lines_so_far met zero h = refl
  lines_so_far met (suc i) h = rw (lines_so_far met i (omega arith), answer_of_first i (omega arith))

  -- the lines of the words of the first piece are not changed by what follows it
  pub lines_of_first : (met : ℕ) → word_lines C (first ++ second) met m ≡ word_lines C first met m
  lines_of_first met = lines_so_far met m (omega arith)

  -- the lines of m words, and then of the next words, numbered on
  pub lines_in_pieces : (met more : ℕ)
      → word_lines C (first ++ second) met (m + more) ≡ word_lines C first met m ++ word_lines C second (met + m) more
  unfolding word_lines
  lines_in_pieces met zero = rw (add-zero, append-nil) (lines_of_first met)
  lines_in_pieces met (suc i) =
      rw (add-suc m i, word_lines, lines_in_pieces met i, answer_of_second i, append_assoc, ← add_assoc)

  -- the words read among the words of the first piece are not changed by what follows it
  pub read_of_first : words_read C (first ++ second) m ≡ words_read C first m
  unfolding words_read
  read_of_first = sum_ext m (λ i h. ap count_if_read (answer_of_first i h))

  -- the words read add up
  pub read_in_pieces : (more : ℕ) → words_read C (first ++ second) (m + more) ≡ words_read C first m + words_read C second more
  unfolding words_read
  read_in_pieces more =
      sum_split (λ i. count_if_read (answer_at C (first ++ second) i)) m more
      ∙ rw (read_of_first, sum_ext more (λ i h. ap count_if_read (answer_of_second i)))
