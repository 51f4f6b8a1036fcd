-- Document 01, "The program tramread": all that it prints, as a function of all the bytes of its input. Assumes nothing.
use Rattle.std.specs.Prelude.{ℕ, zero, suc, ◌+◌, ◌*◌, ◌/◌, ◌%◌, cond, List, [], ◌++◌, eqb, length, take, drop, Ok, Err}
use Rattle.bits.specs.Sums.{sum_below}
use Rattle.model.specs.Card.{Code, card_refusal, code_of}
use Rattle.model.specs.Words.{word_length}
use Rattle.model.specs.CheckCard.{card_answer}
use Rattle.model.specs.ReadWord.{ReadAnswer, read_word}
use Rattle.report.specs.Lines.{card_line, word_line, short_line, last_line}

-- the card of an input: its first 512 bytes, or all of them where there are fewer
abbrev pub card_part : List ℕ → List ℕ
card_part input = take 512 input

-- the bytes that come after the card
abbrev pub words_part : List ℕ → List ℕ
words_part input = drop 512 input

-- the part of some bytes that is their word i, counted from 0, where a word has w bytes
abbrev pub word_part : (w : ℕ) (bytes : List ℕ) (i : ℕ) → List ℕ
word_part w bytes i = take w (drop (i * w) bytes)

-- how word i of some bytes reads
abbrev pub answer_at : Code → (bytes : List ℕ) (i : ℕ) → ReadAnswer
answer_at C bytes i = read_word C (word_part (word_length C) bytes i)

-- the lines of the first m words of some bytes, numbered on from `met`, the number of words before them
unfoldable pub word_lines : Code → (bytes : List ℕ) (met m : ℕ) → List ℕ
word_lines C bytes met zero = []
word_lines C bytes met (suc m) = word_lines C bytes met m ++ word_line (met + m + 1) (answer_at C bytes m)

-- 1 for a word that is read, 0 for one that is refused
unfoldable pub count_if_read : ReadAnswer → ℕ
count_if_read (Ok r) = 1
count_if_read (Err refusal) = 0

-- how many of the first m words of some bytes are read
unfoldable pub words_read : Code → (bytes : List ℕ) (m : ℕ) → ℕ
words_read C bytes m = sum_below (λ i. count_if_read (answer_at C bytes i)) m

-- what is printed after the card's line: a line for each whole word, the bytes short of a word, and the last line
unfoldable pub words_report : Code → List ℕ → List ℕ
words_report C bytes =
    let words : ℕ = length bytes / word_length C in
    word_lines C bytes 0 words ++ short_line (length bytes % word_length C) ++ last_line words (words_read C bytes words)

-- all that is printed: of a refused card its line alone
unfoldable pub report_of : List ℕ → List ℕ
report_of input =
    let card : List ℕ = card_part input in
    card_line (card_answer card) ++ cond (eqb (card_refusal card) 0) (words_report (code_of card) (words_part input)) []
