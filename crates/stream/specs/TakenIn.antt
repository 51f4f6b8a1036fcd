-- What a turn of tramread does with the bytes that have come in. Assumes nothing.
use Rattle.std.specs.Prelude.{◌≡◌, List, ℕ, ◌+◌, ◌*◌, ◌/◌, ◌%◌, length, take, drop}
use Rattle.model.specs.Card.{Code}
use Rattle.model.specs.Words.{word_length}
use Rattle.report.specs.Filled.{Filled}
use Rattle.report.specs.Lines.{line_room}
use Rattle.report.specs.Puts.{Puts}
use Rattle.report.specs.Report.{word_lines, words_read}
use Rattle.stream.specs.declared.turn.Progress.{Progress}

-- the whole words of some bytes
abbrev pub whole_words : Code → List ℕ → ℕ
whole_words C bytes = length bytes / word_length C

-- `arrived` is the bytes held and those that came in behind them, and p says what came before them. `out` is the buffer of lines before
-- the turn, `out'` after it, and `input'` the buffer of bytes after it, from where the words start in it. The whole words have their
-- lines put in `out'` and are counted; the bytes short of a word are left at the front of `input'`.
pub record TakenIn (C : Code) (arrived : List ℕ) (p : Progress) (input' : List ℕ) (out out' : Filled) (p' : Progress) : Type 0 where
  pub met : p'.met ≡ p.met + whole_words C arrived
  pub read : p'.read ≡ p.read + words_read C arrived (whole_words C arrived)
  pub held : p'.held ≡ length arrived % word_length C
  pub kept : take p'.held input' ≡ drop (whole_words C arrived * word_length C) arrived
  pub lines : Puts out (word_lines C arrived p.met (whole_words C arrived)) (whole_words C arrived * line_room) out'
