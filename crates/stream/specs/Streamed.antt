-- How tramread stands between two turns, as a function of all the bytes that have come in behind the card. `input` is its buffer, from
-- where the words start in it. Assumes nothing.
use Rattle.std.specs.Prelude.{◌≡◌, List, ◌++◌, ℕ, ◌*◌, ◌/◌, ◌%◌, length, take, drop}
use Rattle.model.specs.Card.{Code}
use Rattle.model.specs.Words.{word_length}
use Rattle.report.specs.Report.{word_lines, words_read, words_report}
use Rattle.stream.specs.declared.turn.Progress.{Progress}

-- `all` has come in, and `text` is the lines of its whole words. p counts these, and those of them that are read. The bytes short of a
-- word stand at the front of `input`.
pub record Streamed (C : Code) (all text input : List ℕ) (p : Progress) : Type 0 where
  pub met : p.met ≡ length all / word_length C
  pub read : p.read ≡ words_read C all p.met
  pub held : p.held ≡ length all % word_length C
  pub kept : take p.held input ≡ drop (p.met * word_length C) all
  pub lines : text ≡ word_lines C all 0 p.met

-- A turn from p to p', in which the first n bytes of `input` are taken in and `lines` is put out: whatever had come in and been put
-- out before, the bytes behind those held have come in too, and the lines follow the text.
unfoldable pub Follows : Code → (input : List ℕ) (n : ℕ) (p : Progress) (lines input' : List ℕ) (p' : Progress) → Type 0
Follows C input n p lines input' p' =
    (all text : List ℕ) → Streamed C all text input p → Streamed C (all ++ drop p.held (take n input)) (text ++ lines) input' p'

-- The end, at which `last` is put out: whatever had come in and been put out before, all of it together is the report.
unfoldable pub Completes : (p : Progress) (last : List ℕ) → Type 0
Completes p last = (C : Code) (all text input : List ℕ) → Streamed C all text input p → words_report C all ≡ text ++ last
