-- The parts in which a report is put out: the card's line, the lines of each turn's words, and the last part. Which bytes came in, no
-- contract can say: each statement is of some input. Assumes nothing.
use Rattle.std.specs.Prelude.{◌≡◌, List, ◌++◌, ℕ, Result, Ok, Err}
use Rattle.model.specs.Card.{Code, code_of, SoundCard}
use Rattle.report.specs.Report.{report_of}
use Rattle.standard_io.specs.declared.Failure.{Failure}
use Rattle.standard_io.specs.declared.Received.{Received}

-- a code that a sound card gives
pub record FromCard (C : Code) : Type 0 where
  pub card : List ℕ
  pub sound : SoundCard card
  pub is : C ≡ code_of card

-- a part of the report of some input
pub record PartOfReport (part : List ℕ) : Type 0 where
  pub input : List ℕ
  pub before : List ℕ
  pub after : List ℕ
  pub whole : report_of input ≡ before ++ part ++ after

-- the last part of a report, for some bytes that came in and some text that was put out: that text and then `last` is the whole of it
pub record Completed (report : List ℕ → List ℕ) (last : List ℕ) : Type 0 where
  pub came : List ℕ
  pub text : List ℕ
  pub whole : report came ≡ text ++ last

-- where all the input was read, the last part of its report is `text`; nothing is said where it failed
abbrev pub LastPart : (report : List ℕ → List ℕ) (text : List ℕ) → Result Received Failure → Type 0
LastPart report text (Ok last) = Completed report text
LastPart report text (Err failure) = Unit {0}

-- a report is completed only at the end of the input: there the last read, which did not fail, brought nothing
abbrev pub OnlyAtEnd : Result Received Failure → Type 0
OnlyAtEnd (Ok last) = last.count ≡ 0
OnlyAtEnd (Err failure) = Unit {0}
