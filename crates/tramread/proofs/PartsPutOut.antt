-- What is put out is a part of a report: the card's line, and the last part. Of a refused card the line is the last part; of a sound
-- one it is the last part of the words' report, which follows the card's line. Assumes nothing.
use Prim.Native.Nat.{ℕ, ◌≤◌}
use mathlib.Core.Path.{◌≡◌, sym, ◌∙◌}
use mathlib.Core.Bool.{cond}
use mathlib.Core.List.{List, [], ◌++◌, append-nil, append_assoc}
use lib.Dec.{eqb}
use lib.ListN.{length, take, drop}
use lib.Seq.{take_all}
use Rattle.model.specs.Card.{Code, card_refusal, code_of, SoundCard}
use Rattle.model.specs.CheckCard.{card_answer}
use Rattle.report.specs.Lines.{card_line}
use Rattle.report.specs.Report.{words_report, report_of}
use Rattle.stream.proofs.Whole.{report_of_sound, report_of_refused}
use Rattle.std.specs.Prelude.{Result, Ok, Err}
use Rattle.standard_io.specs.declared.Failure.{Failure}
use Rattle.standard_io.specs.declared.Received.{Received}
use Rattle.word_loop.specs.Parts.{PartOfReport, Completed, LastPart}

-- the report, as a function of what comes in behind the card
abbrev behind : (card came : List ℕ) → List ℕ
behind card came = report_of (card ++ came)

-- the card's line
pub card_line_part : (card : List ℕ) → length card ≤ 512 → {part : List ℕ} → part ≡ card_line (card_answer card) → PartOfReport part
unfolding report_of
card_line_part card short line =
    let all : take 512 card ≡ card = take_all 512 card short in
    record {
      input = card;
      before = [];
      after = cond (eqb (card_refusal card) 0) (words_report (code_of card) (drop 512 card)) [];
      whole = rw (all, line);
    }

pub refused_card_line : (card : List ℕ) → length card ≤ 512 → (SoundCard card → ⊥) → {text : List ℕ}
    → text ≡ card_line (card_answer card) → Completed (behind card) text
refused_card_line card short refused line =
    let all : take 512 card ≡ card = take_all 512 card short in
    let whole : report_of card ≡ card_line (card_answer card) = rw all at (report_of_refused card (rw all refused)) in
    record { came = []; text = []; whole = rw append-nil (whole ∙ sym line) }

pub words_behind_card : (card : List ℕ) → SoundCard card → (C : Code) → C ≡ code_of card → (text : List ℕ) (r : Result Received Failure)
    → LastPart (words_report C) text r → LastPart (behind card) text r
words_behind_card card sound C is text (Ok read) last =
    record {
      came = last.came;
      text = card_line (card_answer card) ++ last.text;
      whole =
          report_of_sound card sound last.came
          ∙ rw (← is, last.whole) (sym (append_assoc (card_line (card_answer card)) last.text text));
    }
words_behind_card card sound C is text (Err failure) last = tt
