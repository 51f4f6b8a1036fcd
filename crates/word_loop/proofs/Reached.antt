-- How the reader of words can stand after some turns: for some bytes that came in, at least one with each turn, and some text that was
-- put out for them. It is so before the first turn, where bytes behind those held are written over, and after a turn. `input` is the
-- buffer from where the words start in it.
-- Assumes nothing.
use Prim.Native.Nat.{ℕ, ◌+◌, ◌≤◌, ◌<◌}
use mathlib.Core.Path.{◌≡◌, sym, ap, ◌∙◌}
use mathlib.Core.List.{List, [], ◌++◌, append_assoc}
use native.Mathlib.Omega.{arith}
use lib.ListN.{length, take, drop, length-append, length-drop}
use lib.Seq.{length-take-le}
use borrow.Rule.Slice.PartMut.{put_mid}
use Rattle.std.proofs.lemmas.Slice.{take-put_mid_below}
use Rattle.model.specs.Card.{Code}
use Rattle.model.specs.CheckCard.{card_answer}
use Rattle.report.specs.Lines.{card_line, short_line, last_line}
use Rattle.stream.specs.declared.turn.Progress.{Progress}
use Rattle.stream.specs.Streamed.{Streamed, Follows}
use Rattle.stream.proofs.Behind.{behind_of_front}
use Rattle.stream.proofs.Streaming.{streamed_nothing, report_streamed}
use Rattle.stream.proofs.Whole.{report_of_sound}
use Rattle.word_loop.specs.Parts.{FromCard, PartOfReport}

pub record Reached (C : Code) (input : List ℕ) (p : Progress) (turns : ℕ) : Type 0 where
  pub all : List ℕ
  pub text : List ℕ
  pub streamed : Streamed C all text input p
  pub each_turn : turns ≤ length all

pub reached_first : (C : Code) (input : List ℕ) {p : Progress} → p.held ≡ 0 → p.met ≡ 0 → p.read ≡ 0 → Reached C input p 0
reached_first C input held met read =
    record { all = []; text = []; streamed = streamed_nothing C input held met read; each_turn = omega arith }

-- bytes are written into the buffer behind those held
pub reached_behind : {C : Code} (start : ℕ) (buffer behind : List ℕ) (k : ℕ) {p : Progress} {turns : ℕ} → start + p.held ≤ length buffer
    → Reached C (drop start buffer) p turns → Reached C (drop start (put_mid (start + p.held) k buffer behind)) p turns
reached_behind start buffer behind k {p} inside reached =
    let s = reached.streamed in
    let buffer' : List ℕ = put_mid (start + p.held) k buffer behind in
    let same : take (start + p.held) buffer' ≡ take (start + p.held) buffer = take-put_mid_below _ k buffer behind _ (omega arith) inside in
    let inside' : start ≤ length buffer' = simp length-append (omega (arith, length-take-le (start + p.held) buffer inside)) in
    let front : take p.held (drop start buffer') ≡ take p.held (drop start buffer) =
    sym (behind_of_front start buffer' inside' p.held)
    ∙ ap (drop start) same
    ∙ behind_of_front start buffer (omega arith) p.held in
    record {
      all = reached.all;
      text = reached.text;
      streamed = record { met = s.met; read = s.read; held = s.held; kept = front ∙ s.kept; lines = s.lines };
      each_turn = reached.each_turn;
    }

-- a turn that takes in the first n bytes of the buffer, those held and at least one more
pub reached_turn : (C : Code) (input : List ℕ) (n : ℕ) (p : Progress) (lines input' : List ℕ) (p' : Progress) {turns : ℕ}
    → Follows C input n p lines input' p' → p.held < n → n ≤ length input → Reached C input p turns → Reached C input' p' (turns + 1)
unfolding Follows
reached_turn C input n p lines input' p' follows some within reached =
    let more : List ℕ = drop p.held (take n input) in
    let arrived : length (take n input) ≡ n = length-take-le n input within in
    record {
      all = reached.all ++ more;
      text = reached.text ++ lines;
      streamed = follows reached.all reached.text reached.streamed;
      each_turn = rw (length-append, length-drop, arrived) (omega (arith, reached.each_turn));
    }

-- the lines of a turn, which follow the text before them, are a part of the report
pub turn_lines_part : (C : Code) → FromCard C → {all input : List ℕ} (text lines : List ℕ) {p : Progress}
    → Streamed C all (text ++ lines) input p → PartOfReport lines
turn_lines_part C from {all} text lines {p} s =
    record {
      input = from.card ++ all;
      before = card_line (card_answer from.card) ++ text;
      after = short_line p.held ++ last_line p.met p.read;
      whole = report_of_sound from.card from.sound all ∙ rw (← from.is, report_streamed C s) (simp append_assoc);
    }
