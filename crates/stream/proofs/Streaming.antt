-- A report made turn by turn: what the turns put out, one after the other, and then the end, is the report of all the bytes that have
-- come in, however they were divided among the turns. The whole words of what had come in before come first, then those of what
-- was held and has come in since. Assumes nothing.
use Prim.Native.Nat.{ℕ, ◌+◌, ◌*◌, ◌≤◌, ◌<◌}
use mathlib.Core.Path.{◌≡◌, sym, ap, ◌∙◌}
use mathlib.Core.List.{List, [], ◌++◌, append_assoc}
use native.Mathlib.Nat.{zero-add, zero-mul, zero-div, zero-mod, add-mul, div-mul-le_self, mul-add-div_right, mul-add-mod_self_right}
use native.Mathlib.Omega.{arith}
use lib.ListN.{length, take, drop, length-append, take-append-drop}
use lib.Seq.{length-take-le, take-take, drop-append-add}
use Rattle.std.specs.Prelude.{Ok, Err}
use Rattle.bits.specs.Sums.{sum_below}
use Rattle.bits.proofs.Sums.{sum_of_bits}
use Rattle.model.specs.Card.{Code}
use Rattle.model.specs.ReadWord.{ReadAnswer}
use Rattle.model.specs.Words.{word_length}
use Rattle.report.specs.Filled.{Filled}
use Rattle.report.specs.Lines.{short_line, last_line}
use Rattle.report.specs.Puts.{Puts}
use Rattle.report.specs.Report.{answer_at, word_lines, count_if_read, words_read, words_report}
use Rattle.stream.specs.declared.turn.Progress.{Progress}
use Rattle.stream.specs.Streamed.{Streamed, Follows, Completes}
use Rattle.stream.specs.TakenIn.{TakenIn, whole_words}
use Rattle.stream.proofs.Pieces.{lines_of_first, lines_in_pieces, read_of_first, read_in_pieces}

-- a word counts once at most
count_low : (answer : ReadAnswer) → count_if_read answer < 2
unfolding count_if_read
count_low (Ok r) = omega arith
count_low (Err refusal) = omega arith

-- before the first turn
pub streamed_nothing : (C : Code) (input : List ℕ) {p : Progress} → p.held ≡ 0 → p.met ≡ 0 → p.read ≡ 0 → Streamed C [] [] input p
unfolding word_lines words_read sum_below
streamed_nothing C input held met read =
    record {
      met = rw (met, zero-div);
      read = rw (met, read);
      held = rw (held, zero-mod);
      kept = rw (held, met, zero-mul);
      lines = rw met;
    }

module _ (C : Code) {all text input : List ℕ} {p : Progress} (s : Streamed C all text input p) where
  -- no more words are read than met
  pub few_read : p.read ≤ p.met
  unfolding words_read
  few_read = rw s.read (sum_of_bits (λ i. count_if_read (answer_at C all i)) p.met (λ i. count_low (answer_at C all i)))

  -- the bytes of the whole words, and then those held
  whole : length (take (p.met * word_length C) all) ≡ p.met * word_length C
  whole = length-take-le (p.met * word_length C) all (rw s.met (div-mul-le_self (length all) (word_length C)))

  joined : take (p.met * word_length C) all ++ take p.held input ≡ all
  joined = rw s.kept (take-append-drop (p.met * word_length C) all)

  -- a turn: the first n bytes of the buffer, those held and more, are taken in
  module _ (some : 1 ≤ word_length C) (n : ℕ) (within : p.held ≤ n) {input' : List ℕ} {out out' : Filled} {p' : Progress}
      (anew : out.text ≡ []) (taken : TakenIn C (take n input) p input' out out' p') where
    abbrev before : List ℕ
    before = take (p.met * word_length C) all

    abbrev arrived : List ℕ
    arrived = take n input

    abbrev more : List ℕ
    more = drop p.held arrived

    all_joined : all ++ more ≡ before ++ arrived
    all_joined =
        let held : List ℕ = take p.held input in
        let split : held ++ more ≡ arrived = rw (take-take p.held n input within) at (take-append-drop p.held arrived) in
        ap (λ (l : List ℕ). l ++ more) (sym joined) ∙ append_assoc before held more ∙ ap (λ (l : List ℕ). before ++ l) split

    streamed_turn : Streamed C (all ++ more) (text ++ out'.text) input' p'
    streamed_turn =
        let w : ℕ = word_length C in
        let m : ℕ = whole_words C arrived in
        let held : List ℕ = take p.held input in
        let lines : text ≡ word_lines C before 0 p.met =
        s.lines ∙ rw joined at (lines_of_first C p.met before held whole 0) in
        let count : p.read ≡ words_read C before p.met = s.read ∙ rw joined at (read_of_first C p.met before held whole) in
        let end : (p.met + m) * w ≡ length before + m * w = rw whole (add-mul p.met m w) in
        rw all_joined
        record {
          met = taken.met ∙ rw (length-append, whole) (sym (mul-add-div_right {m = w} some p.met (length arrived)));
          read = rw (taken.met, taken.read, count) (sym (read_in_pieces C p.met before arrived whole m));
          held = taken.held ∙ rw (length-append, whole) (sym (mul-add-mod_self_right p.met w (length arrived)));
          kept = taken.kept ∙ rw (taken.met, end) (sym (drop-append-add before arrived (m * w)));
          lines =
              rw (taken.met, taken.lines.bytes, anew, lines)
              (sym (rw zero-add at (lines_in_pieces C p.met before arrived whole 0 m)));
        }

-- a turn that takes in what has come in adds to the report the lines of its words
pub follows : (C : Code) (input : List ℕ) (n : ℕ) {p : Progress} {input' : List ℕ} {out out' : Filled} {p' : Progress} → 1 ≤ word_length C
    → p.held ≤ n → out.text ≡ [] → TakenIn C (take n input) p input' out out' p' → Follows C input n p out'.text input' p'
unfolding Follows
follows C input n some within anew taken all text s = streamed_turn C s some n within anew taken

-- the report of what has come in: what has been put out for it, and the end
pub report_streamed : (C : Code) {all text input : List ℕ} {p : Progress} → Streamed C all text input p
    → words_report C all ≡ text ++ (short_line p.held ++ last_line p.met p.read)
unfolding words_report
report_streamed C s = rw (s.lines, s.held, s.read, s.met) (simp append_assoc)

-- the end completes the report
pub completes : (p : Progress) {out out' : Filled} {most : ℕ}
    → out.text ≡ [] → Puts out (short_line p.held ++ last_line p.met p.read) most out' → Completes p out'.text
unfolding Completes
completes p anew put C all text input s = rw (put.bytes, anew) (report_streamed C s)
