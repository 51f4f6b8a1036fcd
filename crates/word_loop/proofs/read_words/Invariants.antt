-- `word_loop::read_words` meets its contract. The loop's invariant: some bytes that came in, at least one with each turn taken, and the
-- lines put out for them lead to how the reader stands (`Reached`), and each turn taken met at most 1,600 words, so that the numbers of
-- words fit. Each turn adds what it received and its lines (`reached_turn`), and the end completes the report. Assumes nothing.
use Prim.Native.Nat.{◌*◌, ◌≤◌}
use mathlib.Core.Path.{◌≡◌}
use lib.ListN.{length, drop}
use Rattle.model.specs.Decoded.{meaning}
use Rattle.report.specs.Filled.{filled_of, capacity}
use Rattle.word_loop.proofs.Reached.{Reached}
use Rattle.word_loop.proofs.read_words.Given as goal

abbrev pub invariant-loop-turn : goal.invariant-loop-turn
invariant-loop-turn l = record {
  input_long : length l.input ≡ 64512;
  out_long : capacity (filled_of l.out) ≡ 230400;
  same_buffer : (filled_of l.out).lent ≡ (filled_of l.initial.out).lent;
  numbered : l.progress.met ≤ 1600 * l._turn;
  reached : Reached (meaning l.code) (drop 512 l.input) l.progress l._turn;
}
