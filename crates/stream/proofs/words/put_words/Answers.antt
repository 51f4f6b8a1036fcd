use Prim.Native.Nat.{◌+◌, ◌*◌, ◌≤◌}
use mathlib.Core.Path.{◌≡◌, refl, ◌∙◌}
use lib.ListN.{length, drop}
use native.Mathlib.Omega.{arith}
use Rattle.bits.specs.Sums.{sum_below}
use Rattle.model.specs.Decoded.{meaning}
use Rattle.report.specs.Filled.{filled_of}
use Rattle.report.specs.Report.{answer_at, word_lines, words_read}
use Rattle.report.proofs.Puts.{puts_then, puts_within, puts_nothing}
use Rattle.stream.proofs.Pieces.{within}
use Rattle.stream.proofs.NextWord.{lines_next, read_next, part_is_word}
use Rattle.stream.proofs.words.put_words.Goals.{In-loop-i}
use Rattle.stream.proofs.words.put_words.Goals as goal

pub loop-i-init : goal.loop-i-init
unfolding word_lines words_read sum_below
loop-i-init c = record { lines = puts_nothing (filled_of c.args.out.now) _; counted = refl; few = omega arith }

-- the word that a turn reads lies within the lent bytes
lent : (c : In-loop-i) → c.args.start + c.loop-i.i * c.word_length-w.result + c.word_length-w.result ≤ length c.args.bytes.now
lent c =
    let args = c.args in
    let w = c.word_length-w.result in
    let i = c.loop-i.i in
    let inside : i * w + w ≤ args.words * w = within w i args.words c.loop-i-test.true in
    let whole : args.start + args.words * w ≤ length args.bytes.now = rw c.word_length-w.ensures.0 c.requires.fits.0 in
    omega arith

pub loop-i-preserved : goal.loop-i-preserved
loop-i-preserved c =
    let loop = c.loop-i in
    let args = c.args in
    let i = loop.i in
    let C = meaning args.code in
    let bytes = drop args.start args.bytes.now in
    let answer : c.read-answer.result ≡ answer_at C bytes i =
    c.read-answer.ensures ∙ part_is_word C args.bytes.now i args.start c.word_length-w.result c.word_length-w.ensures.0 in
    record {
      lines =
          rw (lines_next C bytes i args.met, ← answer)
          (puts_within (puts_then loop.invariant.lines c.put_word_line.ensures) (omega arith));
      counted = rw (read_next C bytes i, ← answer, c.count_if_read-read.ensures.0, loop.invariant.counted);
      few = omega arith;
    }

pub returns : goal.returns
returns c =
    let all : c.loop-i.i ≡ c.args.words = omega arith in
    let done = rw all at c.loop-i.invariant in
    record { puts = done.lines; counted = (done.counted, done.few) }
