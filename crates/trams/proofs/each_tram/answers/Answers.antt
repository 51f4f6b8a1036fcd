use Rattle.std.proofs.Common.{arith}
use Rattle.trams.proofs.Passes.{wide_at, no_answers, one_answer_more}
use Rattle.trams.proofs.each_tram.answers.Goals as goal

pub loop-i-init : goal.loop-i-init
loop-i-init g c = λ asked computes. no_answers _ _

pub loop-i-preserved : goal.loop-i-preserved
loop-i-preserved g c = λ asked computes.
    let few = c.requires.placed.few in
    rw (c.loop-i.invariant asked computes, computes _ _ c.test.ensures, c.widened_stretch.ensures)
    (one_answer_more asked (wide_at c.args.track.margin c.args.track.last c.args.trams.now) c.loop-i.i (omega arith))
