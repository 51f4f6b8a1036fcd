use Rattle.std.proofs.Common.{◌≡◌, arith}
use Rattle.dunnavish.proofs.LentTrams.{none_put_down, one_put_down, all_put_down}
use Rattle.dunnavish.proofs.marks.ask_of_lent.Goals as goal

pub loop-i-init : goal.loop-i-init
loop-i-init g c = none_put_down c.args.lows.now c.args.highs.now

pub loop-i-preserved : goal.loop-i-preserved
loop-i-preserved g c = rw c.loop-i.invariant (one_put_down c.args.lows.now c.args.highs.now c.loop-i.i (omega arith))

pub returns : goal.returns
returns g c =
    let all : c.loop-i.i ≡ c.min-held.result = omega arith in
    (_, c.ask.ensures, rw (c.loop-i.invariant, all, c.min-held.ensures) (all_put_down c.args.lows.now c.args.highs.now))
