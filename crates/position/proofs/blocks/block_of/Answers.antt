use native.Mathlib.Omega.{arith}
use Rattle.model.specs.Decoded.{meaning}
use Rattle.code_theory.proofs.Starts.{last_codeword_bound}
use Rattle.position.proofs.BlockBetween.{on_the_track, before_middle, block_found}
use Rattle.position.proofs.blocks.block_of.Goals as goal

pub loop-low-init : goal.loop-low-init
loop-low-init c =
    let args = c.args in rw c.last_codeword-high.ensures (on_the_track (meaning args.code) args.position)

-- the sum of two of the track's blocks and one fits
pub overflow_add-middle : goal.overflow_add-middle
overflow_add-middle c =
    omega (arith, last_codeword_bound _ c.args.code.sound)

pub overflow_add-middle-in-loop-low : goal.overflow_add-middle-in-loop-low
overflow_add-middle-in-loop-low c =
    omega (arith, last_codeword_bound _ c.args.code.sound)

pub loop-low-preserved : goal.loop-low-preserved
loop-low-preserved c =
    let loop = c.loop-low in
    before_middle _ _ loop.low loop.high _ loop.invariant c.args.code.sound (omega arith) (omega arith)
    (rw c.start_by.ensures at c.if-start_by-position.false)

pub returns : goal.returns
returns c =
    let loop = c.loop-low in block_found _ _ loop.low loop.high c.loop-low-test.false loop.invariant
