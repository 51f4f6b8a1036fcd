use mathlib.Core.Path.{◌≡◌, sym, ap, ◌∙◌}
use native.Mathlib.Omega.{arith}
use Rattle.bits.proofs.Binary.{weight_le}
use Rattle.model.specs.Card.{Code}
use Rattle.model.specs.Decoded.{meaning}
use Rattle.model.specs.Order.{sum_before_row}
use Rattle.code_theory.proofs.LeastDistance.{D-high}
use Rattle.code_theory.proofs.Starts.{last_codeword_bound}
use Rattle.position.proofs.StartSum.{before_any_row, next_row, row_added, sum_bound}
use Rattle.position.proofs.blocks.sum_of_rows.Goals as goal

pub loop-z-init : goal.loop-z-init
loop-z-init c = sym (before_any_row (meaning c.args.code) c.args.i)

pub loop-z-preserved : goal.loop-z-preserved
loop-z-preserved c =
    let z = c.loop-z.z in
    c.sum_after_row-sum.ensures ∙ row_added (meaning c.args.code) c.args.i z (c.requires.1 z (omega arith)) c.loop-z.invariant

pub returns : goal.returns
returns c =
    let C : Code = meaning c.args.code in
    let all : c.loop-z.z ≡ c.args.rows = omega arith in
    let sum = c.loop-z.invariant ∙ ap (sum_before_row C c.args.i) all in
    record { before_row = sum; after_row = λ z last. sum ∙ ap (sum_before_row C c.args.i) last ∙ next_row C c.args.i z }

-- ---- what fits
pub overflow_mul-sum : goal.overflow_mul-sum
overflow_mul-sum c = omega (arith, D-high _ c.args.code.sound)

pub overflow_mul-sum-2 : goal.overflow_mul-sum-2
overflow_mul-sum-2 c =
    let C : Code = meaning c.args.code in
    omega (arith, before_any_row C c.args.i, sum_bound C c.args.i c.args.code.sound c.requires.0 0 (omega arith))

pub sum_after_row-sum-requires : goal.sum_after_row-sum-requires
sum_after_row-sum-requires c =
    let z = c.loop-z.z in
    let C : Code = meaning c.args.code in
    let sound = c.args.code.sound in (
      omega (arith, c.requires.1 z (omega arith), weight_le C.n (C.row z), sound.n_high),
      omega (arith, c.requires.0, last_codeword_bound C sound),
      omega (arith, sound.k_high),
      omega (arith, c.loop-z.invariant, sum_bound C c.args.i sound c.requires.0 z (omega arith)),
    )
