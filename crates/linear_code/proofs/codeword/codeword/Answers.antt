use mathlib.Core.Path.{◌≡◌, ◌∙◌}
use borrow.Author.Rules.{rules}
use native.Mathlib.Numerals.{add-one}
use native.Mathlib.Omega.{arith}
use Rattle.model.specs.Card.{sum_of_rows}
use Rattle.model.specs.Decoded.{meaning}
use Rattle.model.specs.Order.{codeword}
use Rattle.code_theory.proofs.LeastDistance.{codeword_narrow}
use Rattle.linear_code.proofs.codeword.codeword.Goals as goal

pub loop-z-init : goal.loop-z-init
unfolding sum_of_rows
loop-z-init c = search rules

pub loop-z-preserved : goal.loop-z-preserved
unfolding sum_of_rows
loop-z-preserved c = rw (add-one c.loop-z.z, ← c.loop-z.invariant, c.gray_bit.ensures.0)

pub returns : goal.returns
unfolding codeword
returns c =
    let loop = c.loop-z in
    let all : loop.z ≡ c.args.code.k = omega arith in
    let is_codeword : loop.word ≡ codeword (meaning c.args.code) c.args.i =
    loop.invariant ∙ rw (all, c.gray_number-gray.ensures) in
    (is_codeword, rw is_codeword (codeword_narrow _ c.args.code.sound c.args.i))
