-- `radius_of` meets its contract: the formula is the definition's, and D is 1 at least. Assumes nothing.
use native.Mathlib.Omega.{arith}
use Rattle.model.specs.Decoded.{meaning}
use Rattle.code_theory.proofs.LeastDistance.{D-low}
use Rattle.linear_code.proofs.search.radius_of.Goals as goal

pub overflow_sub-result : goal.overflow_sub-result
overflow_sub-result c = omega (arith, D-low (meaning c.args.code) c.args.code.sound)
