-- `linear_code::codeword::codeword` meets its contract. The loop's invariant: `word` is the sum of those of the rows below `z` whose bits
-- are set in Gray(i), each taken once or not at all, so that no product overflows. A sound code's rows lie within n bits, and so
-- does their sum. Assumes nothing.
use mathlib.Core.Path.{◌≡◌}
use Rattle.model.specs.Card.{sum_of_rows}
use Rattle.model.specs.Decoded.{meaning}
use Rattle.linear_code.proofs.codeword.codeword.Given as goal

abbrev pub invariant-loop-z : goal.invariant-loop-z
invariant-loop-z l = l.word ≡ sum_of_rows (meaning l.code).row l.z l.gray
