-- `linear_code::codeword::gray_number` meets its contract: Gray(i) is the exclusive-or of i and its half, and a shift by one
-- halves. Assumes nothing.
use mathlib.Core.Path.{refl}
use Rattle.model.specs.Order.{gray}
use Rattle.linear_code.proofs.codeword.gray_number.Goals as goal

pub returns : goal.returns
unfolding gray
returns c = refl
