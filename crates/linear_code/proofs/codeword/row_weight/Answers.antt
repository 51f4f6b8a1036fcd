-- `linear_code::codeword::row_weight` meets its contract: all ones of a row below 2^n lie in its first n places, so their count is
-- the weight. Assumes nothing.
use mathlib.Core.Path.{sym}
use Rattle.bits.proofs.Binary.{weight_ones}
use Rattle.linear_code.proofs.codeword.row_weight.Goals as goal

pub returns : goal.returns
returns c = λ n h. sym (weight_ones n c.args.row h)
