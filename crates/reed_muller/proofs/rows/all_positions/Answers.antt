-- `all_positions` meets its contract: 2^m is at most 64. Assumes nothing.
use native.Mathlib.Omega.{arith}
use lib.Pow.{pow_mono}
use Rattle.reed_muller.proofs.rows.all_positions.Goals as goal

pub low_ones-requires : goal.low_ones-requires
low_ones-requires c = omega (arith, c.two_to.ensures, pow_mono {i = c.args.m} {j = 6} c.requires)
