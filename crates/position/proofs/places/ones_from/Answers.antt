-- `position::places::ones_from` meets its contract: the places make up a number of `len` bits, and its count of ones is the sum of
-- these bits. Assumes nothing.
use mathlib.Core.Path.{◌≡◌, sym, ◌∙◌}
use native.Mathlib.Omega.{arith}
use lib.Count.{ones}
use Rattle.bits.specs.Places.{weight}
use Rattle.bits.proofs.Binary.{weight_ones, weight_le}
use Rattle.bits.proofs.Sums.{sum_ext}
use Rattle.position.proofs.places.ones_from.Goals as goal

pub returns : goal.returns
unfolding weight
returns c =
    let number = c.bits_at.result in
    let len = c.args.len in
    let counted : ones number ≡ weight len number = sym (weight_ones len number c.bits_at.ensures.0) in
    (counted ∙ sum_ext len c.bits_at.ensures.1, omega (arith, weight_le len number))
