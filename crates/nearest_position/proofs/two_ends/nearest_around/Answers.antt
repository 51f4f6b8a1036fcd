-- `nearest_position::two_ends::nearest_around` meets its contract: the track ends at the last start, and goes on at any other.
-- Assumes nothing.
use mathlib.Core.Path.{refl, ap, ◌∙◌}
use Prim.Native.Nat.{◌<◌}
use native.Mathlib.Omega.{arith}
use Rattle.model.specs.Decoded.{meaning}
use Rattle.model.specs.Order.{last_codeword}
use Rattle.nearest_position.specs.Residuals.{residual_in}
use Rattle.nearest_position.proofs.BlockResiduals.{residual_of_start, residuals_of_block}
use Rattle.nearest_position.proofs.RuleRanges.{at_chunk₁, track_ends, track_goes_on}
use Rattle.nearest_position.proofs.two_ends.nearest_around.Goals.{Else-p-last_codeword}
use Rattle.nearest_position.proofs.two_ends.nearest_around.Goals as goal

pub returns-then-p-last_codeword : goal.returns-then-p-last_codeword
returns-then-p-last_codeword c =
    let C = meaning c.args.code in
    let (low, position, scanned) = c.search_before_start-before.ensures in
    record {
      low_is = low;
      high_is = position ∙ track_ends C c.args.p (c.if-p-last_codeword.true ∙ c.last_codeword.ensures);
      scanned = scanned;
    }

goes_on : (c : Else-p-last_codeword) → c.args.p < last_codeword (meaning c.args.code)
goes_on c = omega (arith, c.if-p-last_codeword.false, c.last_codeword.ensures, c.requires.1)

pub search_after_start-requires-clause-at_start : goal.search_after_start-requires-clause-at_start
search_after_start-requires-clause-at_start c =
    let C = meaning c.args.code in
    let (low, position, scanned) = c.search_before_start-before.ensures in (
      position,
      scanned.here ∙ ap (residual_in C c.args.x) position ∙ residual_of_start C c.args.code.sound c.args.x _ c.requires.1,
    )

pub returns : goal.returns
returns c =
    let C = meaning c.args.code in
    let sound = c.args.code.sound in
    let (begun, stood, before) = c.search_before_start-before.ensures in
    let (low, position) = c.search_after_start.ensures.ends in
    let on = goes_on (goal.at.returns c).Else-p-last_codeword in
    record {
      low_is = low ∙ begun;
      high_is = position ∙ at_chunk₁ C sound _ _ refl on ∙ track_goes_on C sound c.args.p on;
      scanned = c.search_after_start.ensures.scanned _ (residuals_of_block C sound _ _ _ refl on) before;
    }
