-- `nearest_position::two_ends::nearest_after` meets its contract: block p from its start to the end of separator 2. Assumes nothing.
use mathlib.Core.Path.{refl, sym, ap, ◌∙◌}
use Prim.Native.Nat.{◌+◌}
use native.Mathlib.Omega.{arith}
use Rattle.model.specs.Decoded.{meaning}
use Rattle.code_theory.proofs.Starts.{last_codeword_bound}
use Rattle.nearest_position.specs.Residuals.{position_at}
use Rattle.nearest_position.proofs.BlockResiduals.{residuals_of_block}
use Rattle.nearest_position.proofs.RuleRanges.{at_start, at_chunk₂}
use Rattle.nearest_position.proofs.two_ends.nearest_after.Goals as goal

pub overflow_add-p : goal.overflow_add-p
overflow_add-p c =
    omega (arith, c.requires.1, last_codeword_bound _ c.args.code.sound)

pub search_block-requires-clause-part : goal.search_block-requires-clause-part
search_block-requires-clause-part c =
    let ((laid, spare), inside) = c.requires in (
      omega (arith, inside),
      c.start_of_block-low.ensures ∙ sym (at_start _ c.args.code.sound _ _ refl inside),
      omega arith,
      omega (arith, laid.chunk₂_at),
    )

pub returns : goal.returns
returns c =
    let C = meaning c.args.code in
    let sound = c.args.code.sound in
    let ((laid, spare), inside) = c.requires in
    let (low, position) = c.search_block.ensures.ends in
    record {
      low_is = low ∙ c.start_of_block-low.ensures;
      high_is = position ∙ ap (position_at C c.args.p (c.args.p + 1)) laid.chunk₂_at ∙ at_chunk₂ C sound _ _ refl inside;
      scanned = c.search_block.ensures.scanned _ (residuals_of_block C sound _ _ _ refl inside);
    }
