-- `nearest_position::two_ends::search_before_start` meets its contract: at the first start there is nothing before. At any other one the
-- search goes through separator 3 of the block before, which begins D steps before the start. Assumes nothing.
use mathlib.Core.Path.{◌≡◌, ◌∙◌, sym, ap}
use Prim.Native.Nat.{ℕ, ◌+◌, ◌-◌, ◌<◌}
use native.Mathlib.Omega.{arith}
use Rattle.model.specs.Card.{Code}
use Rattle.model.specs.Decoded.{meaning}
use Rattle.model.specs.Order.{last_codeword, start}
use Rattle.code_theory.specs.Promise.{Sound}
use Rattle.code_theory.proofs.Promise.{promise}
use Rattle.code_theory.proofs.Starts.{start_zero}
use Rattle.position.specs.LayoutOf.{LayoutOf}
use Rattle.nearest_position.specs.Residuals.{position_at, residual_in}
use Rattle.nearest_position.proofs.BlockResiduals.{residual_of_start, residuals_of_block, distance_held}
use Rattle.nearest_position.proofs.RuleRanges.{at_separator₃, at_end}
use Rattle.nearest_position.proofs.Scanning.{scanned_first}
use Rattle.nearest_position.proofs.two_ends.search_before_start.Goals.{Else-p-eq0, Start}
use Rattle.nearest_position.proofs.two_ends.search_before_start.Goals as goal

pub returns-then-p-eq0 : goal.returns-then-p-eq0
returns-then-p-eq0 c =
    let C = meaning c.args.code in
    let sound = c.args.code.sound in
    let zero_start : start C c.args.p ≡ 0 = rw c.if-p-eq0.true (start_zero C) in
    let counted =
    distance_held C sound _ c.requires.0.1 _ _ c.word_of.ensures
    ∙ sym (residual_of_start C sound c.args.x 0 (omega arith))
    ∙ ap (residual_in C c.args.x) (start_zero C) in
    rw c.begin.ensures (omega arith, sym zero_start, scanned_first _ 0 _ counted)

-- the block before p, which ends at p's start
module _ (c : Else-p-eq0) where
  abbrev C : Code
  C = meaning c.args.code

  abbrev sound : Sound C
  sound = c.args.code.sound

  abbrev laid : LayoutOf C c.args.at
  laid = c.requires.0.0

  abbrev i : ℕ
  i = c.args.p - 1

  after : c.args.p ≡ i + 1
  after = omega (arith, c.if-p-eq0.false)

  inside : i < last_codeword C
  inside = omega (arith, c.if-p-eq0.false, c.requires.1)

pub overflow_sub-low : goal.overflow_sub-low
overflow_sub-low c =
    let here = (goal.at.overflow_sub-low c).Else-p-eq0 in
    let started = (promise (C here) (sound here)).start_next (i here) (inside here) in
    rw (c.start_of_block.ensures, after here) (omega (arith, started))

pub search_block-requires-clause-part : goal.search_block-requires-clause-part
search_block-requires-clause-part c =
    let here = (goal.at.search_block-requires-clause-part c).Else-p-eq0 in (
      omega (arith, inside here),
      rw ((laid here).separator₃_at, c.start_of_block.ensures)
          (sym (at_separator₃ (C here) (sound here) _ _ (after here) (inside here))),
      omega (arith, (laid here).separator₃_at, (laid here).bits_are),
      omega (arith, (laid here).bits_are),
    )

pub returns : goal.returns
returns c =
    let here = (goal.at.returns c).Else-p-eq0 in
    let (low, position) = c.search_block.ensures.ends in (
      low ∙ rw c.start_of_block.ensures,
      position
          ∙ ap (position_at (C here) (i here) c.args.p) (laid here).bits_are
          ∙ at_end (C here) (sound here) _ _ (after here) (inside here),
      c.search_block.ensures.scanned _ (residuals_of_block (C here) (sound here) _ _ _ (after here) (inside here)),
    )
