-- `nearest_position::two_ends::nearest_before` meets its contract: block p - 1 from separator 2, D + A(p-1) steps from its start, to its end.
-- Assumes nothing.
use mathlib.Core.Path.{◌≡◌, sym, ap, ◌∙◌}
use Prim.Native.Nat.{ℕ, ◌+◌, ◌-◌, ◌≤◌, ◌<◌}
use native.Mathlib.Omega.{arith}
use Rattle.model.specs.Card.{Code}
use Rattle.model.specs.Decoded.{meaning}
use Rattle.model.specs.Order.{last_codeword, start}
use Rattle.code_theory.specs.Promise.{Sound}
use Rattle.code_theory.proofs.Promise.{promise}
use Rattle.code_theory.proofs.Starts.{last_position_bound}
use Rattle.position.specs.LayoutOf.{LayoutOf}
use Rattle.position_theory.proofs.Blocks.{start_on_track}
use Rattle.nearest_position.specs.Residuals.{position_at}
use Rattle.nearest_position.proofs.BlockResiduals.{residuals_of_block}
use Rattle.nearest_position.proofs.RuleRanges.{at_separator₂, at_end}
use Rattle.nearest_position.proofs.two_ends.nearest_before.Goals.{Start}
use Rattle.nearest_position.proofs.two_ends.nearest_before.Goals as goal

-- the block before p, and its start
module _ (first : Start) where
  abbrev C : Code
  C = meaning first.args.code

  abbrev sound : Sound C
  sound = first.args.code.sound

  abbrev laid : LayoutOf C first.args.at
  laid = first.requires.0.0

  abbrev i : ℕ
  i = first.args.p - 1

  after : first.args.p ≡ i + 1
  after = omega (arith, first.requires.1)

  inside : i < last_codeword C
  inside = omega (arith, first.requires.1, first.requires.2)

  start_bound : start C i ≤ 1310400
  start_bound = omega (arith, start_on_track C (promise C sound) i (omega (arith, inside)), last_position_bound C sound)

pub overflow_add-low : goal.overflow_add-low
overflow_add-low c =
    let first = (goal.at.overflow_add-low c).Start in
    omega (arith, c.start_of_block-start.ensures, start_bound first, (laid first).separator_fits)

pub overflow_add-low-2 : goal.overflow_add-low-2
overflow_add-low-2 c =
    let first = (goal.at.overflow_add-low-2 c).Start in
    omega (
      arith,
      c.start_of_block-start.ensures,
      start_bound first,
      (laid first).separator_fits,
      c.changed_weight.ensures.1,
    )

pub search_block-requires-clause-part : goal.search_block-requires-clause-part
search_block-requires-clause-part c =
    let first = (goal.at.search_block-requires-clause-part c).Start in
    let started = c.start_of_block-start in
    let begins : started.result + (C first).D + c.changed_weight.result
    ≡ position_at (C first) (i first) c.args.p ((C first).D + (C first).n) =
    rw (started.ensures, c.changed_weight.ensures.0) (sym (at_separator₂ (C first) (sound first) _ _ (after first) (inside first))) in (
      omega (arith, inside first),
      begins ∙ ap (position_at (C first) (i first) c.args.p) (sym (laid first).separator₂_at),
      omega (arith, (laid first).separator₂_at, (laid first).bits_are),
      omega (arith, (laid first).bits_are),
    )

pub returns : goal.returns
returns c =
    let first = (goal.at.returns c).Start in
    let (low, position) = c.search_block.ensures.ends in
    record {
      low_is = low ∙ rw (c.start_of_block-start.ensures, c.changed_weight.ensures.0);
      high_is =
          position
          ∙ ap (position_at (C first) (i first) c.args.p) (laid first).bits_are
          ∙ at_end (C first) (sound first) _ _ (after first) (inside first);
      scanned = c.search_block.ensures.scanned _ (residuals_of_block (C first) (sound first) _ _ _ (after first) (inside first));
    }
