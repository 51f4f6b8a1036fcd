-- `nearest_position::block::search_after_start` meets its contract: separator 1 of the block, from its start. Assumes nothing.
use native.Mathlib.Omega.{arith}
use Rattle.model.specs.Decoded.{meaning}
use Rattle.code_theory.proofs.Promise.{promise}
use Rattle.code_theory.proofs.Starts.{last_position_bound, word_bits_bound}
use Rattle.position_theory.proofs.Blocks.{start_on_track}
use Rattle.nearest_position.proofs.BlockResiduals.{residual_at_start, passed_ends, start_passed}
use Rattle.nearest_position.proofs.block.search_after_start.Goals as goal

pub pass_places-requires : goal.pass_places-requires
pass_places-requires c =
    let C = meaning c.args.code in
    let sound = c.args.code.sound in
    let (spare, inside) = c.requires.received in
    let (position, here) = c.requires.at_start in (
      omega arith,
      omega (arith, word_bits_bound C sound),
      rw position (omega (arith, start_on_track C (promise C sound) c.args.i inside, last_position_bound C sound)),
      residual_at_start C sound c.args.i c.args.next _ _ c.word_of-u.ensures
          c.word_of-v.ensures _ spare c.args.s position here,
    )

pub returns : goal.returns
returns c =
    let C = meaning c.args.code in
    let sound = c.args.code.sound in
    let (spare, inside) = c.requires.received in
    let (position, here) = c.requires.at_start in
    record {
      ends = passed_ends C sound _ _ _ _ c.word_of-u.ensures c.word_of-v.ensures _ spare _ position here _ (omega arith) _
          c.pass_places.ensures;
      scanned = start_passed C sound _ _ _ _ c.word_of-u.ensures c.word_of-v.ensures _ spare _ position here _ (omega arith) _
          c.pass_places.ensures;
    }
