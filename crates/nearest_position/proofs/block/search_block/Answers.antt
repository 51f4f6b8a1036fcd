-- `nearest_position::block::search_block` meets its contract: the search through the places of the two words meets the positions of the
-- way, by the laws of the block. Assumes nothing.
use native.Mathlib.Omega.{arith}
use Rattle.model.specs.Decoded.{meaning}
use Rattle.model.specs.Words.{word}
use Rattle.bits.proofs.Distance.{distance_le}
use Rattle.code_theory.proofs.Promise.{promise}
use Rattle.code_theory.proofs.Starts.{last_position_bound, word_bits_bound}
use Rattle.position_theory.proofs.Blocks.{start_on_track}
use Rattle.nearest_position.proofs.BlockResiduals.{block_ends, block_searched}
use Rattle.nearest_position.proofs.block.search_block.Goals as goal

pub search_places-requires : goal.search_places-requires
search_places-requires c =
    let C = meaning c.args.code in
    let sound = c.args.code.sound in
    let (inside, is, forward, room) = c.requires.part in (
      forward,
      omega (arith, room, word_bits_bound C sound),
      rw is
          (omega (
            arith,
            start_on_track C (promise C sound) c.args.i inside,
            last_position_bound C sound,
            word_bits_bound C sound,
            distance_le c.args.from (word C c.args.i) (word C c.args.next),
          )),
    )

pub returns : goal.returns
returns c =
    let C = meaning c.args.code in
    let sound = c.args.code.sound in
    let spare = c.requires.received in
    let (inside, is, forward, room) = c.requires.part in
    record {
      ends = block_ends C sound _ _ _ _ c.word_of-u.ensures c.word_of-v.ensures _ spare _ _ _ _ is forward room c.search_places.ensures;
      scanned = block_searched C sound _ _ _ _ c.word_of-u.ensures c.word_of-v.ensures _ spare _ _ _ _ is forward room
          c.search_places.ensures;
    }
