-- `position::words::word_at` meets its contract: the word of a position is defined as the walk from w(i) to w(i+1), i its block, of as
-- many steps as it stands from the block's start; and no position of the track stands farther than the two words are apart.
-- Assumes nothing.
use Prim.Native.Nat.{◌≤◌}
use native.Mathlib.Omega.{arith}
use Rattle.model.specs.Decoded.{meaning}
use Rattle.model.specs.Order.{last_codeword}
use Rattle.model.specs.Words.{word_at}
use Rattle.code_theory.proofs.Promise.{promise}
use Rattle.code_theory.proofs.Starts.{last_codeword_bound}
use Rattle.position_theory.proofs.Blocks.{block_le, block_low, steps_in_block}
use Rattle.position.proofs.words.word_at.Goals.{After-block_of-i}
use Rattle.position.proofs.words.word_at.Goals as goal

-- the block is one of the track's
on_track : (c : After-block_of-i) → c.block_of-i.result ≤ last_codeword (meaning c.args.code)
on_track c = rw c.block_of-i.ensures (block_le _ c.args.position)

pub overflow_add-i : goal.overflow_add-i
overflow_add-i c = omega (arith, on_track c, last_codeword_bound _ c.args.code.sound)

pub start_of_block-requires : goal.start_of_block-requires
start_of_block-requires c = on_track c

pub overflow_sub-position : goal.overflow_sub-position
overflow_sub-position c =
    rw (c.start_of_block.ensures, c.block_of-i.ensures) (block_low _ (promise _ c.args.code.sound) c.args.position)

pub word_in_block-requires : goal.word_in_block-requires
word_in_block-requires c =
    rw (c.start_of_block.ensures, c.block_of-i.ensures)
    (steps_in_block _ (promise _ c.args.code.sound) c.args.position c.requires)

pub returns : goal.returns
unfolding word_at
returns c =
    rw (← c.block_of-i.ensures, ← c.start_of_block.ensures) c.word_in_block.ensures
