-- `depot::words::block_start` meets its contract: one law for each way out, of a card that is refused, a block above the last, and a
-- block of the code. Assumes nothing.
use mathlib.Core.Path.{◌∙◌}
use Rattle.std.proofs.lemmas.Result.{err_from_is_err_and}
use Rattle.depot.proofs.StartContract.{start_by_card, start_above, start_within, start_answered}
use Rattle.depot.proofs.words.block_start.Goals as goal

pub returns-in_err-code : goal.returns-in_err-code
returns-in_err-code c =
    let p = err_from_is_err_and c.from_residual.result c.from_residual.ensures.1 in
    start_answered _ _ (p.1 ∙ rw p.2 (start_by_card _ _ _ c.in_err-code.ensures))

pub returns-then-last_codeword-block : goal.returns-then-last_codeword-block
returns-then-last_codeword-block c =
    start_answered _ _ (start_above _ _ _ c.in_ok-code.ensures _ c.last_codeword.ensures c.if-last_codeword-block.true)

pub start_of_block-requires : goal.start_of_block-requires
start_of_block-requires c = rw c.last_codeword.ensures at c.if-last_codeword-block.false

pub returns : goal.returns
returns c =
    start_answered _ _
    (start_within _ _ _ c.in_ok-code.ensures _ c.last_codeword.ensures c.if-last_codeword-block.false _ c.start_of_block.ensures)
