-- `position::words::put_chunk` meets its contract. The loop keeps that the bytes before j have taken their part of the chunk, and that
-- `rest` is what is left of it. It ends where that is 0, or with the last byte, and then all of the chunk is put down. Assumes nothing.
use mathlib.Core.Path.{◌≡◌}
use lib.ListN.{length}
use Rattle.position.proofs.FilledByte.{LeftFrom, FilledTo}
use Rattle.position.proofs.words.put_chunk.Given as goal

abbrev pub invariant-loop-j : goal.invariant-loop-j
invariant-loop-j l =
    (length l.word ≡ 40) × LeftFrom l.fn.at l.fn.value l.j l.rest × FilledTo l.fn.before l.fn.at l.fn.value l.j l.word
