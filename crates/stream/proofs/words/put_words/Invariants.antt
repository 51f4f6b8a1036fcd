-- `stream::words::put_words` meets its contract. The loop keeps what `WordsPutSoFar` says of the first `i` words; the part that is lent
-- is word `i`, so its line follows. Assumes nothing.
use Rattle.model.specs.Decoded.{meaning}
use Rattle.report.specs.Filled.{filled_of}
use Rattle.stream.proofs.NextWord.{WordsPutSoFar}
use Rattle.stream.proofs.words.put_words.Given as goal

abbrev pub invariant-loop-i : goal.invariant-loop-i
invariant-loop-i l = WordsPutSoFar (meaning l.code) l.bytes l.start l.met (filled_of l.initial.out) (filled_of l.out) l.read l.i
