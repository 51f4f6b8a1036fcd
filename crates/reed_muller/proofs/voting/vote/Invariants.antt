-- `vote` meets its contract. The loop's invariant is `VotedDown`: what is left of the chunk and the rows found are those after the rounds
-- done. Assumes nothing.
use Prim.Native.Nat.{suc}
use Rattle.reed_muller.proofs.VotedDown.{VotedDown}
use Rattle.reed_muller.proofs.voting.vote.Given as goal

abbrev pub invariant-loop-size : goal.invariant-loop-size
invariant-loop-size l = VotedDown l.r l.m l.chunk (suc l.size) l.left l.rows
