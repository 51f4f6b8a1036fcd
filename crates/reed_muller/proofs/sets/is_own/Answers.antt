-- `is_own` meets its contract: place p of 2^m ones is 1 where p is below 2^m. Assumes nothing.
use Rattle.reed_muller.proofs.Tables.{own_by_place}
use Rattle.reed_muller.proofs.sets.is_own.Goals as goal

pub returns : goal.returns
returns c m are = own_by_place m c.args.set c.args.positions are
