-- `dunnavish::words::dunnavish_write_word` meets its contract: the library's own contract says what the lent word holds, and the status is
-- that of its answer. Assumes nothing.
use Rattle.dunnavish.proofs.Writes.{write_crosses}
use Rattle.dunnavish.proofs.words.dunnavish_write_word.Goals as goal
use Rattle.model.specs.Refusals.{status_of}

pub returns-in-Err : goal.returns-in-Err
unfolding status_of
returns-in-Err c =
    let met = c.write_word.ensures in
    let all = write_crosses _ _ _ _ _ _ (met.answer, (met.status, (met.values, (met.left, (met.neighbours, (met.alone, met.promises))))))
    (rw c.in-Err.is) in
    record {
      status = all.0;
      left = all.1.0;
      unchanged = all.1.1.0;
      neighbours = all.1.1.1.0;
      alone = all.1.1.1.1.0;
      promises = all.1.1.1.1.1;
    }

pub returns-in-Ok : goal.returns-in-Ok
unfolding status_of
returns-in-Ok c =
    let met = c.write_word.ensures in
    let all = write_crosses _ _ _ _ _ _ (met.answer, (met.status, (met.values, (met.left, (met.neighbours, (met.alone, met.promises))))))
    (rw c.in-Ok.is) in
    record {
      status = all.0;
      left = all.1.0;
      unchanged = all.1.1.0;
      neighbours = all.1.1.1.0;
      alone = all.1.1.1.1.0;
      promises = all.1.1.1.1.1;
    }
