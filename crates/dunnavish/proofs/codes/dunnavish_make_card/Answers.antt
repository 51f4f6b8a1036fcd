-- `dunnavish::codes::dunnavish_make_card` meets its contract: the count of the lent bytes, then what the library made. Assumes nothing.
use Rattle.dunnavish.proofs.MadeCardCrossing.{make_miscounted, make_refused, make_put}
use Rattle.dunnavish.proofs.codes.dunnavish_make_card.Goals as goal

pub returns-then-card-ne512 : goal.returns-then-card-ne512
returns-then-card-ne512 c = make_miscounted _ _ _ _ c.if-card-ne512.true

pub returns-in-Err : goal.returns-in-Err
returns-in-Err c = make_refused _ _ _ _ c.if-card-ne512.false c.make_card.ensures _ c.in-Err.is

pub returns-in-Ok : goal.returns-in-Ok
returns-in-Ok c = rw c.copy_from_slice.ensures.after (make_put _ _ _ _ c.if-card-ne512.false c.make_card.ensures _ c.in-Ok.is)
