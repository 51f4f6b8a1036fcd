-- `depot::yards::release` meets its contract: a card that is refused is answered by its refusal, and past the card's test by
-- what the release answers on its code; either is the one that the definition gives, of which the clauses are theorems. Assumes nothing.
use Rattle.std.proofs.Common.{arith}
use Rattle.depot.proofs.YardContract.{release_answered, release_by_refused_card, release_on_card}
use Rattle.depot.proofs.yards.release.Goals as goal

pub returns-in-Ok : goal.returns-in-Ok
returns-in-Ok c =
    release_answered _ _ _ _ _ (record { tracks = omega arith; places = omega arith })
    (release_on_card _ _ _ _ _ c.in-Ok.sound c.in-Ok.ensures _ c.release.ensures)

pub returns-in-Err : goal.returns-in-Err
returns-in-Err c =
    release_answered _ _ _ _ _ (record { tracks = omega arith; places = omega arith })
    (release_by_refused_card _ _ _ _ _ c.in-Err.refusal c.in-Err.ensures)
