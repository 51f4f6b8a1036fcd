-- `dunnavish::yards::dunnavish_release` meets its contract: the counts of what is lent, then the library's answer. Assumes nothing.
use Rattle.std.proofs.Common.{sym}
use Rattle.depot.proofs.YardContract.{ReleaseMeets}
use Rattle.dunnavish.specs.YardNumbers.{yard_lent}
use Rattle.dunnavish.proofs.ReleasesCross.{release_miscounted, release_refused_crosses, release_served_crosses, few_wait}
use Rattle.dunnavish.proofs.yards.dunnavish_release.Goals.{After-release-released}
use Rattle.dunnavish.proofs.yards.dunnavish_release.Goals as goal

-- what the library's contract says of its answer to the lent yard
met : (c : After-release-released)
    → ReleaseMeets (yard_lent c.args.yard.now) c.args.tram c.args.word.now c.args.mark c.args.card.now c.release-released.result
met c = rw c.yard_lent.ensures at c.release-released.ensures

pub returns-then-yard-ne-YARD_NUMBERS : goal.returns-then-yard-ne-YARD_NUMBERS
returns-then-yard-ne-YARD_NUMBERS c = release_miscounted _ _ _ _ _ _ c.then-yard-ne-YARD_NUMBERS.either

pub returns-in-Err : goal.returns-in-Err
returns-in-Err c =
    let ensured = met (goal.at.returns-in-Err c).After-release-released in
    release_refused_crosses _ _ _ _ _ _ c.if-yard-ne-YARD_NUMBERS.false c.if-values-ne1.false _ ensured c.in-Err.refusal c.in-Err.is

pub put_yard-requires : goal.put_yard-requires
put_yard-requires c =
    let ensured = met (goal.at.put_yard-requires c).After-release-released in
    let is = sym c.if-is_accepted.ensures in (
      few_wait _ _ _ _ _ _ c.if-yard-ne-YARD_NUMBERS.false c.if-values-ne1.false _ ensured c.in-Ok.release c.in-Ok.is is,
      c.if-yard-ne-YARD_NUMBERS.false,
    )

pub returns-then-is_accepted : goal.returns-then-is_accepted
returns-then-is_accepted c =
    let ensured = met (goal.at.returns-then-is_accepted c).After-release-released in
    rw c.release_value.ensures
    (release_served_crosses _ _ _ _ _ _ c.if-yard-ne-YARD_NUMBERS.false c.if-values-ne1.false _ ensured c.in-Ok.release c.in-Ok.is _
    (rw (← c.if-is_accepted.ensures, c.put_yard.ensures)))

pub returns-else-is_accepted : goal.returns-else-is_accepted
returns-else-is_accepted c =
    let ensured = met (goal.at.returns-else-is_accepted c).After-release-released in
    rw c.release_value.ensures
    (release_served_crosses _ _ _ _ _ _ c.if-yard-ne-YARD_NUMBERS.false c.if-values-ne1.false _ ensured c.in-Ok.release c.in-Ok.is _
    (rw (← c.if-is_accepted.ensures)))
