-- `dunnavish::yards::dunnavish_request` meets its contract: the counts of what is lent, then the library's answer. Assumes nothing.
use Rattle.depot.proofs.YardContract.{RequestMeets}
use Rattle.dunnavish.specs.YardNumbers.{yard_lent}
use Rattle.dunnavish.proofs.RequestsCross.{request_miscounted, request_refused_crosses, request_served_crosses, few_wait}
use Rattle.dunnavish.proofs.yards.dunnavish_request.Goals.{After-request-requested}
use Rattle.dunnavish.proofs.yards.dunnavish_request.Goals as goal

-- what the library's contract says of its answer to the lent yard
met : (c : After-request-requested) → RequestMeets (yard_lent c.args.yard.now) c.args.tram c.args.track c.request-requested.result
met c = rw c.yard_lent.ensures at c.request-requested.ensures

pub returns-then-yard-ne-YARD_NUMBERS : goal.returns-then-yard-ne-YARD_NUMBERS
returns-then-yard-ne-YARD_NUMBERS c = request_miscounted _ _ _ _ c.then-yard-ne-YARD_NUMBERS.either

pub put_yard-requires : goal.put_yard-requires
put_yard-requires c =
    let ensured = met (goal.at.put_yard-requires c).After-request-requested in
    (few_wait _ _ _ _ c.if-yard-ne-YARD_NUMBERS.false c.if-values-ne1.false _ ensured c.in-Ok.request c.in-Ok.is, c.if-yard-ne-YARD_NUMBERS.false)

pub returns-in-Err : goal.returns-in-Err
returns-in-Err c =
    let ensured = met (goal.at.returns-in-Err c).After-request-requested in
    request_refused_crosses _ _ _ _ c.if-yard-ne-YARD_NUMBERS.false c.if-values-ne1.false _ ensured c.in-Err.refusal c.in-Err.is

pub returns-in-Ok : goal.returns-in-Ok
returns-in-Ok c =
    let ensured = met (goal.at.returns-in-Ok c).After-request-requested in
    rw (c.put_yard.ensures, c.request_value.ensures)
    (request_served_crosses _ _ _ _ c.if-yard-ne-YARD_NUMBERS.false c.if-values-ne1.false _ ensured c.in-Ok.request c.in-Ok.is)
