-- `dunnavish::marks::answer_each` meets its contract: either count is wrong, or the answer crosses. Assumes nothing.
use Rattle.dunnavish.proofs.TramsCross.{highs_miscounted, lent_miscounted, all_counted}
use Rattle.dunnavish.proofs.marks.answer_each.Goals as goal
use Rattle.dunnavish.proofs.marks.answer_each.Goals.{then-highs-lows-via-then-highs-lows, then-highs-lows-via-else-highs-lows+then-yes-lows}

pub returns-then-highs-lows : goal.returns-then-highs-lows
returns-then-highs-lows g c = λ answer given.
    elim c.then-highs-lows.branch [
      | then-highs-lows-via-then-highs-lows w ↦ highs_miscounted _ _ _ answer w.if-highs-lows.true
      | then-highs-lows-via-else-highs-lows+then-yes-lows w ↦ lent_miscounted _ _ _ answer w.if-highs-lows.false w.if-yes-lows.true
    ]

pub returns : goal.returns
returns g c = λ answer given.
    let is = given _ c.ask_of_lent.ensures in
    all_counted _ _ _ answer c.if-highs-lows.false c.if-yes-lows.false
    (rw is at c.put_answer.ensures.status) (rw is at c.put_answer.ensures.left)
