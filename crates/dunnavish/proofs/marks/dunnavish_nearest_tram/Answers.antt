-- `dunnavish::marks::dunnavish_nearest_tram` meets its contract: the counts of what is lent, then each answer of the library's search, which
-- crosses as one number. Assumes nothing.
use Rattle.std.proofs.Common.{◌≡◌, sym, ◌∙◌, rules}
use Rattle.model.specs.NearestTram.{nearest_answer}
use Rattle.dunnavish.specs.Crossing.{trams_lent}
use Rattle.dunnavish.proofs.TramsCross.{nearest_handed, nearest_highs_miscounted, nearest_miscounted, nearest_stored, nearest_refused}
use Rattle.dunnavish.proofs.marks.dunnavish_nearest_tram.Goals.{After-ask_of_lent-answer}
use Rattle.dunnavish.proofs.marks.dunnavish_nearest_tram.Goals.{then-highs-lows-via-then-highs-lows}
use Rattle.dunnavish.proofs.marks.dunnavish_nearest_tram.Goals.{then-highs-lows-via-else-highs-lows+then-values-ne1}
use Rattle.dunnavish.proofs.marks.dunnavish_nearest_tram.Goals as goal

-- the library's answer is the definition's for all trams that are lent
answered : (c : After-ask_of_lent-answer)
    → nearest_answer c.args.card.now (trams_lent c.args.lows.now c.args.highs.now) c.args.mark ≡ c.ask_of_lent-answer.result
answered c =
    let (shown, gave, is) = c.ask_of_lent-answer.ensures in
    let given : c.ask_of_lent-answer.result ≡ nearest_answer c.args.card.now shown.now c.args.mark = search rules in
    sym (rw is at given ∙ nearest_handed c.args.card.now _ c.args.mark)

pub returns-then-highs-lows : goal.returns-then-highs-lows
returns-then-highs-lows c =
    elim c.then-highs-lows.branch [
      | then-highs-lows-via-then-highs-lows w ↦ nearest_highs_miscounted _ _ _ _ _ w.if-highs-lows.true
      | then-highs-lows-via-else-highs-lows+then-values-ne1 w ↦ nearest_miscounted _ _ _ _ _ w.if-highs-lows.false w.if-values-ne1.true
    ]

pub returns-in-Ok : goal.returns-in-Ok
returns-in-Ok c =
    let is = answered (goal.at.returns-in-Ok c).After-ask_of_lent-answer in
    rw c.unwrap_or.ensures (nearest_stored _ _ _ _ _ c.if-highs-lows.false c.if-values-ne1.false _ (is ∙ c.in-Ok.is))

pub returns-in-Err : goal.returns-in-Err
returns-in-Err c =
    let is = answered (goal.at.returns-in-Err c).After-ask_of_lent-answer in
    nearest_refused _ _ _ _ _ c.if-highs-lows.false c.if-values-ne1.false _ (is ∙ c.in-Err.is)
