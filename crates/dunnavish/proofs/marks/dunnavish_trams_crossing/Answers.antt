-- `dunnavish::marks::dunnavish_trams_crossing` meets its contract: it is the search by this test, and what is left decodes to its answer. Assumes
-- nothing.
use Rattle.std.proofs.Common.{◌≡◌, ◌∙◌, rules}
use Rattle.model.specs.TramsCrossing.{crosses, crossing_answer}
use Rattle.tram_theory.specs.TramPromises.{CrossingPromises}
use Rattle.tram_theory.proofs.TramPromises.{crossing_promises}
use Rattle.dunnavish.proofs.TramsCross.{each_handed, each_placed, answered_search}
use Rattle.dunnavish.proofs.marks.dunnavish_trams_crossing.Goals as goal

pub answer_each-requires-clause-sound : goal.answer_each-requires-clause-sound
answer_each-requires-clause-sound c = λ answer (shown, gave, is).
    let a = c.args in
    let answered : answer ≡ crossing_answer c.args.card.now shown.now c.args.mark = search rules in
    each_placed (crosses a.mark) a.card.now a.lows.now a.highs.now a.yes.now a.mark a.mark answer (rw is at answered)

pub returns : goal.returns
returns c =
    let a = c.args in
    answered_search (crosses a.mark) a.card.now a.lows.now a.highs.now a.yes.now a.mark a.mark (CrossingPromises _ _ _) (crossing_promises _ _ _)
    (c.answer_each.ensures _ (λ answer (shown, gave, is).
    let answered : answer ≡ crossing_answer c.args.card.now shown.now c.args.mark = search rules in
    rw is at answered ∙ each_handed a.card.now _ a.mark a.mark (crosses a.mark)))
