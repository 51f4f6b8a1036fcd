-- `dunnavish::marks::dunnavish_trams_within` meets its contract: it is the search by this test, and what is left decodes to its answer. Assumes
-- nothing.
use Rattle.std.proofs.Common.{◌≡◌, ◌∙◌, rules}
use Rattle.model.specs.TramsWithin.{lies_within, within_answer}
use Rattle.tram_theory.specs.TramPromises.{WithinPromises}
use Rattle.tram_theory.proofs.TramPromises.{within_promises}
use Rattle.dunnavish.proofs.TramsCross.{each_handed, each_placed, answered_search}
use Rattle.dunnavish.proofs.marks.dunnavish_trams_within.Goals as goal

pub answer_each-requires-clause-sound : goal.answer_each-requires-clause-sound
answer_each-requires-clause-sound c = λ answer (shown, gave, is).
    let a = c.args in
    let answered : answer ≡ within_answer c.args.card.now shown.now c.args.first c.args.second = search rules in
    each_placed (lies_within a.first a.second) a.card.now a.lows.now a.highs.now a.yes.now a.first a.second answer (rw is at answered)

pub returns : goal.returns
returns c =
    let a = c.args in
    answered_search (lies_within a.first a.second) a.card.now a.lows.now a.highs.now a.yes.now a.first a.second (WithinPromises _ _ _ _) (within_promises _ _ _ _)
    (c.answer_each.ensures _ (λ answer (shown, gave, is).
    let answered : answer ≡ within_answer c.args.card.now shown.now c.args.first c.args.second = search rules in
    rw is at answered ∙ each_handed a.card.now _ a.first a.second (lies_within a.first a.second)))
