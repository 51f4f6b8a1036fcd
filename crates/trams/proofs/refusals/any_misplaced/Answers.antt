-- `trams::refusals::any_misplaced` meets its contract: where the marks are not misplaced, the test of the stretches decides. Assumes nothing.
use Rattle.std.proofs.Common.{Bool, rules, tests, sym, ◌∙◌}
use Rattle.std.proofs.lemmas.Iterator.{YieldsList-from_slice}
use Rattle.std.proofs.lemmas.Iterator.Search.{any_from_yields_List}
use Rattle.model.specs.Trams.{misplaced_pair, any_misplaced}
use Rattle.model.specs.declared.Stretch.{Stretch}
use Rattle.trams.proofs.TramRefusals.{any_of_all}
use Rattle.trams.proofs.refusals.any_misplaced.Goals as goal

pub returns-else-misplaced : goal.returns-else-misplaced
unfolding any_misplaced
returns-else-misplaced c =
    let test : Stretch → Bool = λ s. misplaced_pair c.args.last s.low s.high in
    rw (sym c.misplaced.ensures ∙ c.if-misplaced.false)
    (any_from_yields_List test _ _ c.any.result c.any.ensures.ran (YieldsList-from_slice c.args.trams.now c.iter.ensures.rest)
    (λ s answer after given. (search rules, search (rules, tests)))
    ∙ any_of_all test c.args.trams.now _)
