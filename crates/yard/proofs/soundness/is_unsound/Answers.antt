-- `yard::soundness::is_unsound` meets its contract: the three parts of refusal 26 in the code's order. Assumes nothing.
use Rattle.std.proofs.Common.{sym, ◌∙◌}
use Rattle.std.proofs.Math.Bool.{or-false}
use Rattle.std.proofs.lemmas.Bool.{or_left, or_right, lt-ltb, le-ltb}
use Rattle.model.specs.Yard.{most_waiting, trams_of, unsound}
use Rattle.yard.proofs.soundness.is_unsound.Goals as goal

pub returns-then-yard-gt-MOST_WAITING : goal.returns-then-yard-gt-MOST_WAITING
unfolding unsound
returns-then-yard-gt-MOST_WAITING c = sym (or_right _ _ (lt-ltb most_waiting c.args.yard.count c.if-yard-gt-MOST_WAITING.true))

pub returns-then-any_for_free : goal.returns-then-any_for_free
unfolding unsound
returns-then-any_for_free c = c.if-any_for_free.true ∙ sym (or_left _ _ (or_right _ _ (sym c.if-any_for_free.ensures)))

pub returns-else-any_for_free : goal.returns-else-any_for_free
unfolding trams_of unsound
returns-else-any_for_free c =
    c.any_is_twice.ensures
    ∙ rw (← c.if-any_for_free.ensures, le-ltb most_waiting c.args.yard.count c.if-yard-gt-MOST_WAITING.false) (sym (or-false _ ∙ or-false _))
