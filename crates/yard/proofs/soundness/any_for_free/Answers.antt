-- `yard::soundness::any_for_free` meets its contract: the library's test of each entry is the definition's. Assumes nothing.
use Rattle.std.proofs.Common.{rules, refl, not}
use Rattle.std.proofs.lemmas.List.Recursion.{or_is}
use Rattle.model.specs.Yard.{any_for_free, is_held, no_entry}
use Rattle.yard.proofs.soundness.any_for_free.Goals as goal

pub returns : goal.returns
unfolding any_for_free
returns c =
    or_is (any_for_free c.args.yard) (λ w. not (is_held c.args.yard w.track)) refl (λ _ _. refl) c.args.entries.now no_entry _
    (λ some. search rules) (λ none. search rules)
