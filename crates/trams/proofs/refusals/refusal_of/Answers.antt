-- `trams::refusals::refusal_of` meets its contract: it tests the rows in their order. Assumes nothing.
use Rattle.std.proofs.Common.{rules}
use Rattle.model.specs.Refusals.{first_refusal, unless_refused}
use Rattle.model.specs.Trams.{rows_of_trams}
use Rattle.trams.proofs.refusals.refusal_of.Goals as goal

pub returns-then-trams-gt-MOST_TRAMS : goal.returns-then-trams-gt-MOST_TRAMS
unfolding first_refusal unless_refused rows_of_trams
returns-then-trams-gt-MOST_TRAMS c = search rules

pub returns-then-any_misplaced : goal.returns-then-any_misplaced
unfolding first_refusal unless_refused rows_of_trams
returns-then-any_misplaced c = search rules

pub returns : goal.returns
unfolding first_refusal unless_refused rows_of_trams
returns c = search rules
