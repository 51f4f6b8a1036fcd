-- `card_request::card_for` meets its contract: its way through the tests is the one of the definition. Assumes nothing.
use Rattle.std.proofs.Common.{arith}
use Rattle.std.proofs.lemmas.Grind.{common_steps}
use Rattle.card_request.specs.Request.{is_number, number_text, request_answer}
use Rattle.model.specs.MakeCard.{make_refusal, make_answer}
use Rattle.model.specs.Refusals.{first_refusal, unless_refused}
use Rattle.card_request.proofs.Answers.{meets}
use Rattle.card_request.proofs.card_for.Goals as goal

pub returns-in_err-track : goal.returns-in_err-track
unfolding number_text request_answer
returns-in_err-track c = meets _ _ _ (grind (arith, common_steps))

pub returns-in_err-r : goal.returns-in_err-r
unfolding number_text request_answer
returns-in_err-r c = meets _ _ _ (grind (arith, common_steps))

pub returns-in_err-m : goal.returns-in_err-m
unfolding number_text request_answer
returns-in_err-m c = meets _ _ _ (grind (arith, common_steps))

pub overflow_cast-track : goal.overflow_cast-track
unfolding number_text is_number
overflow_cast-track c = record { fits = grind (arith, common_steps) }

pub returns : goal.returns
unfolding number_text request_answer make_refusal first_refusal make_answer unless_refused
returns c = meets _ _ _ (grind (arith, common_steps))
