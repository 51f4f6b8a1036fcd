-- `dunnavish::codes::dunnavish_vote_chunk` meets its contract: the count of the lent numbers, then the library's answer. Assumes nothing.
use mathlib.Core.Path.{refl}
use Rattle.model.specs.VoteChunk.{vote_values, vote_expected}
use Rattle.model.specs.Refusals.{Refused, status_of, values_by}
use Rattle.reed_muller_theory.specs.Votes.{VotePromises}
use Rattle.dunnavish.specs.Decoding.{vote_left}
use Rattle.dunnavish.proofs.Inherited.{wrong_count_lem, refused, stored}
use Rattle.dunnavish.proofs.codes.dunnavish_vote_chunk.Goals as goal

pub returns-then-values-ne2 : goal.returns-then-values-ne2
returns-then-values-ne2 c =
    let all = wrong_count_lem status_of vote_values Refused vote_left (VotePromises _ _ _) _ _ c.if-values-ne2.true in
    record { status = all.0; left = all.1.0; unchanged = all.1.1.0; promises = all.1.1.1 }

pub returns-in-Err : goal.returns-in-Err
unfolding status_of values_by vote_expected vote_left
returns-in-Err c =
    let met = c.vote_chunk.ensures in
    let all = refused status_of vote_values Refused vote_left (VotePromises _ _ _) _ _ c.if-values-ne2.false _ (
      met.answer,
      (
        met.status,
        (met.values, met.promises),
      ),
    ) refl _
    c.in-Err.is refl refl _ refl in
    record { status = all.0; left = all.1.0; unchanged = all.1.1.0; promises = all.1.1.1 }

pub returns-in-Ok : goal.returns-in-Ok
unfolding status_of values_by vote_left
returns-in-Ok c =
    let met = c.vote_chunk.ensures in
    let all = stored status_of vote_values Refused vote_left (VotePromises _ _ _) _ _ c.if-values-ne2.false _ (
      met.answer,
      (
        met.status,
        (met.values, met.promises),
      ),
    ) _
    c.in-Ok.is refl refl refl in
    record { status = all.0; left = all.1.0; unchanged = all.1.1.0; promises = all.1.1.1 }
