-- `depot::codes::vote_chunk` meets its contract: one law for each way out, outside the limits, a chunk that is too wide, and the two
-- ends of the vote. Assumes nothing.
use mathlib.Core.Path.{◌≡◌, sym, ap, ◌∙◌}
use mathlib.Core.Bool.{true}
use Prim.Native.Nat.{◌^◌, ◌<◌}
use Rattle.std.specs.Option.{ok_or}
use Rattle.model.specs.Reading.{Chunk}
use Rattle.model.specs.ReedMuller.{order_within_limits}
use Rattle.reed_muller_theory.proofs.OrderLimits.{order_limits_of_test}
use Rattle.depot.proofs.VoteContract.{vote_outside, vote_too_wide, narrow_enough, voted, vote_answered}
use Rattle.depot.proofs.codes.vote_chunk.Goals.{Else-all_positions-chunk, Else-not-order_within_limits}
use Rattle.depot.proofs.codes.vote_chunk.Goals as goal

pub returns-then-not-order_within_limits : goal.returns-then-not-order_within_limits
returns-then-not-order_within_limits c =
    vote_answered _ _ _ (vote_outside _ _ _ (sym c.order_within_limits.ensures ∙ c.if-not-order_within_limits.true))

-- past the limits
within : (c : Else-not-order_within_limits) → order_within_limits c.args.r c.args.m ≡ true
within c = sym c.order_within_limits.ensures ∙ c.if-not-order_within_limits.false

pub all_positions-requires : goal.all_positions-requires
all_positions-requires c = (order_limits_of_test _ _ (within c)).1

pub returns-then-all_positions-chunk : goal.returns-then-all_positions-chunk
returns-then-all_positions-chunk c =
    vote_answered _ _ _
    (vote_too_wide _ _ _ (within (goal.at.returns-then-all_positions-chunk c).Else-not-order_within_limits) _ c.all_positions.ensures
    c.if-all_positions-chunk.true)

-- a chunk of n bits
narrow : (c : Else-all_positions-chunk) → c.args.chunk < 2 ^ 2 ^ c.args.m
narrow c = narrow_enough c.args.r _ _ _ c.all_positions.ensures c.if-all_positions-chunk.false

pub vote-requires : goal.vote-requires
vote-requires c = (within (goal.at.vote-requires c).Else-not-order_within_limits, narrow c)

pub returns : goal.returns
returns c =
    let at = goal.at.returns c in
    vote_answered _ _ _
    (c.ok_or.ensures.value
    ∙ ap (λ (read : Chunk). ok_or read (record { number = 10 })) c.vote.ensures
    ∙ voted _ _ _ (within at.Else-not-order_within_limits) (narrow at.Else-all_positions-chunk))
