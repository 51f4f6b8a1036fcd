use mathlib.Core.Path.{◌≡◌, ◌∙◌}
use Prim.Native.Nat.{◌<◌}
use native.Mathlib.Numerals.{add-one}
use native.Mathlib.Omega.{arith}
use Rattle.bits.specs.Sums.{from_place}
use Rattle.model.specs.Levels.{received_at, sum_of_levels}
use Rattle.level_theory.proofs.UnitsReceived.{unit_received}
use Rattle.level_theory.proofs.ExactSums.{sum_exact}
use Rattle.levels.proofs.Constants.{zero_literal}
use Rattle.levels.proofs.LevelByLevel.{no_level_yet, one_level_more, bits_room, unerased_room}
use Rattle.levels.proofs.level_chunk.chunk_of_levels.Goals as goal

pub loop-q-init : goal.loop-q-init
unfolding sum_of_levels
loop-q-init c = record { folded = no_level_yet _ _ _ _ c.requires.before_value; summed = zero_literal }

pub with_received-so_far-requires : goal.with_received-so_far-requires
with_received-so_far-requires c =
    let loop = c.loop-q in
    let below : loop.q < 64 = omega arith in
    rw c.worth_of.ensures (bits_room _ _ _ _ loop.invariant.folded below, unerased_room _ _ _ _ loop.invariant.folded below)

pub loop-q-preserved : goal.loop-q-preserved
unfolding sum_of_levels received_at
loop-q-preserved c =
    let loop = c.loop-q in
    let more = rw (c.worth_of.ensures, c.received_level-received.ensures) at c.with_received-so_far.ensures in
    record {
      folded = one_level_more _ _ _ _ loop.invariant.folded _ more;
      summed = rw add-one (rw loop.invariant.summed at more.sum_more);
    }

pub returns-clause-exact : goal.returns-clause-exact
unfolding received_at
returns-clause-exact c units =
    let loop = c.loop-q in
    let all : loop.q ≡ c.args.len = omega arith in
    rw all at loop.invariant.summed
    ∙ sum_exact (from_place c.args.at (received_at c.args.levels.now)) c.args.len (omega arith) (λ q l. unit_received (units q l))
