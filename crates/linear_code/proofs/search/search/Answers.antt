use mathlib.Core.Path.{◌≡◌, ◌∙◌}
use mathlib.Core.Bool.{false}
use Prim.Native.Nat.{◌<◌}
use native.Mathlib.Omega.{arith}
use borrow.Author.Tests.{le-leb, lt-leb}
use lib.ListN.{get_or}
use lib.Pow.{pow_pos}
use Rattle.linear_code.specs.FirstWithin.{rows_within, first_within}
use Rattle.code_theory.proofs.GrayStep.{row_of_twelve}
use Rattle.linear_code.proofs.ChunkSearch.{Counted, one_counted, counted_all, counted_past}
use Rattle.linear_code.proofs.ChunkSearch.{search_starts, search_goes_on, search_found, search_failed, bits_apart}
use Rattle.linear_code.proofs.search.search.Goals.{Left-bits, else-bits-test, then-bits-test+then-limit-differing}
use Rattle.linear_code.proofs.search.search.Goals as goal

pub loop-differing-init : goal.loop-differing-init
loop-differing-init c = search_starts _ _ _ _ _ c.two_to-size.ensures

pub bits-preserved : goal.bits-preserved
bits-preserved c = (omega arith, one_counted _ _ _ c.bits.invariant.1 c.bits-test.true)

-- the two ways out of the loop over bits
counted : (c : Left-bits)
    → Counted c.args.limit c.loop-differing.apart c.bits-test.differing
counted c =
    let all = c.bits.invariant.1 in
    elim c.bits-test.branch [
      | else-bits-test w ↦ rw w.differing-is (counted_all _ _ _ _ all w.bits-test.false)
      | then-bits-test+then-limit-differing w ↦ rw w.differing-is (counted_past _ _ _ _ all w.bits-test.true w.if-limit-differing.true)
    ]

-- where the limit is passed, the codeword is not near
far : (c : Left-bits)
    → let args = c.args in
    args.limit < c.bits-test.differing → rows_within args.k (λ z. get_or args.rows z 0) args.x args.limit c.loop-differing.i ≡ false
far c past =
    lt-leb _ _ (rw (bits_apart c.loop-differing.invariant) at ((counted c).past past))

-- the row that is added is one of the twelve, since a codeword is left where the search goes on
pub bounds-rows-z : goal.bounds-rows-z
bounds-rows-z c = row_of_twelve c.requires.0 c.loop-differing.invariant.at (omega (arith, pow_pos c.args.k))

pub loop-differing-preserved : goal.loop-differing-preserved
loop-differing-preserved c =
    search_goes_on _ _ _ _ _ _ _ c.loop-differing.invariant c.requires.0 (omega (arith, pow_pos c.args.k))
    (far (goal.at.loop-differing-preserved c).Left-bits c.if-differing-limit.false)

pub returns-then-differing-limit : goal.returns-then-differing-limit
unfolding first_within
returns-then-differing-limit c =
    let differing = bits_apart c.loop-differing.invariant in
    let whole = (counted (goal.at.returns-then-differing-limit c).Left-bits).whole c.if-differing-limit.true ∙ differing in
    search_found _ _ _ _ _ _ _ c.loop-differing.invariant _ _ differing (le-leb _ _ (rw whole at c.if-differing-limit.true))

pub returns-then-i-size : goal.returns-then-i-size
unfolding first_within
returns-then-i-size c =
    search_failed _ _ _ _ _ _ _ c.loop-differing.invariant _ (omega arith)
    (far (goal.at.returns-then-i-size c).Left-bits c.if-differing-limit.false)
