use mathlib.Core.Path.{◌≡◌, ◌∙◌}
use Prim.Native.Nat.{◌+◌, ◌-◌, ◌^◌, ◌≤◌}
use native.Mathlib.Omega.{arith}
use lib.ListN.{length, take, get_or, length-take}
use lib.Pow.{pow_mono}
use Rattle.std.proofs.lemmas.List.{get_or-take, take_rest}
use Rattle.card_reader.proofs.LowSums.{Table}
use Rattle.card_reader.proofs.LeastWeightLoop.{row_behind, at_start, at_next, at_end}
use Rattle.card_reader.proofs.least_weight.least_weight.Goals.{After-two_to}
use Rattle.card_reader.proofs.least_weight.least_weight.Goals as goal

-- the table has room for the sums of the low rows
room : (c : After-two_to) → c.two_to.result ≤ length c.low_sums-table.result
room c = omega (arith, pow_mono {i = c.low_rows-low.result} {j = 5} c.low_rows-low.ensures.0)

-- its first part is they, and no more
whole : (c : After-two_to) → length (take c.two_to.result c.low_sums-table.result) ≡ 2 ^ c.low_rows-low.result
whole c = omega (arith, room c, c.two_to.ensures, length-take c.two_to.result c.low_sums-table.result)

sums : (c : After-two_to) → Table c.low_rows-low.result (λ z. get_or c.args.rows z 0) (take c.two_to.result c.low_sums-table.result)
sums c = λ j l. get_or-take c.two_to.result c.low_sums-table.result j 0 (omega (arith, c.two_to.ensures)) ∙ c.low_sums-table.ensures j l

pub slice_bounds-table-end : goal.slice_bounds-table-end
slice_bounds-table-end c = room (goal.at.slice_bounds-table-end c).After-two_to

pub slice_bounds-sums-end : goal.slice_bounds-sums-end
slice_bounds-sums-end c =
    let before = (goal.at.slice_bounds-sums-end c).After-two_to in omega (arith, whole before, c.two_to.ensures)

pub loop-set-init : goal.loop-set-init
loop-set-init c =
    let before = (goal.at.loop-set-init c).After-two_to in
    at_start (take c.two_to.result c.low_sums-table.result) (whole before) (sums before)
    (rw (take_rest (take c.two_to.result c.low_sums-table.result) 1) at c.least_of-least.ensures)

-- the number of the row that is added
pub bounds-rows-z : goal.bounds-rows-z
bounds-rows-z c = row_behind (omega arith) c.loop-set.invariant (omega arith) (omega arith)

pub loop-set-preserved : goal.loop-set-preserved
loop-set-preserved c =
    let before = (goal.at.loop-set-preserved c).After-two_to in
    let set = c.loop-set.set in
    let here : set + 1 - 1 ≡ set = omega arith in
    rw here
    (at_next (omega arith) (take c.two_to.result c.low_sums-table.result) (whole before) (sums before)
    c.loop-set.invariant (omega arith) (omega arith) c.least_of-least-in-loop-set.ensures)

pub returns : goal.returns
returns c = λ narrow. c.from.ensures ∙ at_end {k = c.args.k} (omega arith) c.loop-set.invariant (omega arith) narrow
