use Prim.Native.Nat.{◌+◌, ◌*◌, ◌≤◌, ◌<◌}
use mathlib.Core.Path.{◌≡◌, refl, ◌∙◌}
use native.Mathlib.Omega.{arith}
use lib.ListN.{length-take}
use Rattle.std.proofs.lemmas.List.{get_or-take}
use Rattle.bits.specs.Sums.{sum_below}
use Rattle.bits.proofs.Sums.{sum_more}
use Rattle.model.specs.Card.{byte}
use Rattle.card_fields.proofs.BytesRead.{share_most}
use Rattle.card_fields.proofs.checksum.weighted_sum.Goals.{After-from}
use Rattle.card_fields.proofs.checksum.weighted_sum.Goals as goal

pub loop-p-init : goal.loop-p-init
unfolding sum_below
loop-p-init c = (refl, omega arith)

-- the loop stands before the end
before : (c : After-from) → c.loop-p.p < c.args.end
before c = omega (arith, c.loop-p-test.true, length-take c.args.end c.args.card.now)

-- the byte of this turn
this : (c : After-from) → c.from.result ≡ byte c.args.card.now c.loop-p.p
this c = c.from.ensures ∙ get_or-take c.args.end c.args.card.now c.loop-p.p 0 (before c)

-- what this turn adds
added : (c : After-from) → (c.loop-p.p + 1) * c.from.result ≤ 130050
added c =
    let small : byte c.args.card.now c.loop-p.p < 256 = omega (arith, c.type_inv.card c.loop-p.p) in
    share_most c.loop-p.p c.from.result (omega (arith, before c)) (rw (this c) small)

pub loop-p-preserved : goal.loop-p-preserved
loop-p-preserved c =
    let loop = c.loop-p in (rw (sum_more, ← loop.invariant.0, this c), omega (arith, added c))
