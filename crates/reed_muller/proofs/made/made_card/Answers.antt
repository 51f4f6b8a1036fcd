-- `made_card` meets its contract: its fields are those of the code's card. Assumes nothing.
use Prim.Native.Nat.{◌≤◌}
use native.Mathlib.Omega.{arith}
use lib.Pow.{pow_mono}
use Rattle.model.specs.ReedMuller.{count_of_sets, reed_muller_card}
use Rattle.reed_muller_theory.proofs.OrderLimits.{order_limits_of_test}
use Rattle.reed_muller.proofs.made.made_card.Goals.{Start}
use Rattle.reed_muller.proofs.made.made_card.Goals as goal

-- what the limits say of m and k
limits : (c : Start) → (c.args.m ≤ 6) × (count_of_sets c.args.r c.args.m ≤ 12)
limits c = let (_, six, _, twelve) = order_limits_of_test c.args.r c.args.m c.requires in (six, twelve)

pub two_to-requires : goal.two_to-requires
two_to-requires c = omega (arith, (limits (goal.at.two_to-requires c).Start).0)

pub write_card-requires : goal.write_card-requires
write_card-requires c = (
  omega (arith, c.two_to.ensures, pow_mono {i = c.args.m} {j = 6} (limits (goal.at.write_card-requires c).Start).0),
  omega (arith, c.product_rows-count.ensures.0, (limits (goal.at.write_card-requires c).Start).1),
)

pub returns : goal.returns
unfolding reed_muller_card
returns c =
    let made = c.product_rows-count in
    rw (c.write_card.ensures, c.two_to.ensures, made.ensures.0, made.ensures.1)
