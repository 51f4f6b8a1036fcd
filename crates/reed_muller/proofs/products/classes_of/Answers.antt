use mathlib.Core.Path.{◌≡◌}
use Prim.Native.Nat.{ℕ, ◌-◌, ◌*◌, ◌%◌, ◌^◌, ◌<◌}
use native.Mathlib.Omega.{arith}
use lib.Bits.{bit_and, bit_xor}
use lib.Count.{count_trailing_zeros}
use lib.ListN.{get_or}
use Rattle.reed_muller.proofs.ClassesTaken.{Taken, none_taken, others_less, lowest_below, next_taken, all_summed, product_taken}
use Rattle.reed_muller.proofs.products.classes_of.Goals.{At-loop-rest}
use Rattle.reed_muller.proofs.products.classes_of.Goals as goal

pub loop-rest-init : goal.loop-rest-init
loop-rest-init c = (c.requires.0, c.requires.1, none_taken _ _ _)

module _ (c : At-loop-rest) where
  some : c.loop-rest.rest ≡ 0 → ⊥
  some none = omega (arith, c.loop-rest.invariant.0)

  -- the number of the variable that is taken
  v_below : count_trailing_zeros 32 c.loop-rest.rest < 6
  v_below = lowest_below c.loop-rest.rest some c.loop-rest.invariant.1

  -- and what is then left of the set
  abbrev others : ℕ
  others = bit_and c.loop-rest.rest (c.loop-rest.rest - 1)

  less : others < c.loop-rest.rest
  less = others_less c.loop-rest.rest some

  next : Taken c.args.y c.args.set c.args.positions
      (bit_xor c.loop-rest.sums (c.loop-rest.sums * 2 ^ (c.loop-rest.rest - others) % 2 ^ 64))
      (bit_and c.loop-rest.row (get_or c.args.variables.now (count_trailing_zeros 32 c.loop-rest.rest) 0)) others
  next = next_taken c.loop-rest.rest some c.loop-rest.invariant.1 _ c.requires.2 _ _ _ _ _ c.loop-rest.invariant.2

pub bounds-variables-v : goal.bounds-variables-v
bounds-variables-v c = v_below (goal.at.bounds-variables-v c).At-loop-rest

pub loop-rest-preserved : goal.loop-rest-preserved
loop-rest-preserved c =
    let at = (goal.at.loop-rest-preserved c).At-loop-rest in
    (omega (arith, c.if-rest-eq0.false), omega (arith, c.loop-rest.invariant.1, less at), next at)

pub returns : goal.returns
returns c =
    let at = (goal.at.returns c).At-loop-rest in
    record {
      sums = all_summed _ _ _ _ _ _ (next at) c.if-rest-eq0.true;
      row = product_taken _ _ _ _ _ _ (next at) c.if-rest-eq0.true;
    }
