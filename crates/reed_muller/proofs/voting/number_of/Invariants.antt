-- `number_of` meets its contract. The loop's invariant: the Gray number of the number so far is the exclusive-or of `rows` and `rest`,
-- which is still to be added. A turn adds it and halves it. Assumes nothing.
use mathlib.Core.Path.{◌≡◌}
use Prim.Native.Nat.{ℕ, ◌^◌, ◌<◌}
use lib.Bits.{bit_xor}
use Rattle.model.specs.Order.{gray}
use Rattle.reed_muller.proofs.voting.number_of.Given as goal

abbrev pub invariant-loop-rest : goal.invariant-loop-rest
invariant-loop-rest l =
    (gray l.number ≡ bit_xor l.rows l.rest) × ((k : ℕ) → l.rows < 2 ^ k → l.number < 2 ^ k) × ((k : ℕ) → l.rows < 2 ^ k → l.rest < 2 ^ k)

abbrev pub decreases-loop-rest : goal.decreases-loop-rest
decreases-loop-rest l = l.rest
