-- `position::places::bits_at` meets its contract. The loop goes through the bytes behind the one that has the first place. It keeps that
-- the bits of `value` are the places from `at` on that stand before byte j; the last byte may have more than n asks for, and what is too
-- much is cut off at the end. Assumes nothing.
use Prim.Native.Nat.{◌-◌, ◌*◌}
use Rattle.bits.specs.Sums.{from_place}
use Rattle.bits.specs.Places.{place}
use Rattle.position.proofs.GatheredBits.{Gathered}
use Rattle.position.proofs.places.bits_at.Given as goal

abbrev pub invariant-loop-j : goal.invariant-loop-j
invariant-loop-j l = Gathered (from_place l.at (place l.w)) (8 * l.j - l.at) l.value
