-- `trams::widening::margin_of` meets its contract: D is at most n, so at most 64, and the radius at most 31. Assumes nothing.
use Prim.Native.Nat.{◌≤◌}
use native.Mathlib.Omega.{arith}
use Rattle.code_theory.proofs.LeastDistance.{D-high}
use Rattle.trams.proofs.widening.margin_of.Goals.{After-radius_of}
use Rattle.trams.proofs.widening.margin_of.Goals as goal

radius_bound : (c : After-radius_of) → c.radius_of.result ≤ 31
radius_bound c = omega (arith, c.radius_of.ensures, D-high _ c.args.code.sound, c.args.code.sound.n_high)

pub overflow_mul-result : goal.overflow_mul-result
overflow_mul-result c = omega (arith, radius_bound c)

pub returns : goal.returns
returns c = (rw c.radius_of.ensures, omega (arith, radius_bound c))
