-- What is written out over status and numbers says the same of the answer that they stand for: a status of 0 is that of a word that is
-- read. Assumes nothing.
use mathlib.Core.List.{List}
use Prim.Native.Nat.{ℕ, zero, suc, ◌+◌}
use native.Mathlib.Omega.{arith}
use Rattle.model.specs.Refusals.{unless_refused}
use Rattle.position_theory.specs.Damage.{Near, residual_of}
use Rattle.position_theory.specs.ReadPromises.{OffByAtMostTwiceDamaged, OffByAtMostDamagedAndResidual}
use Rattle.level_theory.specs.LevelPromises.{OffByAtMostTwiceWrongAndErased}
use Rattle.dunnavish.specs.Crossing.{UnchangedUnlessZero}
use Rattle.dunnavish.specs.Decoding.{residual_left, read_left}
use Rattle.dunnavish.specs.Demands.{ServedNear, ServedWithinTwiceDamaged, ServedWithinDamagedAndResidual}
use Rattle.dunnavish.specs.Demands.{ServedWithinTwiceWrongAndErased}
use Rattle.dunnavish.specs.Demands.{MadeWithinLimits}
use Rattle.dunnavish.specs.CallWitnesses.{HeldForC}

near_of : (status : ℕ) (left : List ℕ) (position e : ℕ) → ServedNear status left position e → Near (read_left status left) position e
unfolding ServedNear read_left unless_refused Near
near_of zero left position e (served, low, high) = (low, high)
near_of (suc status) left position e (served, low, high) = absurd (omega arith)

near_with_residual_of : (status : ℕ) (left : List ℕ) (position e : ℕ) → ServedNear status left position (e + residual_left left)
    → Near (read_left status left) position (e + residual_of (read_left status left))
unfolding ServedNear read_left unless_refused Near residual_of
near_with_residual_of zero left position e (served, low, high) = (low, high)
near_with_residual_of (suc status) left position e (served, low, high) = absurd (omega arith)

pub held_for_c : HeldForC
unfolding ServedWithinTwiceDamaged OffByAtMostTwiceDamaged ServedWithinDamagedAndResidual OffByAtMostDamagedAndResidual
    ServedWithinTwiceWrongAndErased OffByAtMostTwiceWrongAndErased UnchangedUnlessZero MadeWithinLimits
held_for_c =
    record {
      read = λ card received lent status left five.
          record {
            bounded = λ promise position sound on_track within.
                near_of status left position _ (promise five position sound on_track within);
            sharper = λ promise position sound on_track within.
                near_with_residual_of status left position _ (promise five position sound on_track within);
            unchanged = λ not_served promise. promise not_served;
          };
      levels = λ card levels lent lent_strength status left five two promise position sound on_track whole units below.
          near_of status left position _ (promise five two position sound on_track whole units below);
      made = λ track r m lent status left size within promise. promise size within;
    }
