-- An answer near a position is one whose status is 0 and whose position, among the numbers left, is as near; so the bounds of both kinds of
-- read, said of the answer that status and numbers stand for, are those written out over status and numbers. Assumes nothing.
use mathlib.Core.Path.{◌≡◌, refl}
use mathlib.Core.List.{List}
use Prim.Native.Nat.{ℕ, zero, suc, ◌+◌}
use native.Mathlib.Omega.{arith}
use lib.Ieee.{Float}
use lib.ListN.{length}
use Rattle.model.specs.Refusals.{unless_refused}
use Rattle.code_theory.proofs.RefusalRows.{refused_if_some}
use Rattle.position_theory.specs.Damage.{Near, residual_of}
use Rattle.position_theory.specs.ReadPromises.{OffByAtMostTwiceDamaged, OffByAtMostDamagedAndResidual}
use Rattle.level_theory.specs.LevelPromises.{OffByAtMostTwiceWrongAndErased}
use Rattle.dunnavish.specs.Crossing.{read_count, strength_count}
use Rattle.dunnavish.specs.Decoding.{residual_left, read_left}
use Rattle.dunnavish.specs.Demands.{ServedNear, ServedWithinTwiceDamaged, ServedWithinDamagedAndResidual}
use Rattle.dunnavish.specs.Demands.{ServedWithinTwiceWrongAndErased}
use Rattle.model.specs.Refusals.{Refused}

refused_left : (status : ℕ) (left : List ℕ) → read_left (suc status) left ≡ Refused (suc status)
unfolding read_left
refused_left status left = refused_if_some (suc status) Refused _ (λ zero. omega arith)

near_left : (status : ℕ) (left : List ℕ) (position e : ℕ) → Near (read_left status left) position e → ServedNear status left position e
unfolding read_left unless_refused Near ServedNear
near_left zero left position e (low, high) = (refl, low, high)
near_left (suc status) left position e near = absurd (rw (refused_left status left) at near)

near_with_residual : (status : ℕ) (left : List ℕ) (position e : ℕ)
    → Near (read_left status left) position (e + residual_of (read_left status left))
    → ServedNear status left position (e + residual_left left)
unfolding read_left unless_refused Near ServedNear residual_of
near_with_residual zero left position e (low, high) = (refl, low, high)
near_with_residual (suc status) left position e near = absurd (rw (refused_left status left) at near)

module _ (card received lent : List ℕ) (status : ℕ) (left : List ℕ) where
  pub bounded_left : (length lent ≡ read_count → OffByAtMostTwiceDamaged card received (read_left status left))
      → ServedWithinTwiceDamaged card received lent status left
  unfolding OffByAtMostTwiceDamaged ServedWithinTwiceDamaged
  bounded_left bounded alike position sound on_track within =
      near_left status left position _ (bounded alike position sound on_track within)

  pub sharper_left : (length lent ≡ read_count → OffByAtMostDamagedAndResidual card received (read_left status left))
      → ServedWithinDamagedAndResidual card received lent status left
  unfolding OffByAtMostDamagedAndResidual ServedWithinDamagedAndResidual
  sharper_left sharper alike position sound on_track within =
      near_with_residual status left position _ (sharper alike position sound on_track within)

pub levels_bounded_left : (card : List ℕ) (levels : List Float) (lent : List ℕ) (lent_strength : List Float) (status : ℕ) (left : List ℕ)
    → (length lent ≡ read_count → length lent_strength ≡ strength_count → OffByAtMostTwiceWrongAndErased card levels (read_left status left))
    → ServedWithinTwiceWrongAndErased card levels lent lent_strength status left
unfolding OffByAtMostTwiceWrongAndErased ServedWithinTwiceWrongAndErased
levels_bounded_left card levels lent lent_strength status left bounded five two position sound on_track whole units below =
    near_left status left position _ (bounded five two position sound on_track whole units below)
