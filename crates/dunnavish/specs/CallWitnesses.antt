-- The promises to C, held from below. A promise that is written out over status and numbers gives the library's own promise of the answer
-- that these stand for, of every card and word. So a premise that nobody can meet, or a looser bound, no longer gives its field here. Every
-- other promise is the library's own of that answer, held by the rows of the theory crates. Which answer it is, is held by
-- specs/LosslessDecoding.antt. Assumes nothing.
use Rattle.std.specs.Prelude.{◌≡◌, true, List, ℕ, Float, length}
use Rattle.model.specs.ReedMuller.{order_within_limits}
use Rattle.position_theory.specs.ReadPromises.{OffByAtMostTwiceDamaged, OffByAtMostDamagedAndResidual}
use Rattle.level_theory.specs.LevelPromises.{OffByAtMostTwiceWrongAndErased}
use Rattle.reed_muller_theory.specs.MadeCards.{IsReedMullerCard}
use Rattle.dunnavish.specs.Crossing.{card_bytes, read_count, strength_count, UnchangedUnlessZero}
use Rattle.dunnavish.specs.Decoding.{read_left}
use Rattle.dunnavish.specs.Demands.{ServedWithinTwiceDamaged, ServedWithinDamagedAndResidual, ServedWithinTwiceWrongAndErased}
use Rattle.dunnavish.specs.Demands.{MadeWithinLimits}

-- of a plain word, where the right count is lent
pub record ReadHeld (card received lent : List ℕ) (status : ℕ) (left : List ℕ) : Type 0 where
  pub bounded : ServedWithinTwiceDamaged card received lent status left → OffByAtMostTwiceDamaged card received (read_left status left)
  pub sharper : ServedWithinDamagedAndResidual card received lent status left
      → OffByAtMostDamagedAndResidual card received (read_left status left)
  pub unchanged : (status ≡ 0 → ⊥) → UnchangedUnlessZero lent status left → left ≡ lent

pub record HeldForC : Type 0 where
  pub read : (card received lent : List ℕ) (status : ℕ) (left : List ℕ) → length lent ≡ read_count → ReadHeld card received lent status left
  pub levels : (card : List ℕ) (levels : List Float) (lent : List ℕ) (lent_strength : List Float) (status : ℕ) (left : List ℕ)
      → length lent ≡ read_count → length lent_strength ≡ strength_count
      → ServedWithinTwiceWrongAndErased card levels lent lent_strength status left
      → OffByAtMostTwiceWrongAndErased card levels (read_left status left)
  pub made : (track r m : ℕ) (lent : List ℕ) (status : ℕ) (left : List ℕ) → length lent ≡ card_bytes → order_within_limits r m ≡ true
      → MadeWithinLimits track r m lent status left → (status ≡ 0) × IsReedMullerCard track r m left
