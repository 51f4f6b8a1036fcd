-- All that the contracts of both reads say, from what every call's says: the bounds are written out over status and numbers, and a read of
-- levels leaves a strength besides, in floats whose count is looked at too. Assumes nothing.
use mathlib.Core.Path.{◌≡◌, refl, ◌∙◌}
use mathlib.Core.List.{List}
use Prim.Native.Nat.{ℕ}
use lib.Ieee.{Float}
use lib.ListN.{length}
use Rattle.model.specs.ReadWord.{read_answer, read_values}
use Rattle.model.specs.ReadLevels.{levels_answer, position_answer, levels_values, strength_values}
use Rattle.position_theory.specs.ReadPromises.{OffByAtMostTwiceDamaged, OffByAtMostDamagedAndResidual, ReadPromises}
use Rattle.level_theory.specs.LevelPromises.{OffByAtMostTwiceWrongAndErased, LevelPromises}
use Rattle.dunnavish.specs.Crossing.{wrong_count, read_count, strength_count, status_for, left_by, UnchangedUnlessZero}
use Rattle.dunnavish.specs.Decoding.{read_left}
use Rattle.dunnavish.specs.Demands.{ServedWithinTwiceDamaged, ServedWithinDamagedAndResidual, ServedWithinTwiceWrongAndErased}
use Rattle.dunnavish.proofs.Lent.{status_lent, unchanged_by}
use Rattle.dunnavish.proofs.Inherited.{Contract}
use Rattle.dunnavish.proofs.NearAnswers.{bounded_left, sharper_left, levels_bounded_left}
use Rattle.std.specs.Prelude.{Ok, Err}
use Rattle.model.specs.ReadWord.{ReadAnswer}
use Rattle.model.specs.Refusals.{Refused, status_of}
use Rattle.model.specs.ReadLevels.{LevelsAnswer}

-- what the library's contracts promise of a reading
abbrev pub PromisedOfRead : (card received : List ℕ) → ReadAnswer → Type 0
PromisedOfRead card received answer =
    OffByAtMostTwiceDamaged card received answer × (OffByAtMostDamagedAndResidual card received answer × ReadPromises card received answer)

abbrev pub PromisedOfLevels : (card : List ℕ) (levels : List Float) → ReadAnswer → Type 0
PromisedOfLevels card levels answer = OffByAtMostTwiceWrongAndErased card levels answer × LevelPromises card levels answer

pub read_crosses : (card received lent : List ℕ) (status : ℕ) (left : List ℕ)
    → Contract status_of read_values Refused read_left (PromisedOfRead card received) read_count lent (read_answer card received) status left
    → (status ≡ status_for read_count lent (status_of (read_answer card received)))
    × ((left ≡ left_by status (read_values (read_answer card received)) lent)
    × (UnchangedUnlessZero lent status left
    × (ServedWithinTwiceDamaged card received lent status left
    × (ServedWithinDamagedAndResidual card received lent status left
    × (length lent ≡ read_count → ReadPromises card received (read_left status left))))))
read_crosses card received lent status left (is-status, (is-left, (unchanged, promised))) =
    let bounded = bounded_left card received lent status left (λ alike. (promised alike).0) in
    let sharper = sharper_left card received lent status left (λ alike. (promised alike).1.0) in
    (is-status, (is-left, (unchanged, (bounded, (sharper, λ alike. (promised alike).1.1)))))

-- the status of levels that are read is that of the position answer
pub same_status : (answer : LevelsAnswer) → status_of (position_answer answer) ≡ status_of answer
unfolding position_answer status_of
same_status (Ok served) = refl
same_status (Err refusal) = refl

module _ (card : List ℕ) (levels : List Float) (lent : List ℕ) (lent_strength : List Float) where
  abbrev answered : LevelsAnswer
  answered = levels_answer card levels

  abbrev LevelsContract : (status : ℕ) (left : List ℕ) (strength_left : List Float) → Type 0
  LevelsContract status left strength_left =
      (status ≡ status_for read_count lent (status_for strength_count lent_strength (status_of answered)))
      × ((left ≡ left_by status (levels_values answered) lent)
      × ((strength_left ≡ left_by status (strength_values answered) lent_strength)
      × (UnchangedUnlessZero lent status left
      × (UnchangedUnlessZero lent_strength status strength_left
      × (ServedWithinTwiceWrongAndErased card levels lent lent_strength status left
      × (length lent ≡ read_count → length lent_strength ≡ strength_count → LevelPromises card levels (read_left status left)))))))

  levels_inherit : (status : ℕ) (left : List ℕ) (strength_left : List Float)
      → status ≡ status_for read_count lent (status_for strength_count lent_strength (status_of answered))
      → left ≡ left_by status (levels_values answered) lent → strength_left ≡ left_by status (strength_values answered) lent_strength
      → (length lent ≡ read_count → length lent_strength ≡ strength_count → PromisedOfLevels card levels (read_left status left))
      → LevelsContract status left strength_left
  levels_inherit status left strength_left is-status is-left is-strength promised =
      let bounded = levels_bounded_left card levels lent lent_strength status left (λ five two. (promised five two).0) in
      let unchanged = unchanged_by status _ lent left is-left in
      let strength_unchanged = unchanged_by status _ lent_strength strength_left is-strength in
      (is-status, (is-left, (is-strength, (unchanged, (strength_unchanged, (bounded, λ five two. (promised five two).1))))))

  -- either count is wrong
  pub levels_miscounted : wrong_count ≡ status_for read_count lent (status_for strength_count lent_strength (status_of answered))
      → (length lent ≡ read_count → length lent_strength ≡ strength_count → ⊥) → LevelsContract wrong_count lent lent_strength
  unfolding left_by
  levels_miscounted is other_length = levels_inherit wrong_count lent lent_strength is refl refl (λ five two. absurd (other_length five two))

  -- two floats are lent
  pub levels_cross : (status : ℕ) (left : List ℕ) (strength_left : List Float) → length lent_strength ≡ strength_count
      → Contract status_of read_values Refused read_left (PromisedOfLevels card levels) read_count lent (position_answer answered) status left
      → strength_left ≡ left_by status (strength_values answered) lent_strength → LevelsContract status left strength_left
  levels_cross status left strength_left two (is-status, (is-left, (_, promised))) is-strength =
      levels_inherit status left strength_left (is-status ∙ rw (status_lent strength_count lent_strength two, same_status answered)) is-left is-strength
      (λ five _. promised five)
