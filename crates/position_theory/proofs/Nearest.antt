-- The reading of whatever is seen of a word is the nearest allowed position, or the refusal by the first row of the table that holds. Where
-- it allows the true position, the answer is off by at most the true position's residual, its own and the erased places together, since
-- allowed positions form an isometric range. Assumes nothing.
use mathlib.Core.Path.{◌≡◌, refl}
use mathlib.Core.Logic.{⊎_elim}
use Prim.Native.Nat.{ℕ, ◌+◌, ◌≤◌}
use native.Mathlib.Omega.{arith}
use Rattle.bits.proofs.Numbers.{eq_or_ne}
use Rattle.model.specs.Card.{Code}
use Rattle.model.specs.Order.{last_position}
use Rattle.model.specs.Words.{word_bits, word_at}
use Rattle.model.specs.Reading.{Seen, rule_seen, Rules, two_ends, nearest_in, nearest_reading}
use Rattle.code_theory.specs.Promise.{ChunkPromise}
use Rattle.code_theory.proofs.RefusalRows.{served_if_none, refused_if_some}
use Rattle.position_theory.specs.Damage.{Near, residual_of}
use Rattle.position_theory.specs.Nearest.{refusal_of, allowed_by, NearestOf, IsReadingOf}
use Rattle.position_theory.proofs.WordBytes.{reading_of_seen}
use Rattle.position_theory.proofs.Ranges.{IsometricRange, WithinResiduals, nearest_in_lem, answer_off_by}
use Rattle.position_theory.proofs.RuleReads.{BothRead, InCode}
use Rattle.position_theory.proofs.Allowed.{allowed_isometric}
use Rattle.position_theory.proofs.TrueAllowed.{Allows}

-- on any track of which all that is allowed is an isometric range of its positions
module _ (R : Rules) (d : ℕ) (words : ℕ → ℕ → ℕ) (last : ℕ) (s : Seen)
    (track : refusal_of R s ≡ 0 → IsometricRange d words last (allowed_by R s)) (residual : ℕ → ℕ) where
  -- what the search for the least residual finds is the nearest allowed position
  nearest_is : refusal_of R s ≡ 0
      → let q = nearest_in residual (allowed_by R s) in NearestOf R last s residual q (residual q) (rule_seen s)
  nearest_is none =
      let range = track none in
      let least = nearest_in_lem residual (allowed_by R s) range.some in
      record {
        none_refuses = none;
        by_rule = refl;
        from_low = least.from_low;
        to_high = least.to_high;
        on_track = omega (arith, least.to_high, range.on_track);
        counted = refl;
        none_nearer = least.none_nearer;
        none_smaller = least.none_smaller;
      }

  -- demand 2, reading: for every word
  pub reading_is_nearest : IsReadingOf R last s residual (reading_of_seen R s residual)
  unfolding reading_of_seen nearest_reading IsReadingOf
  reading_is_nearest =
      ⊎_elim (λ (none : refusal_of R s ≡ 0). rw (served_if_none _ _ _ none) (nearest_is none))
      (λ (some : refusal_of R s ≡ 0 → ⊥). rw (refused_if_some _ _ _ some) (refl, some))
      (eq_or_ne (refusal_of R s) 0)

  -- the answer to a word that allows a position is as near to that position as the residuals and the erased places say
  pub answer_near : (erased : ℕ) → WithinResiduals d words residual erased → (position : ℕ) → Allows R s position
      → let answer = reading_of_seen R s residual in
      Near answer position (residual position + residual_of answer + erased) × (residual_of answer ≤ residual position)
  unfolding reading_of_seen
  answer_near erased within position a =
      rw (served_if_none _ _ _ a.none_refuses)
      (answer_off_by d words residual erased within s (rule_seen s) (allowed_by R s)
      (track a.none_refuses).isometric position a.from_low a.to_high)

-- on a track with two ends
pub two_ends_nearest : (C : Code) → ChunkPromise C → (s : Seen) → BothRead (InCode C) s → (residual : ℕ → ℕ)
    → IsReadingOf (two_ends C) (last_position C) s residual (reading_of_seen (two_ends C) s residual)
two_ends_nearest C promise s kinds =
    reading_is_nearest (two_ends C) (word_bits C) (word_at C) (last_position C) s (allowed_isometric C promise s kinds)
