-- Demand 2, reading: the answer is the position nearest to the word among those that the rules allow, or the refusal. Said once of any
-- kind of track, by its rules and its last position, of whatever is seen of a word and of any residual; then of a plain word on a track
-- with two ends. Assumes nothing.
use Rattle.std.specs.Prelude.{◌≡◌, ℕ, ◌≤◌, ◌<◌}
use Rattle.model.specs.Refusals.{first_refusal}
use Rattle.model.specs.Card.{Code}
use Rattle.model.specs.Order.{last_position}
use Rattle.model.specs.Reading.{Seen, seen, rule_seen, Range, Rules, two_ends, rows_seen, range_seen, residual}
use Rattle.model.specs.ReadWord.{ReadAnswer}
use Rattle.std.specs.Prelude.{Ok, Err}

-- the refusal by rows 9 to 12 and 17 of what is seen, 0 where none of them holds; and the positions that its rule allows
abbrev pub refusal_of : Rules → Seen → ℕ
refusal_of R s = first_refusal (rows_seen R s (rule_seen s))

abbrev pub allowed_by : Rules → Seen → Range
allowed_by R s = range_seen R s (rule_seen s)

-- None of these rows holds, and `rule` is the rule named. The position q is allowed by it and on the track, no allowed one is nearer, and
-- no smaller one is as near. e is the residual of q.
pub record NearestOf (R : Rules) (last : ℕ) (s : Seen) (residual_at : ℕ → ℕ) (q e rule : ℕ) : Type 0 where
  pub none_refuses : refusal_of R s ≡ 0
  pub by_rule : rule ≡ rule_seen s
  pub from_low : (allowed_by R s).low ≤ q
  pub to_high : q ≤ (allowed_by R s).high
  pub on_track : q ≤ last
  pub counted : e ≡ residual_at q
  pub none_nearer : (q' : ℕ) → (allowed_by R s).low ≤ q' → q' ≤ (allowed_by R s).high → e ≤ residual_at q'
  pub none_smaller : (q' : ℕ) → (allowed_by R s).low ≤ q' → q' < q → e < residual_at q'

-- an answer that is the nearest allowed position, or a refusal by the first row that holds
unfoldable pub IsReadingOf : Rules → (last : ℕ) → Seen → (residual_at : ℕ → ℕ) → ReadAnswer → Type 0
IsReadingOf R last s residual_at (Ok r) = NearestOf R last s residual_at r.position r.residual r.rule
IsReadingOf R last s residual_at (Err refusal) = (refusal_of R s ≡ refusal.number) × (refusal.number ≡ 0 → ⊥)

-- the same of a plain word, on a track with two ends
abbrev pub IsReading : Code → (ℕ → ℕ) → ReadAnswer → Type 0
IsReading C x = IsReadingOf (two_ends C) (last_position C) (seen C x) (residual C x)
