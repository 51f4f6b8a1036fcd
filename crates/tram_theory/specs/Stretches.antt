-- Stretches of a track: what lies in them, the stretches of trams that are not refused, and the true positions that the ends of a stretch
-- were read from. Assumes nothing.
use Rattle.std.specs.Prelude.{List, ◌⊎◌, ℕ, ◌≤◌, ◌<◌, length}
use Rattle.model.specs.Card.{code_of, SoundCard}
use Rattle.model.specs.Order.{last_position}
use Rattle.model.specs.Trams.{most_trams, stretch_at, margin, widened, Trams}
use Rattle.model.specs.declared.Stretch.{Stretch}
use Rattle.position_theory.specs.Margin.{ReadFrom}

-- a position lies in a stretch; and a stretch lies within two marks
abbrev pub Holds : Stretch → (position : ℕ) → Type 0
Holds s position = (s.low ≤ position) × (position ≤ s.high)

abbrev pub WithinMarks : (first second : ℕ) → Stretch → Type 0
WithinMarks first second s = (first ≤ s.low) × (s.high ≤ second)

-- a position lies between two others, whichever of these is the smaller
abbrev pub Between : (a b position : ℕ) → Type 0
Between a b position = ((a ≤ position) × (position ≤ b)) ⊎ ((b ≤ position) × (position ≤ a))

-- trams whose count 18 and whose stretches 19 does not refuse: at most 64, each with its low end at most its high end, and that at most
-- the last position
pub record OnTrack (last : ℕ) (trams : Trams) : Type 0 where
  pub few : length trams ≤ most_trams
  pub in_order : (i : ℕ) → i < length trams → (stretch_at trams i).low ≤ (stretch_at trams i).high
  pub below_last : (i : ℕ) → i < length trams → (stretch_at trams i).high ≤ last

-- a tram truly stands at a and b and between them: the low end of its stretch was read from a word of a, and the high end from one of b,
-- each with at most t damaged bits in every chunk
pub record StandsFrom (card : List ℕ) (s : Stretch) (a b : ℕ) : Type 0 where
  pub low_end : ReadFrom card a s.low
  pub high_end : ReadFrom card b s.high

-- What widening is for: on a sound card, a stretch whose low end is at most its high end holds both true positions once it is widened.
unfoldable pub WidenedHoldsBoth : (card : List ℕ) → Type 0
WidenedHoldsBoth card =
    (s : Stretch) (a b : ℕ) → SoundCard card → s.low ≤ s.high → StandsFrom card s a b
    → let wide : Stretch = widened (margin (code_of card)) (last_position (code_of card)) s in Holds wide a × Holds wide b
