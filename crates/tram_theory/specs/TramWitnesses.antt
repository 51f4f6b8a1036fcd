-- The promises of the searches among trams, held from below. Each row takes one promise of document 01's card A or B, trams, marks, and
-- whatever is answered, and says what the promise alone then gives, at the border of its premise or of its bound. So a premise that nobody
-- can meet, or a bound looser than the documents', no longer gives its row. Assumes nothing.
use Rattle.std.specs.Prelude.{◌≡◌, [], ◌∷◌, ℕ, replicate}
use Rattle.model.specs.Refusals.{status_of}
use Rattle.model.specs.CardsToTry.{card_a, card_b}
use Rattle.model.specs.Trams.{widened, TramsAnswer}
use Rattle.model.specs.NearestTram.{distance_to, NearestAnswer, NoTram, Tram}
use Rattle.model.specs.declared.Stretch.{Stretch}
use Rattle.position_theory.specs.Margin.{ReadFrom}
use Rattle.tram_theory.specs.Stretches.{Holds, WithinMarks, StandsFrom, WidenedHoldsBoth}
use Rattle.tram_theory.specs.TramPromises.{AnsweredYes, YesExactlyIf, NoneMissed, TrulyWithin, NearestOfAll, ZeroExactlyIfCrossing}
use Rattle.tram_theory.specs.TramPromises.{NoneCloser}

-- ---- trams. On card B, t is 1 and the last position 15, so a stretch is widened by 10; on card A, t is 0 and the last position 30

abbrev pub from_to : (low high : ℕ) → Stretch
from_to low high = record { low = low; high = high }

-- On card B damage within the radius reads 15, the last position, as 13, two short, and 11 as 13; 12, 14 and 15 undamaged read as
-- themselves. A tram at 15, both ends read as 13: widened it reaches from 3 to 15.
abbrev pub at15 : Stretch
at15 = from_to 13 13

-- one from 12 to 15, the high end read as 13; and one from 11 to 15, the low end read as 13
abbrev pub from12 : Stretch
from12 = from_to 12 13

abbrev pub from11 : Stretch
from11 = from_to 13 15

-- one from 14 to 15, read as 14 and 13: out of order, so that the ends are given exchanged
abbrev pub exchanged : Stretch
exchanged = from_to 13 14

-- ---- rows that recur

-- the answer for the tram at place i is yes in every search that is served and has the promise; or in none that has it
abbrev pub AlwaysYes : (i : ℕ) (Promised : TramsAnswer → Type 0) → Type 0
AlwaysYes i Promised = (answer : TramsAnswer) → status_of answer ≡ 0 → Promised answer → AnsweredYes answer i

abbrev pub NeverYes : (i : ℕ) (Promised : TramsAnswer → Type 0) → Type 0
NeverYes i Promised = (answer : TramsAnswer) → Promised answer → AnsweredYes answer i → ⊥

-- the only place that can be answered with this promise
abbrev pub OnlyPlace : (place : ℕ) (Promised : NearestAnswer → Type 0) → Type 0
OnlyPlace place Promised = (answered : ℕ) → Promised (Tram answered) → answered ≡ place

pub record TramsWitnessed : Type 0 where
  -- the premise of what is said of true positions is met, off by just twice the damaged bits
  pub read_short : ReadFrom card_b 15 13
  -- what widening is for: 2-2 widened ends at 12, so neither of its ends was read from 15
  pub holds_low_end : WidenedHoldsBoth card_b → StandsFrom card_b (from_to 2 2) 15 2 → ⊥
  pub holds_high_end : WidenedHoldsBoth card_b → StandsFrom card_b (from_to 2 2) 2 15 → ⊥
  -- crossing: at the widened ends and one beyond them, and cut at either end of the track; past the count; and refused
  pub at_low_end : AlwaysYes 0 (YesExactlyIf (λ s. Holds s 3) card_b (at15 ∷ []))
  pub below_low_end : NeverYes 0 (YesExactlyIf (λ s. Holds s 2) card_b (at15 ∷ []))
  pub cut_at_last : AlwaysYes 0 (YesExactlyIf (λ s. Holds s 15) card_b (at15 ∷ []))
  pub at_high_end : AlwaysYes 0 (YesExactlyIf (λ s. Holds s 14) card_b (from_to 2 4 ∷ []))
  pub above_high_end : NeverYes 0 (YesExactlyIf (λ s. Holds s 15) card_b (from_to 2 4 ∷ []))
  pub cut_at_0 : AlwaysYes 0 (YesExactlyIf (λ s. Holds s 0) card_b (from_to 2 4 ∷ []))
  pub past_count : NeverYes 1 (YesExactlyIf (λ s. Holds s 3) card_b (at15 ∷ []))
  pub refused : (answer : TramsAnswer) → status_of answer ≡ 19 → YesExactlyIf (λ s. Holds s 3) card_b (at15 ∷ []) answer
      → AnsweredYes answer 0 → ⊥
  -- none is missed at 15, the last of 64 neither, although the stretches as read do not hold it; with a below b, equal, and above
  pub none_missed : AlwaysYes 0 (NoneMissed card_b (from12 ∷ []) 15)
  pub last_of_64 : AlwaysYes 63 (NoneMissed card_b (replicate 64 at15) 15)
  pub ends_exchanged : AlwaysYes 0 (NoneMissed card_b (exchanged ∷ []) 15)
  -- within two marks: just the widened stretch, cut at the last position, and one short at either end
  pub just_within : AlwaysYes 0 (YesExactlyIf (WithinMarks 3 15) card_b (at15 ∷ []))
  pub not_from_4 : NeverYes 0 (YesExactlyIf (WithinMarks 4 15) card_b (at15 ∷ []))
  pub not_to_14 : NeverYes 0 (YesExactlyIf (WithinMarks 3 14) card_b (at15 ∷ []))
  -- a tram up to 15 is never reported as within marks up to 14, nor one from 11 as within marks from 12
  pub truly_below : NeverYes 0 (TrulyWithin card_b (from12 ∷ []) 0 14)
  pub truly_above : NeverYes 0 (TrulyWithin card_b (from11 ∷ []) 12 15)
  -- the nearest on card A, mark 10: nearer by one; as near on the other side, by its lower end; as near with the same low end, by its place
  pub nearer : OnlyPlace 1 (NearestOfAll card_a (from_to 14 16 ∷ from_to 13 15 ∷ []) 10)
  pub tie_to_low_end : OnlyPlace 1 (NearestOfAll card_a (from_to 14 16 ∷ from_to 4 6 ∷ []) 10)
  pub tie_to_earlier : OnlyPlace 0 (NearestOfAll card_a (from_to 14 16 ∷ from_to 14 15 ∷ []) 10)
  -- and by the widened low end, which on card B is 0 for both, not the one as given
  pub widened_tie : OnlyPlace 0 (NearestOfAll card_b (from_to 6 7 ∷ from_to 5 8 ∷ []) 5)
  pub no_trams : (answer : NearestAnswer) → status_of answer ≡ 0 → NearestOfAll card_a [] 10 answer → answer ≡ NoTram
  pub some_tram : (answer : NearestAnswer) → status_of answer ≡ 0 → NearestOfAll card_a (from_to 14 16 ∷ []) 10 answer
      → answer ≡ Tram 0
  pub none_of_some : NearestOfAll card_a (from_to 14 16 ∷ []) 10 NoTram → ⊥
  -- any tram at distance 0 from mark 3 crosses it
  pub at_distance_0 : (s : Stretch) → ZeroExactlyIfCrossing card_b (s ∷ []) 3 (Tram 0) → distance_to 3 (widened 10 15 s) ≡ 0
      → Holds (widened 10 15 s) 3
  -- the tram from 12 to 15 is not passed over, for mark 15, for one whose widened stretch ends at 12
  pub not_passed_over : NoneCloser card_b (from12 ∷ from_to 2 2 ∷ []) 15 (Tram 1) → ⊥
