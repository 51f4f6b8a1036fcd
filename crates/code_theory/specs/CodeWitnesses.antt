-- What is promised of old cards, held from below: of an old card and whatever is answered, each row says what the promise alone gives, for
-- a sound card, for a refused one, and at the last position and past it. A premise that no old card meets no longer gives its row.
-- Assumes nothing.
use Rattle.std.specs.Prelude.{◌≡◌, List, ℕ, pos, take, set}
use Rattle.model.specs.CardBytes.{sealed}
use Rattle.model.specs.CardsToTry.{card_b}
use Rattle.model.specs.declared.CardSummary.{CardSummary}
use Rattle.code_theory.specs.Offsets.{CheckedAsBefore, DistanceAsBefore}
use Rattle.model.specs.CheckCard.{CardAnswer}
use Rattle.std.specs.Prelude.{Ok}
use Rattle.model.specs.Refusals.{Refused}
use Rattle.model.specs.Millimetres.{MillimetresAnswer}

-- card B's n, k, track, D, t, d and last position
abbrev pub summary_b : CardSummary
summary_b = record { n = 3; k = 1; track = 14; distance = 3; radius = 1; bits = 15; last = 15 }

-- card B with byte 104, the first one past the offset, not zero
abbrev pub byte104_set : List ℕ
byte104_set = sealed (set (take 510 card_b) 104 1)

pub record OldCardsWitnessed : Type 0 where
  pub sound : (answer : CardAnswer) → CheckedAsBefore card_b answer → answer ≡ Ok summary_b
  pub refused_by_4 : (answer : CardAnswer) → CheckedAsBefore byte104_set answer → answer ≡ Refused 4
  pub at_last : (answer : MillimetresAnswer) → DistanceAsBefore card_b 15 answer → answer ≡ Ok (pos 750)
  pub past_last : (answer : MillimetresAnswer) → DistanceAsBefore card_b 16 answer → answer ≡ Refused 7
