-- What is promised of the searches among trams, as the contracts of the calls state it of the card, the trams, the marks and the answer.
-- (That a search is refused by the table's number is the equation with its answer.) Assumes nothing.
use Rattle.std.specs.Prelude.{◌≡◌, true, false, List, ℕ, ◌≤◌, ◌<◌, get_or, length}
use Rattle.model.specs.Refusals.{status_of}
use Rattle.model.specs.Card.{code_of}
use Rattle.model.specs.Trams.{stretch_at, widened_at, Trams, TramsAnswer, answers_of}
use Rattle.model.specs.NearestTram.{apart, distance_to, NearestAnswer, NoTram, Tram}
use Rattle.model.specs.declared.Stretch.{Stretch}
use Rattle.tram_theory.specs.Stretches.{Holds, WithinMarks, Between, StandsFrom}

-- ---- yes or no for each tram

-- the answer for the tram at place i is yes
abbrev pub AnsweredYes : TramsAnswer → (i : ℕ) → Type 0
AnsweredYes answer i = get_or (answers_of answer) i false ≡ true

-- Where the search is served, the answer for a tram is yes if this holds of its widened stretch, and only then. Past the count, and where
-- the search is refused, it never is.
pub record YesExactlyIf (Test : Stretch → Type 0) (card : List ℕ) (trams : Trams) (answer : TramsAnswer) : Type 0 where
  pub yes : (i : ℕ) → status_of answer ≡ 0 → i < length trams → Test (widened_at (code_of card) trams i) → AnsweredYes answer i
  pub only : (i : ℕ) → AnsweredYes answer i → (status_of answer ≡ 0) × (i < length trams) × Test (widened_at (code_of card) trams i)

-- a tram that truly stands at the mark, since the mark lies between its true positions a and b, is never missed
unfoldable pub NoneMissed : (card : List ℕ) → Trams → (mark : ℕ) → TramsAnswer → Type 0
NoneMissed card trams mark answer =
    (i a b : ℕ) → status_of answer ≡ 0 → i < length trams → StandsFrom card (stretch_at trams i) a b → Between a b mark → AnsweredYes answer i

-- a tram that is reported as within two marks truly is: both its true positions lie between them
unfoldable pub TrulyWithin : (card : List ℕ) → Trams → (first second : ℕ) → TramsAnswer → Type 0
TrulyWithin card trams first second answer =
    (i a b : ℕ) → AnsweredYes answer i → StandsFrom card (stretch_at trams i) a b
    → ((first ≤ a) × (a ≤ second)) × ((first ≤ b) × (b ≤ second))

-- all trams crossing a mark
pub record CrossingPromises (card : List ℕ) (trams : Trams) (mark : ℕ) (answer : TramsAnswer) : Type 0 where
  pub exactly : YesExactlyIf (λ s. Holds s mark) card trams answer
  pub none_missed : NoneMissed card trams mark answer

-- all trams wholly within two marks
pub record WithinPromises (card : List ℕ) (trams : Trams) (first second : ℕ) (answer : TramsAnswer) : Type 0 where
  pub exactly : YesExactlyIf (WithinMarks first second) card trams answer
  pub truly : TrulyWithin card trams first second answer

-- ---- the nearest tram

-- Of so many stretches, none is nearer to the mark than the one at this place; none that is as near has a smaller low end; and none that
-- is as near with the same low end stands earlier in the list.
pub record IsNearest (mark : ℕ) (stretch : ℕ → Stretch) (count place : ℕ) : Type 0 where
  pub in_list : place < count
  pub none_nearer : (i : ℕ) → i < count → distance_to mark (stretch place) ≤ distance_to mark (stretch i)
  pub smaller_low : (i : ℕ) → i < count → distance_to mark (stretch i) ≡ distance_to mark (stretch place) → (stretch place).low ≤ (stretch i).low
  pub earlier : (i : ℕ) → i < count → distance_to mark (stretch i) ≡ distance_to mark (stretch place)
      → (stretch i).low ≡ (stretch place).low → place ≤ i

-- where the search is served, the nearest in the widened list is answered if there are trams, and of no trams none
pub record NearestOfAll (card : List ℕ) (trams : Trams) (mark : ℕ) (answer : NearestAnswer) : Type 0 where
  pub nearest : (place : ℕ) → answer ≡ Tram place → IsNearest mark (widened_at (code_of card) trams) (length trams) place
  pub some : status_of answer ≡ 0 → 0 < length trams → (place : ℕ) × (answer ≡ Tram place)
  pub none : answer ≡ NoTram → length trams ≡ 0
  pub of_none : status_of answer ≡ 0 → length trams ≡ 0 → answer ≡ NoTram

-- where the search is served, a tram is at distance 0 if it crosses the mark, and only then
unfoldable pub ZeroExactlyIfCrossing : (card : List ℕ) → Trams → (mark : ℕ) → NearestAnswer → Type 0
ZeroExactlyIfCrossing card trams mark answer =
    (i : ℕ) → status_of answer ≡ 0 → i < length trams
    → (Holds (widened_at (code_of card) trams i) mark → distance_to mark (widened_at (code_of card) trams i) ≡ 0)
    × (distance_to mark (widened_at (code_of card) trams i) ≡ 0 → Holds (widened_at (code_of card) trams i) mark)

-- no part of any tram, at a position between its true positions a and b, is nearer to the mark than the distance of the tram answered
unfoldable pub NoneCloser : (card : List ℕ) → Trams → (mark : ℕ) → NearestAnswer → Type 0
NoneCloser card trams mark answer =
    (place i a b position : ℕ) → answer ≡ Tram place → i < length trams → StandsFrom card (stretch_at trams i) a b
    → Between a b position → distance_to mark (widened_at (code_of card) trams place) ≤ apart mark position

pub record NearestPromises (card : List ℕ) (trams : Trams) (mark : ℕ) (answer : NearestAnswer) : Type 0 where
  pub of_all : NearestOfAll card trams mark answer
  pub crossing : ZeroExactlyIfCrossing card trams mark answer
  pub none_closer : NoneCloser card trams mark answer
