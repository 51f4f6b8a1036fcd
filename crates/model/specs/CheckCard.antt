-- Document 01, "Where a call can be turned down", and 02: the check of a card. Its rows are those of the card itself, `card_refusal`: 1 to 5
-- and 14. The call's contract says that an answer's status is the refusal's number, and that its values, of a sound card, are those of
-- `card_expected`. Assumes nothing.
use Rattle.std.specs.Prelude.{List, [], ◌∷◌, ℕ, Result, Ok}
use Rattle.model.specs.Refusals.{Refused, values_by, unless_refused}
use Rattle.model.specs.Card.{Code, card_refusal, code_of, radius, track_of}
use Rattle.model.specs.Order.{last_position}
use Rattle.model.specs.Words.{word_bits}
use Rattle.model.specs.declared.CardSummary.{CardSummary}
use Rattle.model.specs.declared.Refusal.{Refusal}

-- the answer to a check of a card
abbrev pub CardAnswer : Type 0
CardAnswer = Result CardSummary Refusal

-- what a sound card is answered with: n, k, track, D, t, d and the last position
unfoldable pub summary_of : List ℕ → CardSummary
summary_of b =
    let C : Code = code_of b in
    record {
      n = C.n;
      k = C.k;
      track = track_of b;
      distance = C.D;
      radius = radius C;
      bits = word_bits C;
      last = last_position C;
    }

-- the answer
unfoldable pub card_answer : List ℕ → CardAnswer
card_answer b = unless_refused (card_refusal b) Refused (Ok (summary_of b))

-- the values of a summary, and of an answer
abbrev pub summary_values : CardSummary → List ℕ
summary_values s = s.n ∷ s.k ∷ s.track ∷ s.distance ∷ s.radius ∷ s.bits ∷ s.last ∷ []

abbrev pub card_values : CardAnswer → List ℕ
card_values answer = values_by summary_values answer

-- the values expected of a sound card, by the definitions: n, k, track, D, t, d and the last position
unfoldable pub card_expected : List ℕ → List ℕ
card_expected b =
    let C : Code = code_of b in C.n ∷ C.k ∷ track_of b ∷ C.D ∷ radius C ∷ word_bits C ∷ last_position C ∷ []
