-- Document 02, P8: a position that was read, and the true one; 10t is the margin between them. Assumes nothing.
use Rattle.std.specs.Prelude.{◌≡◌, List, ℕ, ◌+◌, ◌≤◌}
use Rattle.model.specs.Card.{code_of, SoundCard}
use Rattle.model.specs.Order.{last_position}
use Rattle.model.specs.ReadWord.{read_answer}
use Rattle.model.specs.Trams.{margin}
use Rattle.model.specs.declared.Reading.{Reading}
use Rattle.position_theory.specs.Damage.{WithinRadius}
use Rattle.std.specs.Prelude.{Ok}

-- The position `answered` was read from the true one: it is what the plain reading answers for a word of that position of the track, in
-- which at most t bits of every chunk are damaged.
pub record ReadFrom (card : List ℕ) (true_position answered : ℕ) : Type 0 where
  pub on_track : true_position ≤ last_position (code_of card)
  pub received : List ℕ
  pub within : WithinRadius (code_of card) true_position received
  pub reading : Reading
  pub read : read_answer card received ≡ Ok reading
  pub position : reading.position ≡ answered

-- on a sound card the two are at most 10t apart
unfoldable pub ReadWithinMargin : (card : List ℕ) → Type 0
ReadWithinMargin card =
    (true_position answered : ℕ) → SoundCard card → ReadFrom card true_position answered
    → (answered ≤ true_position + margin (code_of card)) × (true_position ≤ answered + margin (code_of card))
