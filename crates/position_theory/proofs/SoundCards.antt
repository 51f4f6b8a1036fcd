-- What the theorems of every call begin with: a sound card's code keeps the chunk promise, and on a sound card a word is answered as by the
-- inner call, which is handed the card's code. Assumes nothing.
use mathlib.Core.Path.{◌≡◌}
use mathlib.Core.List.{List}
use Prim.Native.Nat.{ℕ}
use Rattle.model.specs.Card.{card_refusal, code_of, SoundCard}
use Rattle.model.specs.ReadWord.{read_word, read_refusal, read_answer}
use Rattle.code_theory.specs.Promise.{ChunkPromise}
use Rattle.code_theory.proofs.RefusalRows.{past_card}
use Rattle.code_theory.proofs.SoundCard.{sound_card}
use Rattle.code_theory.proofs.Promise.{promise}

pub card_promise : (card : List ℕ) → SoundCard card → ChunkPromise (code_of card)
card_promise card sound = promise (code_of card) (sound_card card sound)

pub read_sound : (card received : List ℕ) → SoundCard card → read_answer card received ≡ read_word (code_of card) received
unfolding read_answer read_refusal read_word
read_sound card received sound = past_card (card_refusal card) _ _ _ sound
