-- A received word in the struct that the reader hands on: its bits, and its unerased places. Assumes nothing.
use Rattle.std.specs.Prelude.{◌≡◌, true, List, ℕ, ◌≤◌, ◌<◌}
use Rattle.bits.specs.Sums.{distance_unerased, marked}
use Rattle.bits.specs.Places.{place}
use Rattle.model.specs.Card.{Code}
use Rattle.model.specs.Words.{word_bits}
use Rattle.position.specs.LayoutOf.{LayoutOf}
use Rattle.position.specs.declared.layout.Layout.{Layout}
use Rattle.nearest_position.specs.declared.received.ReceivedWord.{ReceivedWord}

-- in how many of the unerased bits among the first d the word w differs from the received one
abbrev pub received_distance : (d : ℕ) (w : ℕ → ℕ) → ReceivedWord → ℕ
received_distance d w x = distance_unerased (marked (place x.unerased)) d w (place x.bits)

-- x holds a plain word, with nothing erased
pub record PlainWord (received : List ℕ) (x : ReceivedWord) : Type 0 where
  pub bits_held : (p : ℕ) → place x.bits p ≡ place received p
  pub all_unerased : (p : ℕ) → p < 320 → place x.unerased p ≡ 1

-- no unerased bit is set past the word's bits
unfoldable pub NothingSpare : Code → ReceivedWord → Type 0
NothingSpare C x = (p : ℕ) → word_bits C ≤ p → marked (place x.unerased) p ≡ true → place x.bits p ≡ 0

-- a word of the code, whose words have this layout
abbrev pub ReceivedIn : Code → Layout → ReceivedWord → Type 0
ReceivedIn C l x = LayoutOf C l × NothingSpare C x
