-- A word of levels, in the struct that the code folds it into. Assumes nothing.
use Rattle.std.specs.Prelude.{◌≡◌, ℕ}
use Rattle.model.specs.Card.{Code}
use Rattle.model.specs.Words.{separator₁, separator₂, separator₃, word_bits}
use Rattle.model.specs.Levels.{bits_in, sum_of_levels, strength_of}
use Rattle.model.specs.declared.ReceivedLevel.{ReceivedLevel}
use Rattle.position.specs.HoldsWord.{HoldsWord}
use Rattle.levels.specs.LevelChunks.{unerased_bits}
use Rattle.level_reader.specs.declared.level_word.LevelWord.{LevelWord}

-- the bits of a word's d levels and the unerased places, with zeros behind; the sums of its separators; and the strength
pub record LevelWordOf (C : Code) (word : ℕ → ReceivedLevel) (w : LevelWord) : Type 0 where
  pub bits_are : HoldsWord C (bits_in word) w.word.bits
  pub unerased_are : HoldsWord C (unerased_bits word) w.word.unerased
  pub sum₁ : w.sum1 ≡ sum_of_levels (separator₁ C word) C.D
  pub sum₂ : w.sum2 ≡ sum_of_levels (separator₂ C word) C.D
  pub sum₃ : w.sum3 ≡ sum_of_levels (separator₃ C word) C.D
  pub strength_is : w.strength ≡ strength_of word (word_bits C)
