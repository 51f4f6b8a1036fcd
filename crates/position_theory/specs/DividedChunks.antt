-- Document 02, P7, "A sharper distance for the dispatcher's bar": where chunks are divided. Assumes nothing.
use Rattle.std.specs.Prelude.{◌≡◌, true, false, ◌&&◌, List, ℕ, suc, ◌+◌, ◌≤◌, ◌<◌, ltb}
use Rattle.model.specs.Card.{Code, code_of, SoundCard}
use Rattle.model.specs.Order.{last_codeword, changed_weight, block_length, start, last_position}
use Rattle.model.specs.Words.{places_before, divided}

-- At most one chunk of a position's word is divided, and none at a block's start or at the last position. Of the steps of block i,
-- places_before D A(i) c are made before chunk c. So m steps into the block, or at the block's end, chunk c is divided just where m is more
-- than these and fewer than places_before D A(i) (c + 1), the steps to the chunk's end.
pub record DividedOneByOne (C : Code) : Type 0 where
  pub at_most_one : (position c c' : ℕ) → position ≤ last_position C → c < 5 → c' < 5
      → divided C position c ≡ true → divided C position c' ≡ true → c ≡ c'
  pub none_at_start : (i c : ℕ) → i ≤ last_codeword C → divided C (start C i) c ≡ false
  pub none_at_last : (c : ℕ) → divided C (last_position C) c ≡ false
  pub while_inside : (i m c : ℕ) → i < last_codeword C → m ≤ block_length C i → c < 5
      → divided C (start C i + m) c
      ≡ (ltb (places_before C.D (changed_weight C i) c) m && ltb m (places_before C.D (changed_weight C i) (suc c)))

unfoldable pub AtMostOneDivided : (card : List ℕ) → Type 0
AtMostOneDivided card = SoundCard card → DividedOneByOne (code_of card)
