-- The way from w(i) to w(next), place by place, and the residuals that a search along it meets. Assumes nothing.
use Rattle.std.specs.Prelude.{◌≡◌, ℕ, ◌+◌, ◌≤◌}
use Rattle.bits.specs.Sums.{distance, marked}
use Rattle.bits.specs.Places.{place}
use Rattle.model.specs.Card.{Code}
use Rattle.model.specs.Order.{start}
use Rattle.model.specs.Words.{word_bits, word}
use Rattle.model.specs.Levels.{residual_unerased}
use Rattle.nearest_position.specs.declared.received.ReceivedWord.{ReceivedWord}
use Rattle.nearest_position.specs.Received.{received_distance}
use Rattle.nearest_position.specs.Passing.{passed_to}

-- the position at which the places below q have been passed, on the way that begins at r(i)
abbrev pub position_at : Code → (i next q : ℕ) → ℕ
position_at C i next q = start C i + distance q (word C i) (word C next)

-- f is, at each position of the way, in how many of the unerased bits the word there differs from the received one
unfoldable pub ResidualsOf : Code → ReceivedWord → (i next : ℕ) (f : ℕ → ℕ) → Type 0
ResidualsOf C x i next f =
    (q : ℕ) → q ≤ word_bits C → f (position_at C i next q) ≡ received_distance (word_bits C) (passed_to (word C i) (word C next) q) x

-- on a track with two ends: the residual of a position against the received word
abbrev pub residual_in : Code → ReceivedWord → (position : ℕ) → ℕ
residual_in C x = residual_unerased C (marked (place x.unerased)) (place x.bits)
