-- P7: where chunks of a position's word are divided, on every sound card. This is no clause of a call, but a law of what the clauses name.
-- Assumes nothing.
use mathlib.Core.Path.{◌≡◌}
use mathlib.Core.Bool.{false}
use mathlib.Core.List.{List}
use Prim.Native.Nat.{ℕ, ◌<◌}
use Rattle.model.specs.Card.{Code, code_of}
use Rattle.model.specs.Words.{divided}
use Rattle.position_theory.specs.Damage.{ChunksWithin, WithinRadius, UndividedWithinRadius}
use Rattle.position_theory.specs.DividedChunks.{AtMostOneDivided}
use Rattle.position_theory.proofs.WhereDivided.{divided_one_by_one}
use Rattle.position_theory.proofs.SoundCards.{card_promise}

-- at most one chunk is divided, and none at a block's start or at the last position
pub at_most_one_divided : (card : List ℕ) → AtMostOneDivided card
unfolding AtMostOneDivided
at_most_one_divided card sound = divided_one_by_one (code_of card) (card_promise card sound)

-- where none is divided, P7's limit binds all five chunks: said for the reader, since no proof needs it
pub binds_all_five : (C : Code) (position : ℕ) (received : List ℕ) → ((c : ℕ) → c < 5 → divided C position c ≡ false)
    → UndividedWithinRadius C position received → WithinRadius C position received
unfolding ChunksWithin
binds_all_five C position received none d =
    record { right_length = d.right_length; spare_zero = d.spare_zero; chunks = λ c b. d.chunks c b (none c b) }
