-- `card_fields::zeros::unused_byte_set` meets its contract. The loop's invariant: the joined bytes are 0 just where none of the unused
-- bytes passed is set. Assumes nothing.
use Prim.Native.Nat.{◌+◌}
use mathlib.Core.Path.{◌≡◌}
use mathlib.Core.Bool.{not}
use lib.Dec.{eqb}
use Rattle.bits.specs.Searches.{any_below}
use Rattle.model.specs.Card.{byte}
use Rattle.card_fields.proofs.zeros.unused_byte_set.Given as goal

abbrev pub invariant-loop-byte : goal.invariant-loop-byte
invariant-loop-byte l = not (eqb l.joined 0) ≡ any_below (λ j. not (eqb (byte l.card (104 + j)) 0)) l.byte-index
