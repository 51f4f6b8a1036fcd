-- `card_request::number_in` meets its contract. The loop's invariant: the bytes passed are digits, and make the number so far. Assumes
-- nothing.
use Rattle.card_request.proofs.Digits.{ReadTo}
use Rattle.card_request.proofs.number_in.Given as goal

abbrev pub invariant-loop-byte : goal.invariant-loop-byte
invariant-loop-byte l = ReadTo l.text l.number l.byte-index
