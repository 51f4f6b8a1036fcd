-- The first bytes of an array that holds a position's bits, as many as a word has: they are that position's word as it travels.
-- Assumes nothing.
use mathlib.Core.Path.{◌≡◌, sym, ◌∙◌}
use mathlib.Core.List.{List}
use Prim.Native.Nat.{ℕ, ◌*◌, ◌/◌, ◌≤◌, ◌<◌}
use native.Mathlib.Omega.{arith}
use lib.ListN.{length, get_or, take, length-take}
use Rattle.std.proofs.lemmas.List.{get_or-take}
use Rattle.bits.specs.Places.{place}
use Rattle.bits.proofs.Places.{length_pack, place_pack, byte_of_places, same_places}
use Rattle.model.specs.Card.{Code}
use Rattle.model.specs.Words.{word_bits, word_at, word_bytes, word_length}
use Rattle.position_theory.proofs.WordBytes.{word_at_bit}
use Rattle.position.specs.HoldsWord.{HoldsWord}

place_taken : (n : ℕ) (word : List ℕ) (p : ℕ) → p < 8 * n → place (take n word) p ≡ place word p
unfolding place
place_taken n word p h = rw (get_or-take n word (p / 8) 0 (omega arith))

pub copied_word : (C : Code) (position : ℕ) (word : List ℕ) → let long : ℕ = word_length C in long ≤ length word
    → ((i : ℕ) → get_or (take long word) i 0 < 256) → HoldsWord C (word_at C position) word → take long word ≡ word_bytes C position
unfolding word_bytes
copied_word C position word room bytes holds =
    let d = word_bits C in
    let u = word_at C position in
    let bits = word_at_bit C position in
    let long : length (take (word_length C) word) ≡ word_length C = omega (arith, length-take (word_length C) word) in
    same_places (take (word_length C) word) (word_bytes C position) (long ∙ sym (length_pack d u)) bytes (byte_of_places d u bits)
    (λ p h. place_taken (word_length C) word p (rw long at h) ∙ holds p ∙ sym (place_pack d u bits p))
