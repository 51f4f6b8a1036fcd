-- Document 01, "Two cards to try": card A, card B, and cards with other rows. Assumes nothing.
use Rattle.std.specs.Prelude.{List, [], ◌∷◌, ℕ, get_or}
use Rattle.model.specs.CardBytes.{card_of}

-- a card with these rows, and zero for the others
abbrev pub card_with : (n k track : ℕ) → List ℕ → List ℕ
card_with n k track rows = card_of n k track (λ z. get_or rows z 0)

unfoldable pub card_a : List ℕ
card_a = card_with 3 2 0 (3 ∷ 6 ∷ [])

unfoldable pub card_b : List ℕ
card_b = card_with 3 1 14 (7 ∷ [])
