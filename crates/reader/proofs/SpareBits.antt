-- The spare bits of a received word, by a count of ones. Assumes nothing.
use mathlib.Core.Path.{◌≡◌, refl, sym, ◌∙◌}
use mathlib.Core.Bool.{Bool, true, false, not}
use mathlib.Core.List.{List}
use mathlib.Core.Logic.{⊎_elim}
use Prim.Native.Nat.{ℕ, ◌+◌, ◌-◌, ◌*◌, ◌/◌, ◌≤◌, ◌<◌}
use native.Mathlib.Nat.{zero-div}
use native.Mathlib.Omega.{arith}
use lib.Dec.{eqb}
use lib.ListN.{length, get_or-eq_default}
use borrow.Author.Tests.{eq-eqb, ne_eqb}
use Rattle.bits.specs.Sums.{sum_below, from_place}
use Rattle.bits.specs.Places.{place}
use Rattle.bits.proofs.Numbers.{lt_or_le, eq_or_ne}
use Rattle.bits.proofs.Sums.{summand_le, sum_zero}
use Rattle.bits.proofs.Searches.{any_none}
use Rattle.model.specs.Card.{Code}
use Rattle.model.specs.Words.{word_bits, word_length}
use Rattle.model.specs.ReadWord.{spare_set}
use Rattle.position_theory.proofs.WordBytes.{spare_bits_zero}
use Rattle.nearest_position.specs.declared.received.ReceivedWord.{ReceivedWord}
use Rattle.nearest_position.specs.Received.{PlainWord, NothingSpare}

-- places past the end of a list are 0
past_end : (l : List ℕ) (p : ℕ) → 8 * length l ≤ p → place l p ≡ 0
unfolding place
past_end l p h =
    let past : length l ≤ p / 8 = omega arith in rw (get_or-eq_default l 0 past, zero-div) refl

module _ (C : Code) (received : List ℕ) (x : ReceivedWord) (plain : PlainWord received x) where
  spare_none : sum_below (from_place (word_bits C) (place x.bits)) (8 * word_length C - word_bits C) ≡ 0 → spare_set C received ≡ false
  unfolding spare_set
  spare_none e =
      any_none _ _ (λ q b. ne_eqb (place received (word_bits C + q)) 1 (λ (one : place received (word_bits C + q) ≡ 1).
      omega (
        arith,
        summand_le (from_place (word_bits C) (place x.bits)) (8 * word_length C - word_bits C) q b,
        plain.bits_held (word_bits C + q),
      )))

  spare_some : (sum_below (from_place (word_bits C) (place x.bits)) (8 * word_length C - word_bits C) ≡ 0 → ⊥) → spare_set C received ≡ true
  spare_some ne = by_test (spare_set C received) refl
    where
      by_test : (t : Bool) → spare_set C received ≡ t → spare_set C received ≡ true
      by_test true e = e
      by_test false e =
          absurd (ne
          (sum_zero _ (λ q b. plain.bits_held (word_bits C + q) ∙ spare_bits_zero C received e (word_bits C + q) (omega arith) (omega arith))))

  -- the test of a count of ones
  pub spare_test : (ones bits bytes : ℕ) → bits ≡ word_bits C → bytes ≡ word_length C
      → ones ≡ sum_below (from_place bits (place x.bits)) (8 * bytes - bits) → not (eqb ones 0) ≡ spare_set C received
  spare_test ones bits bytes bits_are bytes-are counted =
      let is : ones ≡ sum_below (from_place (word_bits C) (place x.bits)) (8 * word_length C - word_bits C) =
      rw (bits_are, bytes-are) at counted in
      ⊎_elim
      (λ (none : ones ≡ 0). rw (eq-eqb ones 0 none, spare_none (sym is ∙ none)))
      (λ (some : ones ≡ 0 → ⊥). rw (ne_eqb ones 0 some, spare_some (λ e. some (is ∙ e))))
      (eq_or_ne ones 0)

  pub nothing_spare : length received ≡ word_length C → spare_set C received ≡ false → NothingSpare C x
  unfolding NothingSpare
  nothing_spare whole none p l unerased =
      ⊎_elim
      (λ (b : p < 8 * word_length C). plain.bits_held p ∙ spare_bits_zero C received none p l b)
      (λ (b : 8 * word_length C ≤ p). plain.bits_held p ∙ past_end received p (omega arith))
      (lt_or_le p (8 * word_length C))
