-- Words chunk by chunk: what stands in each of the five chunks of w(i), and how the distance of two words adds up over the
-- chunks. Assumes nothing.
use mathlib.Core.Path.{◌≡◌, refl, sym}
use mathlib.Core.Bool.{Bool, cond}
use mathlib.Core.Logic.{⊎_elim}
use Prim.Native.Nat.{ℕ, zero, suc, ◌+◌, ◌%◌, ◌≤◌, ◌<◌}
use native.Mathlib.Nat.{zero-add, add_assoc, mod-lt, eq-or-lt_of_le}
use native.Mathlib.Omega.{arith}
use Rattle.bits.specs.Sums.{sum_below, distance, difference, distance_unerased, erased_below}
use Rattle.bits.specs.Places.{bit}
use Rattle.bits.proofs.Sums.{from_place_zero, sum_split}
use Rattle.bits.proofs.Joins.{join_left, join_right, join_bit}
use Rattle.model.specs.Card.{Code}
use Rattle.model.specs.Order.{codeword}
use Rattle.model.specs.Words.{word_bits, chunk_size, places_before, chunk_of, five_chunks, word}
use Rattle.model.specs.Words.{separator₁, chunk₁, separator₂, chunk₂, separator₃}
use Rattle.position_theory.specs.Damage.{damaged_in, damaged_in_all, wrong_in, erased_in, wrong_in_all, erased_in_all}

module _ (C : Code) (s₁ c₁ s₂ c₂ s₃ : ℕ → ℕ) where
  five_separator₁ : (p : ℕ) → p < C.D → five_chunks C s₁ c₁ s₂ c₂ s₃ p ≡ s₁ p
  unfolding five_chunks
  five_separator₁ p b = join_left C.D _ _ p b

  five_chunk₁ : (p : ℕ) → p < C.n → chunk₁ C (five_chunks C s₁ c₁ s₂ c₂ s₃) p ≡ c₁ p
  unfolding five_chunks
  five_chunk₁ p b = rw (join_right, join_left) refl

  five_separator₂ : (p : ℕ) → p < C.D → separator₂ C (five_chunks C s₁ c₁ s₂ c₂ s₃) p ≡ s₂ p
  unfolding five_chunks
  five_separator₂ p b = simp (add_assoc, join_right, join_left) refl

  five_chunk₂ : (p : ℕ) → p < C.n → chunk₂ C (five_chunks C s₁ c₁ s₂ c₂ s₃) p ≡ c₂ p
  unfolding five_chunks
  five_chunk₂ p b = simp (add_assoc, join_right, join_left) refl

  five_separator₃ : (p : ℕ) → separator₃ C (five_chunks C s₁ c₁ s₂ c₂ s₃) p ≡ s₃ p
  unfolding five_chunks
  five_separator₃ p = simp (add_assoc, join_right) refl

-- the chunks of w(i)
module _ (C : Code) (i : ℕ) where
  pub word_separator₁ : (p : ℕ) → p < C.D → word C i p ≡ i % 2
  unfolding word
  word_separator₁ p b = five_separator₁ C _ _ _ _ _ p b

  pub word_chunk₁ : (p : ℕ) → p < C.n → chunk₁ C (word C i) p ≡ bit (codeword C i) p
  unfolding word
  word_chunk₁ p b = five_chunk₁ C _ _ _ _ _ p b

  pub word_separator₂ : (p : ℕ) → p < C.D → separator₂ C (word C i) p ≡ i % 2
  unfolding word
  word_separator₂ p b = five_separator₂ C _ _ _ _ _ p b

  pub word_chunk₂ : (p : ℕ) → p < C.n → chunk₂ C (word C i) p ≡ bit (codeword C i) p
  unfolding word
  word_chunk₂ p b = five_chunk₂ C _ _ _ _ _ p b

  pub word_separator₃ : (p : ℕ) → separator₃ C (word C i) p ≡ i % 2
  unfolding word
  word_separator₃ p = five_separator₃ C _ _ _ _ _ p

  pub word_bit : (p : ℕ) → word C i p < 2
  unfolding word five_chunks
  word_bit =
      join_bit C.D parity_bit (join_bit C.n code_bit (join_bit C.D parity_bit (join_bit C.n code_bit parity_bit)))
    where
      parity_bit : ℕ → i % 2 < 2
      parity_bit p = omega arith

      code_bit : (p : ℕ) → bit (codeword C i) p < 2
      code_bit p = mod-lt _ (omega arith)

-- what stands in chunk c of w(i): the parity of i in a separator, c(i) in a code chunk
unfoldable pub content : Code → (i c : ℕ) → ℕ → ℕ
content C i zero = λ p. i % 2
content C i (suc zero) = bit (codeword C i)
content C i (suc (suc c)) = content C i c

pub word_chunk : (C : Code) (i c : ℕ) → c < 5 → (p : ℕ) → p < chunk_size C.D C.n c
    → chunk_of C c (word C i) p ≡ content C i c p
unfolding chunk_size places_before content
word_chunk C i zero b p h = rw zero-add (word_separator₁ C i p h)
word_chunk C i (suc zero) b p h = word_chunk₁ C i p h
word_chunk C i (suc (suc zero)) b p h = word_separator₂ C i p h
word_chunk C i (suc (suc (suc zero))) b p h = word_chunk₂ C i p h
word_chunk C i (suc (suc (suc (suc zero)))) b p h = word_separator₃ C i p
word_chunk C i (suc (suc (suc (suc (suc c))))) b p h = absurd (omega arith)

-- the chunks by name are those by number
pub named_chunks : (C : Code) (x : ℕ → ℕ)
    → (chunk_of C 0 x ≡ separator₁ C x) × (chunk_of C 1 x ≡ chunk₁ C x) × (chunk_of C 2 x ≡ separator₂ C x)
    × (chunk_of C 3 x ≡ chunk₂ C x) × (chunk_of C 4 x ≡ separator₃ C x)
unfolding places_before chunk_size
named_chunks C x = (from_place_zero x, refl, refl, refl, refl)

-- the chunks follow one another, and after the fifth the word ends
pub chunk_ends : (D n c : ℕ) → places_before D n (suc c) ≡ places_before D n c + chunk_size D n c
unfolding places_before chunk_size
chunk_ends D n zero = sym (zero-add D)
chunk_ends D n (suc c) = refl

-- so a later chunk has no fewer places before it
pub places_rise : (D n c c' : ℕ) → c ≤ c' → places_before D n c ≤ places_before D n c'
places_rise D n c zero h = let none : c ≡ 0 = omega arith in rw none (omega arith)
places_rise D n c (suc c') h =
    ⊎_elim
    (λ (e : c ≡ suc c'). rw e (omega arith))
    (λ (l : c < suc c'). omega (arith, chunk_ends D n c', places_rise D n c c' (omega arith)))
    (eq-or-lt_of_le h)

pub word_ends : (C : Code) → word_bits C ≡ places_before C.D C.n 5
unfolding places_before chunk_size
word_ends C = omega arith

-- so no chunk reaches past the word's end
pub chunk_fits : (C : Code) (c : ℕ) → c < 5 → places_before C.D C.n c + chunk_size C.D C.n c ≤ word_bits C
unfolding places_before chunk_size
chunk_fits C zero b = omega arith
chunk_fits C (suc zero) b = omega arith
chunk_fits C (suc (suc zero)) b = omega arith
chunk_fits C (suc (suc (suc zero))) b = omega arith
chunk_fits C (suc (suc (suc (suc zero)))) b = omega arith
chunk_fits C (suc (suc (suc (suc (suc c))))) b = absurd (omega arith)

-- no places, no distance
pub distance_none : (u v : ℕ → ℕ) → distance 0 u v ≡ 0
unfolding distance sum_below
distance_none u v = refl

-- what adds up over the places of a word adds up over its chunks
sum_by_chunks : (C : Code) (f : ℕ → ℕ) (c : ℕ)
    → sum_below f (places_before C.D C.n c) ≡ sum_below (λ c. sum_below (chunk_of C c f) (chunk_size C.D C.n c)) c
unfolding sum_below places_before
sum_by_chunks C f zero = refl
sum_by_chunks C f (suc c) =
    rw (
      chunk_ends C.D C.n c,
      sum_split f (places_before C.D C.n c) (chunk_size C.D C.n c),
      sum_by_chunks C f c,
    )

-- the distance of two words is the sum of the distances of their chunks
pub distance_by_chunks : (C : Code) (u x : ℕ → ℕ) (c : ℕ)
    → distance (places_before C.D C.n c) u x ≡ sum_below (λ c. damaged_in C c u x) c
unfolding distance damaged_in
distance_by_chunks C u x c = sum_by_chunks C (λ p. difference (u p) (x p)) c

pub five_distance : (C : Code) (u x : ℕ → ℕ) → distance (word_bits C) u x ≡ damaged_in_all C u x
unfolding damaged_in_all
five_distance C u x = rw (word_ends C) (distance_by_chunks C u x 5)

-- over the unerased places too; and the erased places of a word are those of its chunks
pub five_wrong : (C : Code) (unerased : ℕ → Bool) (u x : ℕ → ℕ) → distance_unerased unerased (word_bits C) u x ≡ wrong_in_all C unerased u x
unfolding distance_unerased wrong_in_all wrong_in
five_wrong C unerased u x = rw (word_ends C) (sum_by_chunks C (λ p. cond (unerased p) (difference (u p) (x p)) 0) 5)

pub five_erased : (C : Code) (unerased : ℕ → Bool) → erased_below unerased (word_bits C) ≡ erased_in_all C unerased
unfolding erased_below erased_in_all erased_in
five_erased C unerased = rw (word_ends C) (sum_by_chunks C (λ p. cond (unerased p) 0 1) 5)
