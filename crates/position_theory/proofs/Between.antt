-- From one codeword to the next: two codewords of different parity that differ in A places. Of their words, a separator's bits all
-- differ and A of a code chunk's, so the steps that the walk from one word to the other makes before chunk c are counted like the
-- places before it, with A for n. Chunks that the walk has passed are those of the second word, chunks ahead of it those of the
-- first. Nothing is said of starts or positions here. Assumes nothing.
use mathlib.Core.Path.{◌≡◌, refl, ◌∙◌, sym}
use mathlib.Core.Logic.{◌⊎◌, inl, inr, ⊎_elim}
use Prim.Native.Nat.{ℕ, zero, suc, ◌+◌, ◌%◌, ◌≤◌, ◌<◌}
use native.Mathlib.Omega.{arith}
use Rattle.bits.specs.Sums.{distance, difference}
use Rattle.bits.specs.Walk.{walk}
use Rattle.bits.proofs.Numbers.{lt_or_le}
use Rattle.bits.proofs.Distance.{distance_ext, distance_split, distance_everywhere, distance_through}
use Rattle.bits.proofs.Walk.{walk_isometry, walk_before, walk_after, walk_none}
use Rattle.model.specs.Card.{Code}
use Rattle.model.specs.Order.{last_codeword}
use Rattle.model.specs.Words.{word_bits, chunk_size, places_before, chunk_of, word}
use Rattle.code_theory.specs.LeastDistance.{codeword_distance}
use Rattle.position_theory.proofs.WordChunkLaws.{content, word_chunk, word_bit, chunk_ends, word_ends, distance_none}

-- i and j are numbers of codewords, one even and one odd, whose codewords differ in A places
pub record Next (C : Code) (i j A : ℕ) : Type 0 where
  pub from_codeword : i ≤ last_codeword C
  pub to_codeword : j ≤ last_codeword C
  pub parities : difference (i % 2) (j % 2) ≡ 1
  pub codewords : codeword_distance C i j ≡ A

-- the steps from w(i) to w(j) before chunk c; for c = 5, all of them
abbrev pub steps_before : Code → (A c : ℕ) → ℕ
steps_before C A c = places_before C.D A c

-- chunk c is whole m steps on the way: the walk has not reached it, or has passed it
abbrev pub WholeAt : Code → (A m c : ℕ) → Type 0
WholeAt C A m c = (m ≤ steps_before C A c) ⊎ (steps_before C A (suc c) ≤ m)

module _ (C : Code) {i j A : ℕ} (next : Next C i j A) where
  -- how many bits of chunk c differ
  content_apart : (c : ℕ) → distance (chunk_size C.D C.n c) (content C i c) (content C j c) ≡ chunk_size C.D A c
  unfolding chunk_size content
  content_apart zero = distance_everywhere _ _ C.D (λ p b. next.parities)
  content_apart (suc zero) = next.codewords
  content_apart (suc (suc c)) = content_apart c

  chunk_apart : (c : ℕ) → c < 5
      → distance (chunk_size C.D C.n c) (chunk_of C c (word C i)) (chunk_of C c (word C j)) ≡ chunk_size C.D A c
  chunk_apart c b = distance_ext (chunk_size C.D C.n c) (word_chunk C i c b) (word_chunk C j c b) ∙ content_apart c

  -- how far the two words are apart before chunk c
  pub apart_before : (c : ℕ) → c ≤ 5 → distance (places_before C.D C.n c) (word C i) (word C j) ≡ steps_before C A c
  unfolding places_before
  apart_before zero b = distance_none (word C i) (word C j)
  apart_before (suc c) b =
      rw (
        chunk_ends C.D C.n c,
        chunk_ends C.D A c,
        distance_split (places_before C.D C.n c) (chunk_size C.D C.n c) (word C i) (word C j),
        apart_before c (omega arith),
        chunk_apart c b,
      )

  pub words_apart : distance (word_bits C) (word C i) (word C j) ≡ steps_before C A 5
  words_apart = rw (word_ends C) (apart_before 5 (omega arith))

  -- a chunk that the walk has not reached, and one that it has passed
  pub chunk_ahead : (c m : ℕ) → c < 5 → m ≤ steps_before C A c
      → (p : ℕ) → p < chunk_size C.D C.n c → chunk_of C c (walk (word C i) (word C j) m) p ≡ content C i c p
  chunk_ahead c m b h p l =
      walk_after (word C i) (word C j) m {a = places_before C.D C.n c} (omega arith) (rw (apart_before c (omega arith)) h)
      ∙ word_chunk C i c b p l

  pub chunk_passed : (c m : ℕ) → c < 5 → steps_before C A (suc c) ≤ m
      → (p : ℕ) → p < chunk_size C.D C.n c → chunk_of C c (walk (word C i) (word C j) m) p ≡ content C j c p
  chunk_passed c m b h p l =
      walk_before (word_bit C i) (word_bit C j) m {a = places_before C.D C.n (suc c)}
      (omega (arith, chunk_ends C.D C.n c)) (rw (apart_before (suc c) b) h)
      ∙ word_chunk C j c b p l

  -- words on the way differ in as many bits as they are steps apart
  pub way_apart : (m m' : ℕ) → m ≤ m' → m' ≤ steps_before C A 5
      → distance (word_bits C) (walk (word C i) (word C j) m) (walk (word C i) (word C j) m') + m ≡ m'
  way_apart m m' h h' = walk_isometry (word_bit C i) (word_bit C j) (word_bits C) m m' h (rw words_apart h')

  -- the way ends with the second word
  pub way_ends : (p : ℕ) → p < word_bits C → walk (word C i) (word C j) (steps_before C A 5) p ≡ word C j p
  way_ends p b = walk_before (word_bit C i) (word_bit C j) (steps_before C A 5) b (omega (arith, words_apart))

-- two ways one after the other: from the last separator's steps of the first to the first separator's steps of the second, the
-- distances add, since these separators share no place
module _ (C : Code) {h i j A B : ℕ} (before : Next C h i A) (after : Next C i j B) where
  first_fits : steps_before C B 1 ≤ steps_before C B 5
  unfolding places_before chunk_size
  first_fits = omega arith

  fourth_fits : places_before C.D C.n 1 ≤ places_before C.D C.n 4
  unfolding places_before chunk_size
  fourth_fits = omega arith

  pub across_apart : (m m' : ℕ) → steps_before C A 4 ≤ m → m ≤ steps_before C A 5 → m' ≤ steps_before C B 1
      → distance (word_bits C) (walk (word C h) (word C i) m) (walk (word C i) (word C j) m') + m ≡ steps_before C A 5 + m'
  across_apart m m' l b b' =
      rw
      (distance_through {u = walk (word C h) (word C i) m} {c = word C i} {v = walk (word C i) (word C j) m'} (word_bits C)
      one_agrees)
      (omega (arith, to_middle, from_middle))
    where
      to_middle : distance (word_bits C) (walk (word C h) (word C i) m) (word C i) + m ≡ steps_before C A 5
      to_middle =
          rw (distance_ext {u = walk (word C h) (word C i) m} (word_bits C) (λ p b. refl) (λ p b. sym (way_ends C before p b)))
          (way_apart C before m (steps_before C A 5) b (omega arith))

      from_middle : distance (word_bits C) (word C i) (walk (word C i) (word C j) m') ≡ m'
      from_middle =
          rw (distance_ext {v = walk (word C i) (word C j) m'} (word_bits C) (λ p b. sym (walk_none (word C i) (word C j) p))
          (λ p b. refl))
          (omega (arith, way_apart C after 0 m' (omega arith) (omega (arith, first_fits))))

      one_agrees : (p : ℕ) → p < word_bits C
          → (walk (word C h) (word C i) m p ≡ word C i p) ⊎ (walk (word C i) (word C j) m' p ≡ word C i p)
      one_agrees p b =
          ⊎_elim
          (λ (l' : p < places_before C.D C.n 4).
          inl (walk_before (word_bit C h) (word_bit C i) m l' (rw (apart_before C before 4 (omega arith)) l)))
          (λ (l' : places_before C.D C.n 4 ≤ p).
          inr (walk_after (word C i) (word C j) m' {a = places_before C.D C.n 1} (omega (arith, fourth_fits))
          (rw (apart_before C after 1 (omega arith)) b')))
          (lt_or_le p (places_before C.D C.n 4))
