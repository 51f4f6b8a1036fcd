-- A way is a part of a track, of whatever kind, on which the words walk from one codeword's word to the next one's: from w(i) at one
-- position to w(j) at another, one bit flipped a step. Words on the way differ in as many bits as they are steps apart, and so do those
-- within D steps of where one way ends and the next begins: before it only separator 3 changes, after it only separator 1, and since
-- these share no place, the distances add. Chunks ahead hold c(i), and chunks passed c(j); the word is w(j) below some place, and w(i) from
-- there on. Assumes nothing.
use mathlib.Core.Path.{◌≡◌, refl, sym, ◌∙◌}
use mathlib.Core.Bool.{cond}
use mathlib.Core.Logic.{⊎_elim}
use Prim.Native.Nat.{ℕ, suc, ◌+◌, ◌-◌, ◌*◌, ◌≤◌, ◌<◌}
use native.Mathlib.Nat.{le_dest}
use native.Mathlib.Omega.{arith}
use lib.Dec.{ltb}
use Rattle.bits.specs.Sums.{distance}
use Rattle.bits.specs.Places.{bit}
use Rattle.bits.specs.Walk.{walk}
use Rattle.bits.proofs.Numbers.{lt_or_le}
use Rattle.bits.proofs.Distance.{distance_ext, distance_longer}
use Rattle.bits.proofs.Walk.{walk_spliced}
use Rattle.model.specs.Card.{Code}
use Rattle.model.specs.Order.{codeword}
use Rattle.model.specs.Words.{word_bits, chunk_size, places_before, chunk_of, word}
use Rattle.position_theory.proofs.Ranges.{Isometric}
use Rattle.position_theory.proofs.WordChunkLaws.{content, word_bit, chunk_fits}
use Rattle.position_theory.proofs.Between.{Next, steps_before, words_apart, way_apart, across_apart, chunk_ahead, chunk_passed}

-- a track's words from one position to another, both included, walk from w(i) to w(j), whose codewords differ in A places
pub record Way (C : Code) (words : ℕ → ℕ → ℕ) (from to i j A : ℕ) : Type 0 where
  pub next : Next C i j A
  pub ends : from + (3 * C.D + 2 * A) ≡ to
  pub walked : (m : ℕ) → from + m ≤ to → (p : ℕ) → p < word_bits C → words (from + m) p ≡ walk (word C i) (word C j) m p

-- chunk c of a word holds c(p)
abbrev pub HoldsCodeword : Code → (word : ℕ → ℕ) (c p : ℕ) → Type 0
HoldsCodeword C word c p = (b : ℕ) → b < C.n → chunk_of C c word b ≡ bit (codeword C p) b

-- both code chunks do
abbrev pub BothHold : Code → (word : ℕ → ℕ) (p : ℕ) → Type 0
BothHold C word p = HoldsCodeword C word 1 p × HoldsCodeword C word 3 p

-- the steps of a way
pub way_steps : (C : Code) (A : ℕ) → steps_before C A 5 ≡ 3 * C.D + 2 * A
unfolding places_before chunk_size
way_steps C A = omega arith

module _ (C : Code) {words : ℕ → ℕ → ℕ} {from to i j A : ℕ} (way : Way C words from to i j A) where
  pub isometric_way : Isometric (word_bits C) words from to
  unfolding Isometric
  isometric_way q q' a b c = from_offsets (le_dest a) (le_dest (omega arith))
    where
      from_offsets : (m : ℕ) × (from + m ≡ q) → (m' : ℕ) × (from + m' ≡ q') → distance (word_bits C) (words q) (words q') + q ≡ q'
      from_offsets (m, is) (m', is') =
          rw (← is, ← is', distance_ext (word_bits C) (way.walked m (omega arith)) (way.walked m' (omega arith)))
          (omega (arith, way_apart C way.next m m' (omega arith) (omega (arith, way.ends, way_steps C A))))

  -- m steps on the way: a chunk that the walk has not reached holds what w(i) holds there, one that it has passed what w(j) does
  module _ (m : ℕ) (room : from + m ≤ to) where
    ahead : (c : ℕ) → c < 5 → m ≤ steps_before C A c
        → (b : ℕ) → b < chunk_size C.D C.n c → chunk_of C c (words (from + m)) b ≡ content C i c b
    ahead c five h b l =
        way.walked m room _ (omega (arith, chunk_fits C c five)) ∙ chunk_ahead C way.next c m five h b l

    passed : (c : ℕ) → c < 5 → steps_before C A (suc c) ≤ m
        → (b : ℕ) → b < chunk_size C.D C.n c → chunk_of C c (words (from + m)) b ≡ content C j c b
    passed c five h b l =
        way.walked m room _ (omega (arith, chunk_fits C c five)) ∙ chunk_passed C way.next c m five h b l

    -- the two code chunks
    pub both_ahead : m ≤ C.D → BothHold C (words (from + m)) i
    unfolding places_before chunk_size content
    both_ahead h = (ahead 1 (omega arith) (omega arith), ahead 3 (omega arith) (omega arith))

    pub second_ahead : m ≤ 2 * C.D + A → HoldsCodeword C (words (from + m)) 3 i
    unfolding places_before chunk_size content
    second_ahead h = ahead 3 (omega arith) (omega arith)

    pub first_passed : C.D + A ≤ m → HoldsCodeword C (words (from + m)) 1 j
    unfolding places_before chunk_size content
    first_passed h = passed 1 (omega arith) (omega arith)

    pub both_passed : 2 * C.D + 2 * A ≤ m → BothHold C (words (from + m)) j
    unfolding places_before chunk_size content
    both_passed h = (passed 1 (omega arith) (omega arith), passed 3 (omega arith) (omega arith))

  -- stepping along the way place by place, of which each that differs is one step: no more steps are made below any place than the way
  -- has, and where the places below a have been passed, the word is w(j) below a and w(i) from there on
  steps_room : (a : ℕ) → a ≤ word_bits C → from + distance a (word C i) (word C j) ≤ to
  steps_room a h =
      omega (arith, way.ends, way_steps C A, words_apart C way.next, distance_longer (word C i) (word C j) h)

  pub way_passed : (a p : ℕ) → a ≤ word_bits C → p < word_bits C
      → words (from + distance a (word C i) (word C j)) p ≡ cond (ltb p a) (word C j p) (word C i p)
  way_passed a p h b =
      rw (way.walked (distance a (word C i) (word C j)) (steps_room a h) p b)
      (sym (walk_spliced (word_bit C i) (word_bit C j) _ a refl p))

-- two ways one after the other: the positions within D steps of where they meet
module _ (C : Code) {words : ℕ → ℕ → ℕ} {from middle to h i j A B : ℕ}
    (before : Way C words from middle h i A) (after : Way C words middle to i j B) where
  across : (q q' : ℕ) → middle ≤ q + C.D → q ≤ middle → middle ≤ q' → q' ≤ middle + C.D
      → distance (word_bits C) (words q) (words q') + q ≡ q'
  unfolding places_before chunk_size
  across q q' a b c e = from_offsets (le_dest (omega (arith, before.ends))) (le_dest c)
    where
      from_offsets : (m : ℕ) × (from + m ≡ q) → (m' : ℕ) × (middle + m' ≡ q') → distance (word_bits C) (words q) (words q') + q ≡ q'
      from_offsets (m, is) (m', is') =
          rw (
            ← is,
            ← is',
            distance_ext (word_bits C) (before.walked m (omega arith)) (after.walked m' (omega (arith, after.ends))),
          )
          (omega (
            arith,
            before.ends,
            across_apart C before.next after.next m m' (omega (arith, before.ends)) (omega (arith, before.ends)) (omega arith),
          ))

  pub isometric_across : Isometric (word_bits C) words (middle - C.D) (middle + C.D)
  unfolding Isometric
  isometric_across q q' a b c =
      ⊎_elim
      (λ (l : q' < middle). isometric_way C before q q' (omega (arith, before.ends)) b (omega arith))
      (λ (l : middle ≤ q').
      ⊎_elim (λ (l' : q < middle). across q q' (omega arith) (omega arith) l (omega arith))
      (λ (l' : middle ≤ q). isometric_way C after q q' l' b (omega (arith, after.ends))) (lt_or_le q middle))
      (lt_or_le q' middle)
