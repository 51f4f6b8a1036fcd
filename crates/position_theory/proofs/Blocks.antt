-- Blocks follow one another from 0 to the last position: the starts rise, each position lies in exactly one block, and
-- the word of the position m steps into block i is the walk of m steps from w(i) to w(i+1), the block's end included: w(i+1) below
-- some place, and w(i) from there on. Assumes nothing.
use mathlib.Core.Path.{◌≡◌, sym, ◌∙◌}
use mathlib.Core.Bool.{cond}
use mathlib.Core.Logic.{◌⊎◌, inl, inr, ⊎_elim}
use Prim.Native.Nat.{ℕ, zero, suc, ◌+◌, ◌-◌, ◌*◌, ◌≤◌, ◌<◌}
use native.Mathlib.Nat.{le_dest, eq-or-lt_of_le, eq-zero-or-pos, sub_self, add-sub_cancel_left}
use native.Mathlib.Numerals.{add-one}
use native.Mathlib.Omega.{arith}
use lib.Dec.{leb, ltb}
use borrow.Author.Tests.{le-leb, lt-leb, leb-true, leb-false}
use Rattle.bits.specs.Sums.{distance}
use Rattle.bits.specs.Walk.{walk}
use Rattle.bits.proofs.Walk.{walk_none, walk_before}
use Rattle.bits.proofs.Searches.{greatest_is, greatest_le, greatest_holds, greatest_above}
use Rattle.model.specs.Card.{Code}
use Rattle.model.specs.Order.{last_codeword, changed_weight, block_length, start, last_position}
use Rattle.model.specs.Words.{word_bits, chunk_size, places_before, word, block_of, word_at}
use Rattle.code_theory.specs.Promise.{ChunkPromise}
use Rattle.position_theory.proofs.WordChunkLaws.{word_bit}
use Rattle.position_theory.proofs.Between.{Next, apart_before, words_apart}
use Rattle.position_theory.proofs.Ways.{Way, way_steps, way_passed}

-- the position is one of the steps of block i, or, in the last block, which has none, its start
pub record InBlock (C : Code) (position i : ℕ) : Type 0 where
  pub on_track : i ≤ last_codeword C
  pub from_start : start C i ≤ position
  pub before_end : i < last_codeword C → position < start C i + block_length C i
  pub at_last : i ≡ last_codeword C → position ≡ start C i

-- the position stands some steps on the way through a block that is not the last, the block's end included
pub record OnTheWay (C : Code) (position : ℕ) : Type 0 where
  pub block : ℕ
  pub steps : ℕ
  pub inside : block < last_codeword C
  pub room : steps ≤ block_length C block
  pub is : start C block + steps ≡ position

-- a block leads from one codeword to the next, and has as many steps as their words are apart
module _ (C : Code) (promise : ChunkPromise C) (i : ℕ) (inside : i < last_codeword C) where
  pub next_codeword : Next C i (i + 1) (changed_weight C i)
  next_codeword =
      record {
        from_codeword = omega arith;
        to_codeword = omega arith;
        parities = omega arith;
        codewords = promise.step i inside;
      }

  -- how far w(i) and w(i+1) are apart up to the end of each chunk
  pub apart_separator₁ : distance C.D (word C i) (word C (i + 1)) ≡ C.D
  unfolding places_before chunk_size
  apart_separator₁ = apart_before C next_codeword 1 (omega arith)

  pub apart_chunk₁ : distance (C.D + C.n) (word C i) (word C (i + 1)) ≡ C.D + changed_weight C i
  unfolding places_before chunk_size
  apart_chunk₁ = apart_before C next_codeword 2 (omega arith)

  pub apart_separator₂ : distance (C.D + C.n + C.D) (word C i) (word C (i + 1)) ≡ 2 * C.D + changed_weight C i
  unfolding places_before chunk_size
  apart_separator₂ = apart_before C next_codeword 3 (omega arith) ∙ omega arith

  pub apart_chunk₂ : distance (C.D + C.n + C.D + C.n) (word C i) (word C (i + 1)) ≡ 2 * C.D + 2 * changed_weight C i
  unfolding places_before chunk_size
  apart_chunk₂ = apart_before C next_codeword 4 (omega arith) ∙ omega arith

  pub apart : distance (word_bits C) (word C i) (word C (i + 1)) ≡ block_length C i
  apart = words_apart C next_codeword ∙ way_steps C (changed_weight C i)

module _ (C : Code) where
  -- the block of a position is the last that starts at or before it
  pub block_is : (i position : ℕ) → i ≤ last_codeword C → start C i ≤ position
      → ((j : ℕ) → i < j → j ≤ last_codeword C → position < start C j) → block_of C position ≡ i
  unfolding block_of
  block_is i position h low high =
      greatest_is (λ j. leb (start C j) position) (last_codeword C) i h (λ _. le-leb _ _ low) (λ j l b. lt-leb _ _ (high j l b))

  -- so it is one of the track's, and no later one starts at or before the position
  pub block_le : (position : ℕ) → block_of C position ≤ last_codeword C
  unfolding block_of
  block_le position = greatest_le (λ i. leb (start C i) position) (last_codeword C)

  pub block_high : (position j : ℕ) → block_of C position < j → j ≤ last_codeword C → position < start C j
  unfolding block_of
  block_high position j l b = leb-false _ _ (greatest_above (λ i. leb (start C i) position) (last_codeword C) j l b)

module _ (C : Code) (promise : ChunkPromise C) where
  -- a later block starts no earlier than where an earlier one ends
  pub starts_rise : (i j : ℕ) → i < j → j ≤ last_codeword C → start C i + block_length C i ≤ start C j
  starts_rise i (suc j) h b =
      let next : start C (suc j) ≡ start C j + block_length C j = rw (← (add-one j)) (promise.start_next j b) in
      ⊎_elim
      (λ (e : i ≡ j). rw (e, next) (omega arith))
      (λ (l : i < j). omega (arith, starts_rise i j l (omega arith)))
      (eq-or-lt_of_le {n = i} {m = j} (omega arith))
  starts_rise i zero h b = absurd (omega arith)

  -- every start is on the track
  pub start_on_track : (i : ℕ) → i ≤ last_codeword C → start C i ≤ last_position C
  unfolding last_position
  start_on_track i h =
      ⊎_elim
      (λ (e : i ≡ last_codeword C). rw e (omega arith))
      (λ (l : i < last_codeword C). omega (arith, starts_rise i (last_codeword C) l (omega arith)))
      (eq-or-lt_of_le h)

  -- the positions of block i
  pub block_inside : (i m : ℕ) → i < last_codeword C → m < block_length C i → block_of C (start C i + m) ≡ i
  block_inside i m inside h =
      block_is C i _ (omega arith) (omega arith) (λ j l b. omega (arith, starts_rise i j l b))

  -- the block of r(i) is block i, of the last position too
  pub start_of_block : (i : ℕ) → i ≤ last_codeword C → block_of C (start C i) ≡ i
  start_of_block i h = block_is C i _ h (omega arith) (λ j l b. omega (arith, starts_rise i j l b, promise.D-pos))

  pub block_low : (position : ℕ) → start C (block_of C position) ≤ position
  unfolding block_of
  block_low position =
      ⊎_elim
      (λ (e : block_of C position ≡ 0). rw (e, promise.start_zero) (omega arith))
      (λ (h : 0 < block_of C position). leb-true _ _ (greatest_holds (λ i. leb (start C i) position) (last_codeword C) h))
      (eq-zero-or-pos (block_of C position))

  -- each position up to the last lies in exactly one block
  pub lies_in_its_block : (position : ℕ) → position ≤ last_position C → InBlock C position (block_of C position)
  unfolding last_position
  lies_in_its_block position h =
      record {
        on_track = block_le C position;
        from_start = block_low position;
        before_end = λ l. rw (← (promise.start_next (block_of C position) l))
            (block_high C position (block_of C position + 1) (omega arith) (omega arith));
        at_last = λ e. let top : position ≤ start C (block_of C position) = rw e h in omega (arith, block_low position);
      }

  pub lies_in_no_other : (position i : ℕ) → InBlock C position i → i ≡ block_of C position
  lies_in_no_other position i b =
      sym (block_is C i position b.on_track b.from_start (λ j l h.
      omega (arith, starts_rise i j l h, b.before_end (omega arith))))

  -- a position stands at the start of its block, or inside a block that is not the last
  pub in_its_block : (position : ℕ) → position ≤ last_position C
      → (position ≡ start C (block_of C position))
      ⊎ ((block_of C position < last_codeword C)
      × (position < start C (block_of C position) + block_length C (block_of C position)))
  in_its_block position h =
      let lies = lies_in_its_block position h in
      ⊎_elim (λ e. inl (lies.at_last e)) (λ l. inr (l, lies.before_end l)) (eq-or-lt_of_le (block_le C position))

  -- each position, the last included, stands on the way from one codeword to the next
  pub on_the_way : (position : ℕ) → position ≤ last_position C → OnTheWay C position
  unfolding last_position
  on_the_way position h =
      ⊎_elim
      (λ (e : block_of C position ≡ last_codeword C).
      let before : (i : ℕ) × (1 + i ≡ last_codeword C) = le_dest promise.two_codewords in
      let here : block_of C position ≡ before.0 + 1 = omega arith in
      let last : position ≡ start C (before.0 + 1) = rw here at ((lies_in_its_block position h).at_last e) in
      record {
        block = before.0;
        steps = block_length C before.0;
        inside = omega arith;
        room = omega arith;
        is = omega (arith, promise.start_next before.0 (omega arith));
      })
      (λ (l : block_of C position < last_codeword C).
      let offset = le_dest (block_low position) in
      record {
        block = block_of C position;
        steps = offset.0;
        inside = l;
        room = omega (arith, (lies_in_its_block position h).before_end l);
        is = offset.1;
      })
      (eq-or-lt_of_le (block_le C position))

  -- the steps that it stands into its block are no more than its block's words are apart
  pub steps_in_block : (position : ℕ) → position ≤ last_position C
      → position - start C (block_of C position) ≤ distance (word_bits C) (word C (block_of C position)) (word C (block_of C position + 1))
  steps_in_block position h =
      ⊎_elim (λ e. omega arith)
      (λ inside. omega (arith, apart C promise (block_of C position) inside.0))
      (in_its_block position h)

  -- the word of a start r(i) is w(i)
  pub word_at_start : (i : ℕ) → i ≤ last_codeword C → (p : ℕ) → word_at C (start C i) p ≡ word C i p
  unfolding word_at
  word_at_start i h p =
      rw (start_of_block i h, sub_self (start C i)) (walk_none (word C i) (word C (i + 1)) p)

  -- the word m steps into block i, its end included, is the walk of m steps from w(i) to w(i+1)
  pub word_in_block : (i m : ℕ) → i < last_codeword C → m ≤ block_length C i
      → (p : ℕ) → p < word_bits C → word_at C (start C i + m) p ≡ walk (word C i) (word C (i + 1)) m p
  unfolding word_at
  word_in_block i m inside h p b =
      ⊎_elim
      (λ (e : m ≡ block_length C i).
      rw (e, ← (promise.start_next i inside), word_at_start (i + 1) (omega arith) p)
      (sym (walk_before (word_bit C i) (word_bit C (i + 1)) (block_length C i) b (omega (arith, apart C promise i inside)))))
      (λ (l : m < block_length C i). rw (block_inside i m inside l, add-sub_cancel_left))
      (eq-or-lt_of_le h)

  -- so the block is a way from w(i) to w(i+1)
  pub block_way : (i : ℕ) → i < last_codeword C → Way C (word_at C) (start C i) (start C (i + 1)) i (i + 1) (changed_weight C i)
  block_way i inside =
      record {
        next = next_codeword C promise i inside;
        ends = sym (promise.start_next i inside);
        walked = λ m room. word_in_block i m inside (omega (arith, promise.start_next i inside));
      }

  -- where the places below a have been passed, the word is w(i+1) below a and w(i) from there on
  pub word_passed : (i : ℕ) → i < last_codeword C → (a p : ℕ) → a ≤ word_bits C → p < word_bits C
      → word_at C (start C i + distance a (word C i) (word C (i + 1))) p ≡ cond (ltb p a) (word C (i + 1) p) (word C i p)
  word_passed i inside = way_passed C (block_way i inside)
