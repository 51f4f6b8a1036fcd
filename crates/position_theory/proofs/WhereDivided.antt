-- Where chunks are divided: the walk from w(i) to w(i+1) takes its places one after the other, so a chunk that it has not reached or has
-- passed is whole, and the chunk inside which it stands is divided, since one place before it is taken and one after it is not. A walk
-- stands inside one chunk at most, and at its ends inside none. Assumes nothing.
use mathlib.Core.Path.{◌≡◌, refl, sym, ◌∙◌}
use mathlib.Core.Bool.{Bool, true, false, not, ◌&&◌}
use mathlib.Core.Logic.{inl, inr, ⊎_elim}
use Prim.Native.Nat.{ℕ, suc, ◌+◌, ◌≤◌, ◌<◌}
use native.Mathlib.Nat.{le_dest, eq-or-lt_of_le}
use native.Mathlib.Omega.{arith}
use lib.Dec.{ltb, eqb}
use borrow.Author.Tests.{lt-ltb, le-ltb, ltb-true, eq-eqb, ne_eqb}
use Rattle.bits.specs.Sums.{distance, difference}
use Rattle.bits.specs.Walk.{walk}
use Rattle.bits.specs.Searches.{any_below}
use Rattle.bits.proofs.Numbers.{lt_or_le, and_true_left, and_true_right}
use Rattle.bits.proofs.Distance.{distance_suc, distance_longer, differing_place}
use Rattle.bits.proofs.Walk.{walk_before, walk_after}
use Rattle.bits.proofs.Searches.{any_none, any_some}
use Rattle.model.specs.Card.{Code}
use Rattle.model.specs.Order.{last_codeword, changed_weight, block_length, start, last_position}
use Rattle.model.specs.Words.{chunk_size, places_before, chunk_of, word, word_at, divided}
use Rattle.code_theory.specs.Promise.{ChunkPromise}
use Rattle.position_theory.specs.DividedChunks.{DividedOneByOne}
use Rattle.position_theory.proofs.WordChunkLaws.{word_bit, word_chunk, chunk_ends, chunk_fits, places_rise}
use Rattle.position_theory.proofs.Between.{Next, steps_before, WholeAt, apart_before, chunk_ahead, chunk_passed}
use Rattle.position_theory.proofs.Ways.{way_steps}
use Rattle.position_theory.proofs.Blocks.{OnTheWay, next_codeword, block_inside, start_of_block, on_the_way}
use Rattle.position_theory.proofs.Blocks.{word_at_start, word_in_block}

-- ---- by the places in which u and v differ, some of them taken from v in w

module _ (u v w : ℕ → ℕ) where
  abbrev is_taken : (p : ℕ) → Bool
  is_taken p = not (eqb (u p) (v p)) && eqb (w p) (v p)

  abbrev is_kept : (p : ℕ) → Bool
  is_kept p = not (eqb (u p) (v p)) && not (eqb (w p) (v p))

  none_taken : (d : ℕ) → ((p : ℕ) → p < d → w p ≡ u p) → (any_below is_taken d && any_below is_kept d) ≡ false
  none_taken d same = rw (any_none is_taken d (λ p b. rw (same p b) (never_both (eqb (u p) (v p)))))
    where
      never_both : (t : Bool) → (not t && t) ≡ false
      never_both true = refl
      never_both false = refl

  all_taken : (d : ℕ) → ((p : ℕ) → p < d → w p ≡ v p) → (any_below is_taken d && any_below is_kept d) ≡ false
  all_taken d same =
      rw (any_none is_kept d (λ p b. rw (eq-eqb (w p) (v p) (same p b)) (and-false (not (eqb (u p) (v p)))))) (and-false (any_below is_taken d))
    where
      and-false : (t : Bool) → (t && false) ≡ false
      and-false true = refl
      and-false false = refl

  some_taken : (d q q' : ℕ) → q < d → difference (u q) (v q) ≡ 1 → w q ≡ v q → q' < d → difference (u q') (v q') ≡ 1 → w q' ≡ u q'
      → (any_below is_taken d && any_below is_kept d) ≡ true
  some_taken d q q' b differ taken b' differ' left =
      rw (
        any_some is_taken d q b (rw (ne_eqb (u q) (v q) (λ e. omega arith), eq-eqb (w q) (v q) taken)),
        any_some is_kept d q' b' (rw (left, ne_eqb (u q') (v q') (λ e. omega arith))),
      )

-- ---- chunks of words

-- step number r of the walk from one codeword's word to the next, counted from 0, flips a place of chunk c where r is no less than the
-- steps before that chunk and below those to its end
step_in_chunk : (C : Code) {i j A : ℕ} → Next C i j A → (c r : ℕ) → c < 5 → steps_before C A c ≤ r → r < steps_before C A (suc c)
    → (q : ℕ) × (q < chunk_size C.D C.n c) × (difference (chunk_of C c (word C i) q) (chunk_of C c (word C j) q) ≡ 1)
    × (distance (places_before C.D C.n c + q) (word C i) (word C j) ≡ r)
step_in_chunk C {i} {j} next c r b l h =
    inside (differing_place u v (places_before C.D C.n (suc c)) r (rw (apart_before C next (suc c) b) h))
  where
    u : ℕ → ℕ
    u = word C i

    v : ℕ → ℕ
    v = word C j

    inside : (p : ℕ) × (p < places_before C.D C.n (suc c)) × (difference (u p) (v p) ≡ 1) × (distance p u v ≡ r)
        → (q : ℕ) × (q < chunk_size C.D C.n c) × (difference (chunk_of C c u q) (chunk_of C c v q) ≡ 1)
        × (distance (places_before C.D C.n c + q) u v ≡ r)
    inside (p, below, differ, number) =
        ⊎_elim
        (λ (before : p < places_before C.D C.n c).
        absurd (omega (arith, distance_suc p u v, distance_longer u v before, apart_before C next c (omega arith))))
        (λ (from : places_before C.D C.n c ≤ p).
        let (q, is) = le_dest from in
        (q, omega (arith, chunk_ends C.D C.n c), rw is differ, rw is number))
        (lt_or_le p (places_before C.D C.n c))

module _ (C : Code) (promise : ChunkPromise C) where
  -- none is divided at a start
  undivided_start : (i c : ℕ) → i ≤ last_codeword C → divided C (start C i) c ≡ false
  unfolding divided
  undivided_start i c h =
      rw (start_of_block C promise i h)
      (none_taken (chunk_of C c (word C i)) (chunk_of C c (word C (i + 1))) (chunk_of C c (word_at C (start C i))) (chunk_size C.D C.n c)
      (λ p b. word_at_start C promise i h _))

  -- m steps into block i, of which some are left
  module _ (i m c : ℕ) (inside : i < last_codeword C) (room : m < block_length C i) (b : c < 5) where
    abbrev A : ℕ
    A = changed_weight C i

    abbrev u : ℕ → ℕ
    u = word C i

    abbrev v : ℕ → ℕ
    v = word C (i + 1)

    abbrev size : ℕ
    size = chunk_size C.D C.n c

    next : Next C i (i + 1) A
    next = next_codeword C promise i inside

    -- the chunk of its word is that of the walk
    walked : (p : ℕ) → p < size → chunk_of C c (word_at C (start C i + m)) p ≡ chunk_of C c (walk u v m) p
    walked p l = word_in_block C promise i m inside (omega arith) _ (omega (arith, chunk_fits C c b))

    -- a chunk that is whole
    undivided_whole : WholeAt C A m c → divided C (start C i + m) c ≡ false
    unfolding divided
    undivided_whole whole =
        rw (block_inside C promise i m inside room)
        (⊎_elim
        (λ ahead.
        none_taken (chunk_of C c u) (chunk_of C c v) (chunk_of C c (word_at C (start C i + m))) size
        (λ p l. walked p l ∙ chunk_ahead C next c m b ahead p l ∙ sym (word_chunk C i c b p l)))
        (λ passed.
        all_taken (chunk_of C c u) (chunk_of C c v) (chunk_of C c (word_at C (start C i + m))) size
        (λ p l. walked p l ∙ chunk_passed C next c m b passed p l ∙ sym (word_chunk C (i + 1) c b p l)))
        whole)

    -- the chunk inside which the walk stands: its first step is made, and step number m is not
    divided_inside : steps_before C A c < m → m < steps_before C A (suc c) → divided C (start C i + m) c ≡ true
    unfolding divided
    divided_inside l h =
        let (q, in-chunk, differ, number) = step_in_chunk C next c (steps_before C A c) b (omega arith) (omega arith) in
        let (q', in-chunk', differ', number') = step_in_chunk C next c m b (omega arith) h in
        let a : ℕ = places_before C.D C.n c in
        rw (block_inside C promise i m inside room)
        (some_taken (chunk_of C c u) (chunk_of C c v) (chunk_of C c (word_at C (start C i + m))) size q q'
        in-chunk differ
        (walked q in-chunk
        ∙ walk_before (word_bit C i) (word_bit C (i + 1)) m {a = suc (a + q)} (omega arith) (omega (arith, distance_suc (a + q) u v)))
        in-chunk' differ'
        (walked q' in-chunk' ∙ walk_after u v m {a = a + q'} (omega arith) (omega arith)))

  -- m steps into block i, its end included, at which the next block starts: a chunk is divided just where the walk stands inside it
  pub undivided_if_whole : (i m c : ℕ) → i < last_codeword C → m ≤ block_length C i → c < 5 → WholeAt C (changed_weight C i) m c
      → divided C (start C i + m) c ≡ false
  undivided_if_whole i m c inside room b whole =
      ⊎_elim
      (λ (end : m ≡ block_length C i). rw (end, ← (promise.start_next i inside)) (undivided_start (i + 1) c (omega arith)))
      (λ (l : m < block_length C i). undivided_whole i m c inside l b whole)
      (eq-or-lt_of_le room)

  divided_while_inside : (i m c : ℕ) → i < last_codeword C → m ≤ block_length C i → c < 5
      → divided C (start C i + m) c ≡ (ltb (steps_before C (changed_weight C i) c) m && ltb m (steps_before C (changed_weight C i) (suc c)))
  divided_while_inside i m c inside room b =
      let A = changed_weight C i in
      ⊎_elim
      (λ (l : steps_before C A c < m).
      ⊎_elim
      (λ (h : m < steps_before C A (suc c)).
      rw (lt-ltb _ _ l, lt-ltb _ _ h)
      (divided_inside i m c inside
      (omega (arith, way_steps C A, places_rise C.D A (suc c) 5 b)) b l h))
      (λ (passed : steps_before C A (suc c) ≤ m).
      rw (lt-ltb _ _ l, le-ltb _ _ passed) (undivided_if_whole i m c inside room b (inr passed)))
      (lt_or_le m (steps_before C A (suc c))))
      (λ (ahead : m ≤ steps_before C A c).
      rw (le-ltb _ _ ahead) (undivided_if_whole i m c inside room b (inl ahead)))
      (lt_or_le (steps_before C A c) m)

  -- so the walk to a position stands inside a chunk that is divided there
  stands_inside : (position c : ℕ) (way : OnTheWay C position) → c < 5 → divided C position c ≡ true
      → let steps = steps_before C (changed_weight C way.block) in (steps c < way.steps) × (way.steps < steps (suc c))
  stands_inside position c way b d =
      let steps = steps_before C (changed_weight C way.block) in
      let begun = ltb (steps c) way.steps in
      let unended = ltb way.steps (steps (suc c)) in
      let both : (begun && unended) ≡ true =
      sym (divided_while_inside way.block way.steps c way.inside way.room b) ∙ rw way.is d in
      (ltb-true _ _ (and_true_left begun unended both), ltb-true _ _ (and_true_right begun unended both))

  -- and no two chunks are divided at once: of two, all steps of the first come before those of the second
  one_divided : (position c c' : ℕ) → position ≤ last_position C → c < 5 → c' < 5
      → divided C position c ≡ true → divided C position c' ≡ true → c ≡ c'
  one_divided position c c' h b b' d d' =
      let way = on_the_way C promise position h in
      let here = stands_inside position c way b d in
      let here' = stands_inside position c' way b' d' in
      let rise = places_rise C.D (changed_weight C way.block) in
      ⊎_elim (λ (first : c < c'). absurd (omega (arith, rise (suc c) c' first)))
      (λ (from : c' ≤ c).
      ⊎_elim (λ (first : c' < c). absurd (omega (arith, rise (suc c') c first))) (λ (to : c ≤ c'). omega arith) (lt_or_le c' c))
      (lt_or_le c c')

  pub divided_one_by_one : DividedOneByOne C
  unfolding last_position
  divided_one_by_one =
      record {
        at_most_one = one_divided;
        none_at_start = undivided_start;
        none_at_last = λ c. undivided_start (last_codeword C) c (omega arith);
        while_inside = divided_while_inside;
      }
