-- A sound card's code keeps the chunk promise: the first codeword within the radius, or for which 2 × wrong + erased is below D, is the
-- only one, blocks follow one another, and consecutive codewords differ in one row. Two readers that keep a promise answer alike, so where
-- nothing is erased a chunk reads alike by both halves of it. Assumes nothing.
use mathlib.Core.Path.{◌∙◌, ◌≡◌, refl, sym, fun_ext}
use mathlib.Core.Bool.{Bool, true}
use Prim.Native.Nat.{ℕ, ◌+◌, ◌^◌, ◌≤◌}
use native.Mathlib.Omega.{arith}
use lib.Pow.{pow_mono, pow_pos}
use borrow.Author.Tests.{leb-true, ltb-true}
use Rattle.bits.specs.Sums.{everywhere}
use Rattle.bits.proofs.Numbers.{not-true}
use Rattle.model.specs.Card.{Code}
use Rattle.model.specs.Order.{last_codeword}
use Rattle.std.specs.Prelude.{Some, None}
use Rattle.model.specs.Reading.{within_radius, read_first, chunk_reading}
use Rattle.model.specs.Levels.{within_erasures, erasure_reading}
use Rattle.code_theory.specs.Promise.{Sound, ReadsNear, ReadsWithErasures, ReadsChunks, ChunkPromise}
use Rattle.code_theory.proofs.Codewords.{step_distance}
use Rattle.code_theory.proofs.LeastDistance.{D-low, one_within_erasures, one_within_radius}
use Rattle.code_theory.proofs.Starts.{start_zero, start_next}
use Rattle.code_theory.proofs.ChunkReading.{reading_first, reading_near, plain_count, plain_near}
use Rattle.std.specs.Prelude.{Some, None}
use Rattle.model.specs.Reading.{Chunk}

-- Where no chunk has two codewords near to it, the first one is the one, and the search keeps the promise.
pub first_reads : {X : Type 0} {last : ℕ} {near : X → ℕ → Bool} {count : X → ℕ → ℕ}
    → ((x : X) (i j : ℕ) → i ≤ last → j ≤ last → near x i ≡ true → near x j ≡ true → i ≡ j)
    → (many : ℕ) → many ≡ last + 1 → ReadsNear X last near count (λ x. read_first (near x) (count x) many)
first_reads {near = near} {count = count} one many all =
    record {
      reads = λ x p l here.
          reading_first (near x) (count x) many p (omega arith)
          (λ j b. not-true (near x j) (λ too. omega (arith, one x j p (omega arith) l too here))) here;
      within = λ x p e r.
          let is = reading_near (near x) (count x) many p e r in (omega arith, is.1, is.2);
    }

-- no chunk has two codewords for which 2 × wrong + erased is below D
pub one_near : (C : Code) → Sound C → (unerased : ℕ → Bool) (x : ℕ → ℕ) (i j : ℕ) → i ≤ last_codeword C → j ≤ last_codeword C
    → within_erasures C unerased x i ≡ true → within_erasures C unerased x j ≡ true → i ≡ j
unfolding within_erasures
one_near C S unerased x i j li lj hi hj = one_within_erasures C S unerased x i j li lj (ltb-true _ _ hi) (ltb-true _ _ hj)

-- so either search keeps its half of the promise
plain_search_keeps : (C : Code) → Sound C → ReadsChunks C (chunk_reading C)
unfolding chunk_reading last_codeword within_radius
plain_search_keeps C S =
    first_reads (λ x i j li lj hi hj. one_within_radius C S x i j li lj (leb-true _ _ hi) (leb-true _ _ hj))
    (2 ^ C.k) (omega (arith, pow_pos C.k))

search_keeps : (C : Code) → Sound C → (unerased : ℕ → Bool) → ReadsWithErasures C unerased (erasure_reading C unerased)
unfolding erasure_reading last_codeword
search_keeps C S unerased = first_reads (one_near C S unerased) (2 ^ C.k) (omega (arith, pow_pos C.k))

-- a code of one row or more has two codewords or more
two_codewords : (C : Code) → Sound C → 1 ≤ last_codeword C
unfolding last_codeword
two_codewords C S = omega (arith, pow_mono {i = 1} {j = C.k} S.k_low)

pub promise : (C : Code) → Sound C → ChunkPromise C
promise C S =
    record {
      D-pos = D-low C S;
      two_codewords = two_codewords C S;
      plain = plain_search_keeps C S;
      chunks = search_keeps C S;
      start_zero = start_zero C;
      start_next = start_next C;
      step = step_distance C;
    }

-- two readers that promise to read chunks answer alike on every chunk, readable or not
pub readers_agree : {X : Type 0} {last : ℕ} {near : X → ℕ → Bool} {count : X → ℕ → ℕ} (f g : X → Chunk) → ReadsNear X last near count f
    → ReadsNear X last near count g → (x : X) → f x ≡ g x
readers_agree f g F G x = by_answer (f x) refl (g x) refl
  where
    by_answer : (a : Chunk) → f x ≡ a → (b : Chunk) → g x ≡ b → f x ≡ g x
    by_answer (Some read) h b k =
        let is = F.within x read.number read.differing h in h ∙ rw is.2 (sym (G.reads x read.number is.0 is.1))
    by_answer None h (Some read) k =
        let is = G.within x read.number read.differing k in F.reads x read.number is.0 is.1 ∙ rw (← is.2) (sym k)
    by_answer None h None k = h ∙ sym k

-- where no place is erased, a reader that promises to read plain chunks promises just what one over the unerased places does
pub plain_as_unerased : (C : Code) → 1 ≤ C.D → {read : (ℕ → ℕ) → Chunk} → ReadsChunks C read → ReadsWithErasures C everywhere read
plain_as_unerased C D-pos keeps = rw (fun_ext (plain_near C D-pos), fun_ext (plain_count C)) at keeps

-- so a plain chunk reads by the promise of plain chunks as it does where nothing is erased
pub plain_reading : (C : Code) → ChunkPromise C → (x : ℕ → ℕ) → chunk_reading C x ≡ erasure_reading C everywhere x
plain_reading C P =
    readers_agree (chunk_reading C) (erasure_reading C everywhere) (plain_as_unerased C P.D-pos P.plain) (P.chunks everywhere)
