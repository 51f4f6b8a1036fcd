-- What is seen of a plain word, in which nothing is erased: a code chunk reads as the codeword within the radius, for which 2 × wrong is
-- below D; and a separator of which fewer than half the bits are damaged reads what its bits were. Assumes nothing.
use mathlib.Core.Path.{◌≡◌, refl, ap}
use mathlib.Core.Logic.{⊎_elim}
use Prim.Native.Nat.{ℕ, zero, suc, ◌+◌, ◌*◌, ◌≤◌, ◌<◌}
use native.Mathlib.Nat.{eq-zero-or-pos}
use native.Mathlib.Omega.{arith}
use lib.Dec.{ltb}
use borrow.Author.Tests.{lt-ltb, le-ltb}
use Rattle.bits.specs.Sums.{sum_below, distance, distance_unerased, everywhere, from_place}
use Rattle.bits.proofs.Numbers.{by_test}
use Rattle.bits.proofs.Sums.{sum_ext, from_place_zero}
use Rattle.bits.proofs.Distance.{distance_ext_left}
use Rattle.bits.proofs.Erasures.{all_unerased, none_erased}
use Rattle.model.specs.Card.{Code, radius}
use Rattle.model.specs.Words.{chunk_size, places_before, chunk_of}
use Rattle.model.specs.Reading.{majority, chunk_reading, seen, residual}
use Rattle.model.specs.Levels.{residual_unerased}
use Rattle.code_theory.specs.Promise.{ChunkPromise}
use Rattle.code_theory.proofs.Promise.{plain_as_unerased}
use Rattle.position_theory.specs.Damage.{damaged_in, wrong_in, erased_in, ChunkBelowD}
use Rattle.position_theory.specs.SeenChunks.{SeesChunk, SeesChunks}
use Rattle.position_theory.proofs.WholeChunks.{ReadsParity, Sees}

-- the ones of a separator, counted by the places that differ from 0 or from 1
distance_from_zeros : (D : ℕ) (y : ℕ → ℕ) → ((p : ℕ) → y p < 2) → distance D (λ p. 0) y ≡ sum_below y D
unfolding distance
distance_from_zeros D y hy = sum_ext D (λ p b. omega (arith, hy p))

distance_from_ones : (D : ℕ) (y : ℕ → ℕ) → ((p : ℕ) → y p < 2) → distance D (λ p. 1) y + sum_below y D ≡ D
unfolding distance sum_below
distance_from_ones zero y hy = refl
distance_from_ones (suc D) y hy = omega (arith, hy D, distance_from_ones D y hy)

-- a separator whose bits are all b reads b if fewer than half of them are damaged
separator_reads : (D b : ℕ) (u y : ℕ → ℕ) → b < 2 → ((p : ℕ) → p < D → u p ≡ b) → ((p : ℕ) → y p < 2) → 2 * distance D u y < D
    → majority D y ≡ b
unfolding majority
separator_reads D b u y hb hu hy h =
    let few : 2 * distance D (λ p. b) y < D = rw (distance_ext_left {u' = λ p. b} D y hu) at h in
    ⊎_elim
    (λ (e : b ≡ 0).
    rw (e, le-ltb D (2 * sum_below y D) (omega (arith, distance_from_zeros D y hy, rw e at few))))
    (λ (l : 0 < b).
    let one : b ≡ 1 = omega arith in
    rw (one, lt-ltb D (2 * sum_below y D) (omega (arith, distance_from_ones D y hy, rw one at few))))
    (eq-zero-or-pos b)

-- the majority of bits reads as the parity
majority_reads : (D : ℕ) (y : ℕ → ℕ) → ((p : ℕ) → y p < 2) → ReadsParity D everywhere y (majority D y)
unfolding majority
majority_reads D y hy =
    record {
      bit = by_test (λ b. b < 2) (ltb D (2 * sum_below y D)) (λ _. omega arith) (λ _. omega arith);
      reads = λ b u hb hu few. separator_reads D b u y hb hu hy (omega (arith, all_unerased D u y));
    }

module _ (C : Code) (promise : ChunkPromise C) where
  -- by the promise of plain chunks alone
  plain_sees_chunk : (chunk : ℕ → ℕ) → SeesChunk C everywhere chunk (chunk_reading C chunk)
  plain_sees_chunk chunk =
      record { reader = chunk_reading C; keeps = plain_as_unerased C promise.D-pos promise.plain; answers = refl }

  pub plain_sees_chunks : (x : ℕ → ℕ) → SeesChunks C everywhere x (seen C x)
  unfolding seen
  plain_sees_chunks x = record { first = plain_sees_chunk _; second = plain_sees_chunk _ }

  pub plain_sees : {x : ℕ → ℕ} → ((p : ℕ) → x p < 2) → Sees C everywhere x (seen C x)
  unfolding seen places_before chunk_size
  plain_sees {x} hx =
      record {
        chunks = plain_sees_chunks x;
        separator₁ =
            rw (← ap (majority C.D) (from_place_zero x)) (majority_reads C.D (from_place 0 x) (λ p. hx _));
        separator₂ = majority_reads C.D _ (λ p. hx _);
        separator₃ = majority_reads C.D _ (λ p. hx _);
      }

  -- a chunk with at most t damaged bits has 2 × wrong + erased below D
  pub within_radius_below : (u x : ℕ → ℕ) (c : ℕ) → damaged_in C c u x ≤ radius C → ChunkBelowD C everywhere u x c
  unfolding damaged_in wrong_in erased_in
  within_radius_below u x c h =
      omega (
        arith,
        promise.D-pos,
        none_erased (chunk_of C c everywhere) (chunk_size C.D C.n c) (λ p b. refl),
        all_unerased (chunk_size C.D C.n c) (chunk_of C c u) (chunk_of C c x),
      )

-- the residual is that of a word with nothing erased
pub plain_residual : (C : Code) (x : ℕ → ℕ) → residual C x ≡ residual_unerased C everywhere x
unfolding residual residual_unerased distance distance_unerased
plain_residual C x = refl
