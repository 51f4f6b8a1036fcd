-- How a true word reads, by what is seen of it, whichever chunk is divided and however that one reads: the separators name a rule that
-- names whole chunks only. Four cases, each with its rule, what the named chunks read as, the parity that a separator has, and
-- where the word stands on the way from number i to number j. Neither a code nor a position is needed here. Assumes nothing.
use mathlib.Core.Path.{◌≡◌, sym, ◌∙◌}
use mathlib.Core.Logic.{◌⊎◌, inl, inr, ⊎_elim}
use Prim.Native.Nat.{ℕ, ◌+◌, ◌*◌, ◌%◌, ◌≤◌, ◌<◌}
use native.Mathlib.Omega.{arith}
use Rattle.bits.specs.Sums.{difference}
use Rattle.bits.proofs.Numbers.{lt_or_le, eq_or_ne}
use Rattle.model.specs.Words.{chunk_size, places_before}
use Rattle.model.specs.Reading.{Seen, rule_seen}
use Rattle.position_theory.specs.SeenChunks.{ReadsAs}
use Rattle.position_theory.proofs.Separators.{rule₁_named, rule₂_named, rule₃_named}
use Rattle.position_theory.proofs.WholeChunks.{ChunkReads, WholeChunksRead}

pub data TrueCase (D A i j m : ℕ) (s : Seen) : Type 0 where
  -- rule 3 around w(i)
  around_first : rule_seen s ≡ 3 → ReadsAs s.read₁ i → ReadsAs s.read₂ i → s.s₁ ≡ i % 2 → m ≤ D → TrueCase D A i j m s
  -- rule 2 from w(i) on
  first_part : rule_seen s ≡ 2 → ReadsAs s.read₂ i → s.s₃ ≡ i % 2 → m ≤ 2 * D + A → TrueCase D A i j m s
  -- rule 1 up to w(j)
  last_part : rule_seen s ≡ 1 → ReadsAs s.read₁ j → s.s₁ ≡ j % 2 → D + A ≤ m → TrueCase D A i j m s
  -- rule 3 around w(j)
  around_last : rule_seen s ≡ 3 → ReadsAs s.read₁ j → ReadsAs s.read₂ j → s.s₁ ≡ j % 2 → 2 * D + 2 * A ≤ m
      → TrueCase D A i j m s

module _ {D A i j m : ℕ} {s : Seen} (parities : difference (i % 2) (j % 2) ≡ 1) (w : WholeChunksRead D A i j m s) where
  -- a separator reads as one parity or as the other
  either : (b : ℕ) → b < 2 → (b ≡ i % 2) ⊎ (b ≡ j % 2)
  either b h = ⊎_elim inl (λ (ne : b ≡ i % 2 → ⊥). inr (omega arith)) (eq_or_ne b (i % 2))

  differ : {a b : ℕ} → a ≡ j % 2 → b ≡ i % 2 → a ≡ b → ⊥
  differ e e' same = omega arith

  -- by the chunk that is divided
  in_separator₁ : m < D → TrueCase D A i j m s
  unfolding ChunkReads places_before chunk_size
  in_separator₁ h =
      let second : s.s₂ ≡ i % 2 = w.ahead 2 (omega arith) (omega arith) in
      let third : s.s₃ ≡ i % 2 = w.ahead 4 (omega arith) (omega arith) in
      let read₂ : ReadsAs s.read₂ i = w.ahead 3 (omega arith) (omega arith) in
      ⊎_elim
      (λ (old : s.s₁ ≡ i % 2).
      around_first (rule₃_named (old ∙ sym second) (second ∙ sym third)) (w.ahead 1 (omega arith) (omega arith)) read₂ old
      (omega arith))
      (λ (new : s.s₁ ≡ j % 2). first_part (rule₂_named (differ new second) (second ∙ sym third)) read₂ third (omega arith))
      (either s.s₁ w.bit₁)

  in_chunk₁ : D ≤ m → m < D + A → TrueCase D A i j m s
  unfolding ChunkReads places_before chunk_size
  in_chunk₁ l h =
      let second : s.s₂ ≡ i % 2 = w.ahead 2 (omega arith) (omega arith) in
      let third : s.s₃ ≡ i % 2 = w.ahead 4 (omega arith) (omega arith) in
      first_part (rule₂_named (differ (w.passed 0 (omega arith) l) second) (second ∙ sym third))
      (w.ahead 3 (omega arith) (omega arith)) third (omega arith)

  in_separator₂ : D + A ≤ m → m < D + A + D → TrueCase D A i j m s
  unfolding ChunkReads places_before chunk_size
  in_separator₂ l h =
      let first : s.s₁ ≡ j % 2 = w.passed 0 (omega arith) (omega arith) in
      let third : s.s₃ ≡ i % 2 = w.ahead 4 (omega arith) (omega arith) in
      ⊎_elim
      (λ (old : s.s₂ ≡ i % 2).
      first_part (rule₂_named (differ first old) (old ∙ sym third)) (w.ahead 3 (omega arith) (omega arith)) third (omega arith))
      (λ (new : s.s₂ ≡ j % 2).
      last_part (rule₁_named (first ∙ sym new) (differ new third)) (w.passed 1 (omega arith) l) first l)
      (either s.s₂ w.bit₂)

  in_chunk₂ : D + A + D ≤ m → m < D + A + D + A → TrueCase D A i j m s
  unfolding ChunkReads places_before chunk_size
  in_chunk₂ l h =
      let first : s.s₁ ≡ j % 2 = w.passed 0 (omega arith) (omega arith) in
      let second : s.s₂ ≡ j % 2 = w.passed 2 (omega arith) l in
      last_part (rule₁_named (first ∙ sym second) (differ second (w.ahead 4 (omega arith) (omega arith))))
      (w.passed 1 (omega arith) (omega arith)) first (omega arith)

  in_separator₃ : D + A + D + A ≤ m → TrueCase D A i j m s
  unfolding ChunkReads places_before chunk_size
  in_separator₃ l =
      let first : s.s₁ ≡ j % 2 = w.passed 0 (omega arith) (omega arith) in
      let second : s.s₂ ≡ j % 2 = w.passed 2 (omega arith) (omega arith) in
      let read₁ : ReadsAs s.read₁ j = w.passed 1 (omega arith) (omega arith) in
      ⊎_elim
      (λ (old : s.s₃ ≡ i % 2). last_part (rule₁_named (first ∙ sym second) (differ second old)) read₁ first (omega arith))
      (λ (new : s.s₃ ≡ j % 2).
      around_last (rule₃_named (first ∙ sym second) (second ∙ sym new)) read₁ (w.passed 3 (omega arith) l) first (omega arith))
      (either s.s₃ w.bit₃)

  pub true_case : TrueCase D A i j m s
  true_case =
      ⊎_elim in_separator₁
      (λ (h₁ : D ≤ m). ⊎_elim (in_chunk₁ h₁)
      (λ (h₂ : D + A ≤ m). ⊎_elim (in_separator₂ h₂)
      (λ (h₃ : D + A + D ≤ m). ⊎_elim (in_chunk₂ h₃) in_separator₃
      (lt_or_le m (D + A + D + A)))
      (lt_or_le m (D + A + D)))
      (lt_or_le m (D + A)))
      (lt_or_le m D)
