-- The five chunks of a word as numbers, each with the word's bits from where the chunk starts. Assumes nothing.
use Rattle.std.specs.Prelude.{◌≡◌, ℕ, ◌+◌, ◌^◌, ◌<◌}
use Rattle.bits.specs.Places.{bit}

-- the value has the `len` bits of u from place `at` on, and no others
abbrev pub BitsFrom : (u : ℕ → ℕ) (at len value : ℕ) → Type 0
BitsFrom u at len value = (value < 2 ^ len) × ((p : ℕ) → p < len → bit value p ≡ u (at + p))

-- code chunks have n bits, and separators D
pub record FiveChunks (n D : ℕ) (u : ℕ → ℕ) (s₁ c₁ s₂ c₂ s₃ : ℕ) : Type 0 where
  pub separator₁_bits : BitsFrom u 0 D s₁
  pub chunk₁_bits : BitsFrom u D n c₁
  pub separator₂_bits : BitsFrom u (D + n) D s₂
  pub chunk₂_bits : BitsFrom u (D + n + D) n c₂
  pub separator₃_bits : BitsFrom u (D + n + D + n) D s₃
