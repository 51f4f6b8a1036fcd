-- The rule that three separators name, as tests on what they read: one of three, or none. Assumes nothing.
use mathlib.Core.Path.{◌≡◌}
use Prim.Native.Nat.{ℕ}
use borrow.Author.Tests.{eq-eqb, ne_eqb}
use lib.Dec.{eqb}
use Rattle.bits.proofs.Numbers.{by_test}
use Rattle.model.specs.Reading.{rule_of}

module _ {s₁ s₂ s₃ : ℕ} where
  pub rule₁_named : s₁ ≡ s₂ → (s₂ ≡ s₃ → ⊥) → rule_of s₁ s₂ s₃ ≡ 1
  unfolding rule_of
  rule₁_named e ne = rw (eq-eqb s₁ s₂ e, ne_eqb s₂ s₃ ne)

  pub rule₂_named : (s₁ ≡ s₂ → ⊥) → s₂ ≡ s₃ → rule_of s₁ s₂ s₃ ≡ 2
  unfolding rule_of
  rule₂_named ne e = rw (ne_eqb s₁ s₂ ne, eq-eqb s₂ s₃ e)

  pub rule₃_named : s₁ ≡ s₂ → s₂ ≡ s₃ → rule_of s₁ s₂ s₃ ≡ 3
  unfolding rule_of
  rule₃_named e e' = rw (eq-eqb s₁ s₂ e, eq-eqb s₂ s₃ e')

  pub none_named : (s₁ ≡ s₂ → ⊥) → (s₂ ≡ s₃ → ⊥) → rule_of s₁ s₂ s₃ ≡ 0
  unfolding rule_of
  none_named ne ne' = rw (ne_eqb s₁ s₂ ne, ne_eqb s₂ s₃ ne')

-- what holds of 0, 1, 2 and 3 holds of the rule that separators name
pub of_every_rule : (P : ℕ → Type 0) → P 0 → P 1 → P 2 → P 3 → (s₁ s₂ s₃ : ℕ) → P (rule_of s₁ s₂ s₃)
unfolding rule_of
of_every_rule P p₀ p₁ p₂ p₃ s₁ s₂ s₃ =
    by_test P (eqb s₁ s₂) (λ _. by_test P (eqb s₂ s₃) (λ _. p₃) (λ _. p₁)) (λ _. by_test P (eqb s₂ s₃) (λ _. p₂) (λ _. p₀))
