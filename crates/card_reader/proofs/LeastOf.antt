-- The least of some numbers and a start: with no number it is the start, one number more takes one minimum more, and it is the same of a
-- function that has the same values from some place on. Assumes nothing.
use mathlib.Core.Path.{◌≡◌}
use mathlib.Core.Logic.{⊎_elim}
use Prim.Native.Nat.{ℕ, ◌+◌, ◌-◌, ◌≤◌, ◌<◌, min}
use native.Mathlib.Omega.{arith}
use Rattle.bits.proofs.Numbers.{eq_or_ne}
use Rattle.card_reader.specs.LeastOf.{LeastOf}

module _ (f : ℕ → ℕ) (from : ℕ) where
  pub least_of_none : (start : ℕ) → LeastOf f from from start start
  least_of_none start = (omega arith, λ j l m. omega arith, λ b l all. l)

  pub least_of_more : (end start least least' : ℕ) → from ≤ end → LeastOf f from end start least → least' ≡ min least (f end)
      → LeastOf f from (end + 1) start least'
  least_of_more end start least least' l (high, le, greatest) is-min = (
    omega arith,
    λ j lo hi.
        ⊎_elim (λ (last : j ≡ end). rw last (omega arith))
        (λ (other : j ≡ end → ⊥). let before : least ≤ f j = le j lo (omega arith) in omega arith)
        (eq_or_ne j end),
    λ b hi all.
        let before : b ≤ least = greatest b hi (λ j lo m. all j lo (omega arith)) in
        let last : b ≤ f end = all end l (omega arith) in
        omega arith,
  )

-- m numbers of f are those of g from place `from` on
pub least_of_part : (f g : ℕ → ℕ) (from m end start least : ℕ) → from + m ≡ end → ((j : ℕ) → j < m → f j ≡ g (from + j))
    → LeastOf f 0 m start least → LeastOf g from end start least
least_of_part f g from m end start least is_end same (high, le, greatest) = (
  high,
  λ j lo hi.
      let place : from + (j - from) ≡ j = omega arith in
      let here : f (j - from) ≡ g j = rw place at (same (j - from) (omega arith)) in
      rw (← here) (le (j - from) (omega arith) (omega arith)),
  λ b hi all. greatest b hi (λ j lo m. rw (same j m) (all (from + j) (omega arith) (omega arith))),
)
