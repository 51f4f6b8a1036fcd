-- The search for a position's block by halves: its block is known to be one of those from low to high. Assumes nothing.
use mathlib.Core.Path.{◌≡◌, sym}
use mathlib.Core.Logic.{⊎_elim}
use Prim.Native.Nat.{ℕ, ◌-◌, ◌≤◌, ◌<◌}
use native.Mathlib.Nat.{eq-or-lt_of_le}
use native.Mathlib.Omega.{arith}
use Rattle.model.specs.Card.{Code}
use Rattle.model.specs.Order.{last_codeword, start}
use Rattle.model.specs.Words.{block_of}
use Rattle.code_theory.specs.Promise.{Sound}
use Rattle.code_theory.proofs.Promise.{promise}
use Rattle.code_theory.proofs.Starts.{start_zero}
use Rattle.position_theory.proofs.Blocks.{block_is, starts_rise}

-- block low starts at or before the position, and every block after high past it
pub record BlockBetween (C : Code) (position low high : ℕ) : Type 0 where
  pub in_order : low ≤ high
  pub on_track : high ≤ last_codeword C
  pub started : start C low ≤ position
  pub past : (j : ℕ) → high < j → j ≤ last_codeword C → position < start C j

module _ (C : Code) (position : ℕ) where
  pub on_the_track : BlockBetween C position 0 (last_codeword C)
  on_the_track =
      record {
        in_order = omega arith;
        on_track = omega arith;
        started = omega (arith, start_zero C);
        past = λ j l b. absurd (omega arith);
      }

  module _ (low high middle : ℕ) (between : BlockBetween C position low high) where
    -- where the middle block starts past the position, so do all after it
    pub before_middle : Sound C → low < middle → middle ≤ high → position < start C middle → BlockBetween C position low (middle - 1)
    before_middle S l h past =
        record {
          in_order = omega arith;
          on_track = omega arith;
          started = between.started;
          past =
              λ j after b.
              ⊎_elim (λ (e : middle ≡ j). rw (← e) past)
              (λ (m : middle < j). omega (arith, starts_rise C (promise C S) middle j m b))
              (eq-or-lt_of_le {n = middle} {m = j} (omega arith));
        }

  -- where low and high meet, that is the last block that starts at or before the position
  pub block_found : (low high : ℕ) → high ≤ low → BlockBetween C position low high → low ≡ block_of C position
  block_found low high met between =
      sym (block_is C low position (omega arith) between.started (λ j l b. between.past j (omega arith) b))
