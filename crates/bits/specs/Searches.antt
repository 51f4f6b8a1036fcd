-- Plain searches over numbers: whether a test ever holds, where it first does and where it last does, and where a count is least.
-- Assumes nothing.
use Rattle.std.specs.Prelude.{Bool, false, cond, ◌||◌, ℕ, zero, suc, ◌+◌, ltb}

-- whether the test holds of some number below m
unfoldable pub any_below : (f : ℕ → Bool) (m : ℕ) → Bool
any_below f zero = false
any_below f (suc m) = any_below f m || f m

-- the first of the numbers from, …, from + m - 1 of which the test holds, or from + m
unfoldable pub first_from : (f : ℕ → Bool) (from m : ℕ) → ℕ
first_from f from zero = from
first_from f from (suc m) = let later = first_from f (suc from) m in cond (f from) from later

-- the first number below m of which the test holds, or m
unfoldable pub first : (f : ℕ → Bool) (m : ℕ) → ℕ
unfolding first_from
first f m = first_from f 0 m

-- the one of the numbers from, …, from + m at which f is least: the smallest such number on a tie
unfoldable pub least_at : (f : ℕ → ℕ) (from m : ℕ) → ℕ
least_at f from zero = from
least_at f from (suc m) = let before = least_at f from m in cond (ltb (f (from + suc m)) (f before)) (from + suc m) before

-- the greatest of the numbers 1, …, m of which the test holds, or 0
unfoldable pub greatest : (f : ℕ → Bool) (m : ℕ) → ℕ
greatest f zero = 0
greatest f (suc m) = let below = greatest f m in cond (f (suc m)) (suc m) below
