-- The walk from one bit function to another, one differing place a step. Assumes nothing.
use Rattle.std.specs.Prelude.{cond, ◌&&◌, ℕ, ltb, eqb}
use Rattle.bits.specs.Sums.{distance, difference}

-- u with the first m places in which u and v differ taken from v: place p is one of them if u and v differ there and in
-- fewer than m places before it
unfoldable pub walk : (u v : ℕ → ℕ) (m p : ℕ) → ℕ
walk u v m p = cond (eqb (difference (u p) (v p)) 1 && ltb (distance p u v) m) (v p) (u p)
