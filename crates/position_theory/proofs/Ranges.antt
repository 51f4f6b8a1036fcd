-- Any words by position, and any residual, of no code at all. On a range whose words differ in as many bits as the positions in
-- steps (isometric), two positions are no further apart than their residuals and the erased places together, by the triangle inequality; so
-- the nearest position of the range is off by at most the residuals of it and of the true one, and the erased places. Assumes nothing.
use mathlib.Core.Path.{◌≡◌}
use mathlib.Core.Bool.{Bool}
use mathlib.Core.Logic.{⊎_elim}
use Prim.Native.Nat.{ℕ, ◌+◌, ◌-◌, ◌≤◌, ◌<◌}
use native.Mathlib.Nat.{add-sub_of_le}
use native.Mathlib.Omega.{arith}
use Rattle.bits.specs.Sums.{distance, distance_unerased, erased_below}
use Rattle.bits.proofs.Numbers.{lt_or_le}
use Rattle.bits.proofs.Distance.{distance_comm}
use Rattle.bits.proofs.Erasures.{unerased_triangle}
use Rattle.bits.proofs.Searches.{least_at_low, least_at_high, least_at_least, least_at_first}
use Rattle.model.specs.Reading.{Seen, Range, nearest_in, nearest_reading}
use Rattle.position_theory.specs.Damage.{Near, residual_of}
use Rattle.std.specs.Prelude.{Ok}

-- of two positions from low to high the words, of d places, differ in as many bits as the positions in steps
unfoldable pub Isometric : (d : ℕ) (words : ℕ → ℕ → ℕ) (low high : ℕ) → Type 0
Isometric d words low high = (q q' : ℕ) → low ≤ q → q ≤ q' → q' ≤ high → distance d (words q) (words q') + q ≡ q'

module _ (d : ℕ) (words : ℕ → ℕ → ℕ) where
  -- a part of such a range is one
  pub isometric_part : (low high : ℕ) {low' high' : ℕ} → Isometric d words low high → low ≤ low' → high' ≤ high
      → Isometric d words low' high'
  unfolding Isometric
  isometric_part low high far l h q q' a b c = far q q' (omega arith) b (omega arith)

  -- two positions of a range, in either order, are at most as far apart as their words
  pub steps_apart : (low high q q' : ℕ) → Isometric d words low high → low ≤ q → q ≤ high → low ≤ q' → q' ≤ high
      → q ≤ q' + distance d (words q) (words q')
  unfolding Isometric
  steps_apart low high q q' far l h l' h' =
      ⊎_elim
      (λ (b : q < q'). omega arith)
      (λ (b : q' ≤ q). omega (arith, far q' q l' b h, distance_comm d (words q) (words q')))
      (lt_or_le q q')

-- a range that is not empty, of positions up to the last, and isometric
pub record IsometricRange (d : ℕ) (words : ℕ → ℕ → ℕ) (last : ℕ) (range : Range) : Type 0 where
  pub some : range.low ≤ range.high
  pub on_track : range.high ≤ last
  pub isometric : Isometric d words range.low range.high

-- no two words are further apart than their residuals and so many erased places together
abbrev pub WithinResiduals : (d : ℕ) (words : ℕ → ℕ → ℕ) (residual : ℕ → ℕ) (erased : ℕ) → Type 0
WithinResiduals d words residual erased = (q q' : ℕ) → distance d (words q) (words q') ≤ residual q + residual q' + erased

-- which holds of the residuals that count the unerased bits in which a word differs from x
pub counted_residuals : (unerased : ℕ → Bool) (d : ℕ) (words : ℕ → ℕ → ℕ) (x : ℕ → ℕ)
    → WithinResiduals d words (λ q. distance_unerased unerased d (words q) x) (erased_below unerased d)
counted_residuals unerased d words x q q' = unerased_triangle unerased d (words q) (words q') x

-- q is the nearest position of a range: none of the range has a smaller residual, and none before it as small a one
pub record NearestIn (residual : ℕ → ℕ) (range : Range) (q : ℕ) : Type 0 where
  pub from_low : range.low ≤ q
  pub to_high : q ≤ range.high
  pub none_nearer : (q' : ℕ) → range.low ≤ q' → q' ≤ range.high → residual q ≤ residual q'
  pub none_smaller : (q' : ℕ) → range.low ≤ q' → q' < q → residual q < residual q'

pub nearest_in_lem : (residual : ℕ → ℕ) (range : Range) → range.low ≤ range.high
    → NearestIn residual range (nearest_in residual range)
unfolding nearest_in
nearest_in_lem residual range h =
    let low = range.low in
    let steps = range.high - range.low in
    let all : low + steps ≡ range.high = add-sub_of_le h in
    record {
      from_low = least_at_low residual low steps;
      to_high = rw all at (least_at_high residual low steps);
      none_nearer = λ q l b. least_at_least residual low steps q l (rw all b);
      none_smaller = λ q l b. least_at_first residual low steps q l b;
    }

-- the answer to a range that holds the true position is as near to it as the two residuals and the erased places say, and its own residual
-- is no larger than that of the true position
module _ (d : ℕ) (words : ℕ → ℕ → ℕ) (residual : ℕ → ℕ) (erased : ℕ) (within : WithinResiduals d words residual erased) where
  pub answer_off_by : (s : Seen) (rule : ℕ) (range : Range) → Isometric d words range.low range.high
      → (position : ℕ) → range.low ≤ position → position ≤ range.high
      → let answer = Ok (nearest_reading residual s rule range) in
      Near answer position (residual position + residual_of answer + erased) × (residual_of answer ≤ residual position)
  unfolding nearest_reading Near residual_of
  answer_off_by s rule range far position l h =
      let q : ℕ = nearest_in residual range in
      let n = nearest_in_lem residual range (omega arith) in (
        (
          omega (arith, steps_apart d words _ _ q position far n.from_low n.to_high l h, within q position),
          omega (arith, steps_apart d words _ _ position q far l h n.from_low n.to_high, within position q),
        ),
        n.none_nearer position l h,
      )
