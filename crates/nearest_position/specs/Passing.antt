-- A search passes the places of two words u and v, held in arrays of forty bytes: at each place in which they differ it comes one
-- position on, from u's bit to v's. Residuals are a function of the position that is known at the positions passed alone. No linear
-- code is needed here. Assumes nothing.
use Rattle.std.specs.Prelude.{◌≡◌, cond, List, ℕ, ◌+◌, ◌≤◌, ltb, eqb}
use Rattle.bits.specs.Sums.{difference, distance}
use Rattle.bits.specs.Places.{place}
use Rattle.nearest_position.specs.declared.received.ReceivedWord.{ReceivedWord}
use Rattle.nearest_position.specs.declared.scan.Scan.{Scan}
use Rattle.nearest_position.specs.Received.{received_distance}
use Rattle.nearest_position.specs.Scanned.{Scanned}

-- how many steps are made below place q
abbrev pub steps_to : (u v : List ℕ) (q : ℕ) → ℕ
steps_to u v q = distance q (place u) (place v)

-- the word at which the places below q have been passed: v below q, and u from there on
unfoldable pub passed_to : (u v : ℕ → ℕ) (q p : ℕ) → ℕ
passed_to u v q p = cond (ltb p q) (v p) (u p)

-- in how many of the unerased bits it differs from the received word
abbrev pub residual_to : (u v : List ℕ) → ReceivedWord → (q : ℕ) → ℕ
residual_to u v x q = received_distance 320 (passed_to (place u) (place v) q) x

-- what one place adds to that: 1 where it is unerased and the two bits differ
abbrev pub difference_unerased : (unerased a b : ℕ) → ℕ
difference_unerased unerased a b = cond (eqb unerased 1) (difference a b) 0

-- f is the residual at each position between two places, for a search that stands at `position` where it has passed those below `at`
unfoldable pub ResidualsAlong : (f : ℕ → ℕ) (u v : List ℕ) → ReceivedWord → (position at to : ℕ) → Type 0
ResidualsAlong f u v x position at to =
    (q p : ℕ) → at ≤ q → q ≤ to → p + steps_to u v at ≡ position + steps_to u v q → f p ≡ residual_to u v x q

-- the search s, which has passed the places below `at`, has become r, which has passed those below `to`
pub record Passes (u v : List ℕ) (x : ReceivedWord) (at to : ℕ) (s r : Scan) : Type 0 where
  pub low : r.low ≡ s.low
  pub position : r.position + steps_to u v at ≡ s.position + steps_to u v to
  pub residual : r.residual ≡ residual_to u v x to
  pub scanned : (f : ℕ → ℕ) → ResidualsAlong f u v x s.position at to → Scanned f s → Scanned f r

-- r has searched the positions from `low`, at which the places below `at` have been passed, to the one at which those below `to` have
pub record Searched (u v : List ℕ) (x : ReceivedWord) (low at to : ℕ) (r : Scan) : Type 0 where
  pub begun : r.low ≡ low
  pub position : r.position + steps_to u v at ≡ low + steps_to u v to
  pub scanned : (f : ℕ → ℕ) → ResidualsAlong f u v x low at to → Scanned f r
