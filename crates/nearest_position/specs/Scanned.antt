-- What a search for the nearest position knows where it stands. Assumes nothing.
use Rattle.std.specs.Prelude.{◌≡◌, ℕ, ◌-◌, ◌≤◌}
use Rattle.bits.specs.Searches.{least_at}
use Rattle.model.specs.Reading.{Range}
use Rattle.nearest_position.specs.declared.scan.Scan.{Scan}

-- of the positions from low to the present one, best is the first at which f is least
pub record Scanned (f : ℕ → ℕ) (s : Scan) : Type 0 where
  pub begun : s.low ≤ s.position
  pub here : s.residual ≡ f s.position
  pub nearest : s.best ≡ least_at f s.low (s.position - s.low)
  pub least : s.least ≡ f s.best

-- it has come through all positions of a range
pub record SearchedRange (f : ℕ → ℕ) (range : Range) (s : Scan) : Type 0 where
  pub low_is : s.low ≡ range.low
  pub high_is : s.position ≡ range.high
  pub scanned : Scanned f s

-- a search that stands at its first position
abbrev pub begins_at : (low residual : ℕ) → Scan
begins_at low residual = record { low = low; position = low; residual = residual; best = low; least = residual }
