-- A search for the nearest position: as it stands at its first one; and one position further, which is the nearest if its residual is
-- below the least so far, and otherwise the nearest is what it was. Assumes nothing.
use mathlib.Core.Path.{◌≡◌}
use Prim.Native.Nat.{ℕ, ◌+◌, ◌-◌, ◌≤◌, ◌<◌}
use native.Mathlib.Nat.{sub_self}
use native.Mathlib.Omega.{arith}
use borrow.Author.Tests.{lt-ltb, le-ltb}
use Rattle.bits.specs.Searches.{least_at}
use Rattle.bits.proofs.Searches.{least_at_next}
use Rattle.nearest_position.specs.declared.scan.Scan.{Scan}
use Rattle.nearest_position.specs.Scanned.{Scanned, begins_at}

-- a search that stands at its first position
pub scanned_first : (f : ℕ → ℕ) (low residual : ℕ) → residual ≡ f low → Scanned f (begins_at low residual)
unfolding least_at
scanned_first f low residual e =
    record { begun = omega arith; here = e; nearest = rw (sub_self low); least = e }

-- one position further
module _ (f : ℕ → ℕ) (s : Scan) (scanned : Scanned f s) (residual : ℕ) (next : residual ≡ f (s.position + 1)) where
  least_so_far : s.least ≡ f (least_at f s.low (s.position - s.low))
  least_so_far = rw (← scanned.nearest) scanned.least

  pub scanned_nearer : residual < s.least
      → Scanned f (record { low = s.low; position = s.position + 1; residual = residual; best = s.position + 1; least = residual })
  scanned_nearer h =
      record {
        begun = omega arith;
        here = next;
        nearest = rw (least_at_next f s.low s.position scanned.begun, ← next, ← least_so_far, lt-ltb residual s.least h);
        least = next;
      }

  pub scanned_no_nearer : s.least ≤ residual
      → Scanned f (record { low = s.low; position = s.position + 1; residual = residual; best = s.best; least = s.least })
  scanned_no_nearer h =
      record {
        begun = omega arith;
        here = next;
        nearest =
            rw (least_at_next f s.low s.position scanned.begun, ← next, ← least_so_far, le-ltb residual s.least h)
            scanned.nearest;
        least = scanned.least;
      }
