-- `nearest_position::scan::Scan::advance` meets its contract: where the new residual is below the least so far, the new position is the
-- nearest, and otherwise the nearest is what it was; a law of `Scanned` says either. Assumes nothing.
use Rattle.nearest_position.proofs.Scanning.{scanned_nearer, scanned_no_nearer}
use Rattle.nearest_position.proofs.scan.Scan.advance.Goals as goal

pub returns-then-residual-self-clause-scanned : goal.returns-then-residual-self-clause-scanned
returns-then-residual-self-clause-scanned c f scanned next = scanned_nearer f _ scanned _ next c.if-residual-self.true

pub returns-else-residual-self-clause-scanned : goal.returns-else-residual-self-clause-scanned
returns-else-residual-self-clause-scanned c f scanned next = scanned_no_nearer f _ scanned _ next c.if-residual-self.false
