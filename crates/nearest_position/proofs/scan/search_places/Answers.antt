-- `nearest_position::scan::search_places` meets its contract: the search begins at the position whose word is put together of the two
-- words, and passes the places from there. Assumes nothing.
use mathlib.Core.Path.{◌≡◌, refl, ap, ◌∙◌}
use Rattle.nearest_position.specs.Scanned.{begins_at}
use Rattle.nearest_position.specs.Passing.{residual_to}
use Rattle.nearest_position.proofs.Passing.{residual_counted, searched}
use Rattle.nearest_position.proofs.scan.search_places.Goals.{After-begin}
use Rattle.nearest_position.proofs.scan.search_places.Goals as goal

-- the search as it begins
begun : (c : After-begin)
    → let args = c.args in
    c.begin.result ≡ begins_at args.low (residual_to args.u args.v args.x args.at)
begun c =
    let args = c.args in
    c.begin.ensures ∙ ap (begins_at args.low) (residual_counted _ _ _ _ c.spliced-w.ensures args.x)

pub pass_places-requires : goal.pass_places-requires
pass_places-requires c =
    rw (begun c) (c.requires.0, c.requires.1, c.requires.2, refl)

pub returns : goal.returns
returns c = searched _ _ _ _ _ _ c.requires.0 _ _ (begun (goal.at.returns c).After-begin) c.pass_places.ensures
