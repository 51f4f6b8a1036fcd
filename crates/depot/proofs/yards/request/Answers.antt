-- `depot::yards::request` meets its contract: the answer is the one that the definition gives, of which the clauses are theorems. Assumes
-- nothing.
use Rattle.std.proofs.Common.{arith}
use Rattle.depot.proofs.YardContract.{request_answered}
use Rattle.depot.proofs.yards.request.Goals as goal

pub returns : goal.returns
returns c = request_answered c.args.yard c.args.tram c.args.track (record { tracks = omega arith; places = omega arith }) c.request.ensures
