-- `yard::entries::without` meets its contract: all after the place are moved up by one, and the last place is emptied. Assumes nothing.
use Rattle.std.proofs.Common.{◌≡◌, suc, ◌+◌, ◌-◌, length, add-one, arith}
use Rattle.yard.proofs.EntryPlaces.{last_emptied}
use Rattle.yard.proofs.entries.without.Goals as goal

pub returns : goal.returns
returns c =
    let place = c.args.place in
    let more = length c.args.waiting - suc place in
    let last : 31 ≡ place + more = omega arith in
    rw (c.copy_within.ensures.after, last, add-one place) (last_emptied c.args.waiting place more (omega arith))
