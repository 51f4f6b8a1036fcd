-- `dunnavish::yards::yard_lent` meets its contract: either array is the list of what the definition reads at each place. Assumes nothing.
use Rattle.std.proofs.Common.{rules}
use Rattle.model.specs.Yard.{track_count, most_waiting, free_slot, no_entry}
use Rattle.dunnavish.specs.YardNumbers.{slot_lent, entry_lent, yard_lent}
use Rattle.dunnavish.proofs.FromFn.{from_fn_list}
use Rattle.dunnavish.proofs.yards.yard_lent.Goals as goal

pub returns : goal.returns
unfolding yard_lent
returns c =
    let numbers = c.args.numbers.now in
    let slots =
    from_fn_list _ _ (slot_lent numbers) (λ i y q called. search rules) (λ i y q called. search rules) free_slot _ track_count
    c.from_fn.ensures.items in
    let entries =
    from_fn_list _ _ (entry_lent numbers) (λ i y q called. search rules) (λ i y q called. search rules) no_entry _ most_waiting
    c.from_fn-2.ensures.items in
    rw (slots, c.from.ensures, entries)
