use Rattle.std.proofs.Common.{◌+◌, rules, arith, get_or-take, get_or-drop}
use mathlib.Core.Path.{◌≡◌}
use lib.ListN.{take, drop, get_or}
use Rattle.bits.specs.Searches.{any_below}
use Rattle.model.specs.Card.{byte, unused_byte_set}
use Rattle.card_fields.proofs.BytesRead.{join_more}
use Rattle.card_fields.proofs.zeros.unused_byte_set.Goals as goal

pub loop-byte-init : goal.loop-byte-init
unfolding any_below
loop-byte-init c = search rules

pub loop-byte-preserved : goal.loop-byte-preserved
loop-byte-preserved c =
    let card = c.args.card.now in
    let loop = c.loop-byte in
    let here : get_or (take 406 (drop 104 card)) loop.byte-index 0 ≡ byte card (104 + loop.byte-index) =
    rw (get_or-take 406 (drop 104 card) loop.byte-index 0 (omega arith), get_or-drop 104 card loop.byte-index 0) in
    rw here (join_more (λ j. byte card (104 + j)) loop.joined loop.byte-index loop.invariant)

pub returns : goal.returns
unfolding unused_byte_set
returns c =
    let all : c.loop-byte.byte-index ≡ 406 = omega arith in
    rw (← all) c.loop-byte.invariant
