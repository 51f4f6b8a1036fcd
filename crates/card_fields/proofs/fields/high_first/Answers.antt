-- `card_fields::fields::high_first` meets its contract: the m bytes are the last of eight, behind zeros. Assumes nothing.
use Prim.Native.Nat.{◌+◌, ◌-◌}
use mathlib.Core.Path.{◌≡◌, ◌∙◌}
use native.Mathlib.Omega.{arith}
use Rattle.card_fields.proofs.BytesRead.{written_last, number_below}
use Rattle.card_fields.proofs.fields.high_first.Goals as goal

pub returns : goal.returns
returns c =
    let card = c.args.card.now in
    let at = c.args.at in
    let m = c.args.m in
    let count : at + m - at ≡ m = omega arith in
    let part = rw count at c.copy_from_slice.ensures.after in
    let number = c.from_be_bytes.ensures ∙ written_last card c.copy_from_slice.new.self at m (8 - m) _ (omega arith) c.requires.0 part in
    (number, rw number (number_below card at m (λ i. omega (arith, c.type_inv.card i))))
