-- `report::text::Text::put_number` meets its contract: std's decimal text of a number is that of the contract, and a number of 64 bits
-- has at most 20 digits. Assumes nothing.
use Rattle.std.proofs.Common.{◌≡◌, ◌∙◌, arith}
use Rattle.report.specs.Text.{decimal}
use Rattle.report.proofs.Decimal.{decimal_printed}
use Rattle.report.proofs.Puts.{puts_within}
use Rattle.report.proofs.text.Text.put_number.Goals as goal

pub returns : goal.returns
returns c =
    let digits : c.as_bytes.result.now ≡ decimal c.args.value =
    c.as_bytes.ensures.value ∙ c.format.ensures.text ∙ decimal_printed c.args.value (omega arith) in
    rw (← digits) (puts_within c.put_bytes.ensures (omega (arith, c.format.ensures.fits)))
