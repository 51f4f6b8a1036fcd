-- `card_fields::zeros::too_wide` meets its contract: a row has a bit at n or above just where it is 2^n or more, and then it is not 0
-- shifted down by n. From n = 64 on no row of 64 bits has one. Assumes nothing.
use Rattle.std.proofs.Common.{sym, ◌∙◌}
use borrow.Author.Tests.{lt-leb, le-ltb}
use native.Mathlib.Nat.{lt_of_lt_of_le}
use lib.Pow.{pow_mono}
use Rattle.card_fields.proofs.CardRows.{wide_by_shift}
use Rattle.card_fields.proofs.zeros.too_wide.Goals as goal

pub returns-then-n-lt64 : goal.returns-then-n-lt64
returns-then-n-lt64 c = wide_by_shift c.args.n c.args.row

pub returns-else-n-lt64 : goal.returns-else-n-lt64
returns-else-n-lt64 c =
    le-ltb _ 64 c.if-n-lt64.false
    ∙ sym (lt-leb _ _ (lt_of_lt_of_le c.ranges.row.fits (pow_mono {i = 64} {j = c.args.n} c.if-n-lt64.false)))
