-- A buffer whose front is filled with a text. Assumes nothing.
use Rattle.std.specs.Prelude.{ℕ, ◌+◌, List, [], ◌++◌, length, take, drop}
use Rattle.std.specs.Borrow.{GName}
use Rattle.report.specs.declared.text.Text.{Text}

-- the bytes of the text, those behind it, and which buffer it is: the name of the loan of it
pub record Filled : Type 0 where
  pub text : List ℕ
  pub rest : List ℕ
  pub lent : GName

-- the lent buffer of a `Text`, as far as it is filled
abbrev pub filled_of : Text → Filled
filled_of t = record { text = take t.filled t.buffer.now; rest = drop t.filled t.buffer.now; lent = t.buffer.ghost_name }

-- how many bytes the buffer has
abbrev pub capacity : Filled → ℕ
capacity b = length b.text + length b.rest

-- the same buffer, filled with nothing
abbrev pub unfilled : Filled → Filled
unfilled b = record { text = []; rest = b.text ++ b.rest; lent = b.lent }
