-- What it is to put a text behind what a buffer is filled with. Assumes nothing.
use Rattle.std.specs.Prelude.{ℕ, ◌≡◌, ◌+◌, ◌≤◌, List, ◌++◌, length, drop}
use Rattle.report.specs.Filled.{Filled, capacity}

-- `before` with the text put behind it, over the bytes that stood there, is `after`: the same buffer, in which the text takes no more
-- than `most` bytes
pub record Puts (before : Filled) (text : List ℕ) (most : ℕ) (after : Filled) : Type 0 where
  pub bytes : after.text ≡ before.text ++ text
  pub beyond : after.rest ≡ drop (length text) before.rest
  pub short : length after.text ≤ length before.text + most
  pub same_capacity : capacity after ≡ capacity before
  pub same_buffer : after.lent ≡ before.lent
