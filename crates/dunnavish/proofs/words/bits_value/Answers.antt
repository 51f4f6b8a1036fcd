-- `dunnavish::words::bits_value` meets its contract: the count, or the number that stands for a chunk that was not read. Assumes nothing.
use mathlib.Core.Path.{◌≡◌, refl, ◌∙◌}
use Prim.Native.Nat.{ℕ}
use Rattle.std.specs.Prelude.{Option, Some, None}
use Rattle.std.specs.Option.{unwrap_or}
use Rattle.model.specs.Reading.{not_read, bits_value}
use Rattle.dunnavish.proofs.words.bits_value.Goals as goal

told : (bits : Option ℕ) → unwrap_or bits not_read ≡ bits_value bits
unfolding bits_value
told (Some count) = refl
told None = refl

pub returns : goal.returns
returns c = c.unwrap_or.ensures ∙ told _
