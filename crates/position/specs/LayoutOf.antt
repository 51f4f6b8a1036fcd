-- The layout of a code's words. Assumes nothing.
use Rattle.std.specs.Prelude.{◌≡◌, ◌+◌, ◌≤◌}
use Rattle.model.specs.Card.{Code}
use Rattle.model.specs.Words.{word_bits}
use Rattle.position.specs.declared.layout.Layout.{Layout}

pub record LayoutOf (C : Code) (l : Layout) : Type 0 where
  pub chunk₁_at : l.chunk1 ≡ C.D
  pub separator₂_at : l.separator2 ≡ C.D + C.n
  pub chunk₂_at : l.chunk2 ≡ C.D + C.n + C.D
  pub separator₃_at : l.separator3 ≡ C.D + C.n + C.D + C.n
  pub bits_are : l.bits ≡ word_bits C
  -- bounds of the code, for sums that must fit
  pub fits : word_bits C ≤ 320
  pub separator_fits : C.D ≤ 64
  pub chunk_fits : C.n ≤ 64
