-- `position::blocks::changed_weight` meets its contract: the row that changes after codeword i is the one of the lowest 1 of i + 1, one of
-- the k; a row that is narrow has all its ones in the first n bits. Assumes nothing.
use mathlib.Core.Path.{◌≡◌, sym, ap, ◌∙◌}
use Prim.Native.Nat.{ℕ, ◌+◌, ◌<◌}
use native.Mathlib.Omega.{arith}
use lib.Count.{count_trailing_zeros}
use Rattle.bits.specs.Places.{weight}
use Rattle.bits.proofs.Binary.{weight_le}
use Rattle.model.specs.Card.{Code}
use Rattle.model.specs.Decoded.{meaning}
use Rattle.model.specs.Order.{last_codeword, changed_row, changed_weight}
use Rattle.code_theory.specs.Promise.{Sound}
use Rattle.code_theory.proofs.Codewords.{changed_row_lem, changed_row_below}
use Rattle.code_theory.proofs.Starts.{last_codeword_bound}
use Rattle.position.proofs.blocks.changed_weight.Goals as goal

module _ (C : Code) (sound : Sound C) (i : ℕ) (inside : i < last_codeword C) where
  -- the row that changes, by the count of trailing zeros, at 32 bits
  is_changed : changed_row C i ≡ count_trailing_zeros 32 (i + 1)
  is_changed = changed_row_lem C i inside 32 (omega (arith, last_codeword_bound C sound))

  of_twelve : count_trailing_zeros 32 (i + 1) < 12
  of_twelve = rw (← is_changed) (omega (arith, changed_row_below C i inside, sound.k_high))

  weighed : weight C.n (C.row (count_trailing_zeros 32 (i + 1))) ≡ changed_weight C i
  unfolding changed_weight
  weighed = ap (λ (z : ℕ). weight C.n (C.row z)) (sym is_changed)

pub overflow_add-z : goal.overflow_add-z
overflow_add-z c = omega (arith, c.requires, last_codeword_bound (meaning c.args.code) c.args.code.sound)

pub bounds-rows-z : goal.bounds-rows-z
bounds-rows-z c = of_twelve (meaning c.args.code) c.args.code.sound _ c.requires

pub returns : goal.returns
returns c =
    let C = meaning c.args.code in
    let sound = c.args.code.sound in
    let is = c.row_weight.ensures C.n (sound.narrow _ (of_twelve C sound _ c.requires)) in
    (is ∙ weighed C sound _ c.requires, omega (arith, is, weight_le C.n (C.row (count_trailing_zeros 32 (c.args.i + 1))), sound.n_high))
