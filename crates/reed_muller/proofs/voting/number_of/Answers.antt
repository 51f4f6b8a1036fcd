use mathlib.Core.Path.{◌≡◌, refl, ap, ◌∙◌}
use Prim.Native.Nat.{ℕ, ◌/◌}
use native.Mathlib.Omega.{arith}
use lib.Bits.{bit_xor, xor_lt, xor_shr}
use Rattle.bits.proofs.Binary.{xor_assoc, xor_exchange, xor_undone}
use Rattle.model.specs.Order.{gray}
use Rattle.reed_muller.proofs.voting.number_of.Goals as goal

pub loop-rest-init : goal.loop-rest-init
unfolding gray
loop-rest-init c = (refl, λ k l. l, λ k l. omega arith)

-- one half more
added : (number rows rest : ℕ) → gray number ≡ bit_xor rows rest → gray (bit_xor number rest) ≡ bit_xor rows (rest / 2)
unfolding gray
added number rows rest before =
    rw (xor_shr number rest 1)
    (xor_exchange number rest (number / 2) (rest / 2)
    ∙ ap (λ (x : ℕ). bit_xor x (bit_xor rest (rest / 2))) before
    ∙ xor_assoc rows rest (bit_xor rest (rest / 2))
    ∙ ap (bit_xor rows) (xor_undone rest (rest / 2)))

pub loop-rest-preserved : goal.loop-rest-preserved
loop-rest-preserved c =
    let loop = c.loop-rest in (
      added loop.number c.args.rows loop.rest loop.invariant.0,
      λ k l. xor_lt k loop.number loop.rest (loop.invariant.1 k l) (loop.invariant.2 k l),
      λ k l. omega (arith, loop.invariant.2 k l),
    )
