use mathlib.Core.Path.{◌≡◌, refl, ◌∙◌}
use native.Mathlib.Omega.{arith}
use Rattle.bits.specs.Sums.{difference, marked}
use Rattle.bits.specs.Places.{place}
use Rattle.bits.proofs.Distance.{distance_le}
use Rattle.bits.proofs.Erasures.{unerased_le}
use Rattle.bits.proofs.Places.{place_bit}
use Rattle.nearest_position.specs.Passing.{passed_to}
use Rattle.nearest_position.proofs.Passing.{joined_bit, residual_positive, pass_alike, pass_differing}
use Rattle.nearest_position.proofs.scan.pass_places.Goals.{After-bit_of, then-bit_of-ne0, else-bit_of-ne0}
use Rattle.nearest_position.proofs.scan.pass_places.Goals as goal

-- the bit of the exclusive-or says whether the two bits at this place differ
joined : (c : After-bit_of)
    → let loop = c.loop-q in
    let args = c.args in
    c.bit_of.result ≡ difference (place args.u loop.q) (place args.v loop.q)
joined c = joined_bit _ _ _ _ c.bit_of.ensures.0

pub next_residual-requires : goal.next_residual-requires
next_residual-requires c =
    let loop = c.loop-q in
    let args = c.args in
    let is_new = c.bit_of-new.ensures.0 args.v refl in
    let received = c.bit_of-received.ensures.0 args.x.bits refl in
    let known = c.bit_of-unerased.ensures.0 args.x.unerased refl in
    let differ : place args.u loop.q ≡ place args.v loop.q → ⊥ =
    λ same. c.if-bit_of-ne0.true (joined (goal.at.next_residual-requires c).After-bit_of ∙ rw same (omega arith)) in (
      omega (
        arith,
        loop.invariant.residual,
        unerased_le (marked (place args.x.unerased)) 320 (passed_to (place args.u) (place args.v) loop.q)
            (place args.x.bits),
      ),
      c.bit_of-new.ensures.1,
      c.bit_of-received.ensures.1,
      c.bit_of-unerased.ensures.1,
      λ unerased e.
          residual_positive _ _ _ _ _ _ _ (omega arith) (omega arith) loop.invariant differ (rw known at unerased)
          (rw (received, is_new) at e),
    )

pub advance-state-requires : goal.advance-state-requires
advance-state-requires c =
    let loop = c.loop-q in
    omega (arith, loop.invariant.position, c.requires.2, distance_le loop.q (place c.args.u) (place c.args.v))

-- the body goes one of two ways: the bits differ, with what each call gave in turn and the new state; or they are alike
pub loop-q-preserved : goal.loop-q-preserved
loop-q-preserved c =
    let loop = c.loop-q in
    let args = c.args in
    let met = (goal.at.loop-q-preserved c).After-bit_of in
    elim c.if-bit_of-ne0.branch [
      | then-bit_of-ne0 w ↦
          let differ : place args.u loop.q ≡ place args.v loop.q → ⊥ = λ same. w.if-bit_of-ne0.true (joined met ∙ rw same (omega arith)) in
          let new = w.bit_of-new.ensures.0 args.v refl in
          let received = w.bit_of-received.ensures.0 args.x.bits refl in
          let known = w.bit_of-unerased.ensures.0 args.x.unerased refl in
          let advanced = w.advance-state in
          rw w.state-is
          (pass_differing _ _ _ _ _ _ _ (omega arith) (omega arith) loop.invariant differ w.next_residual.result
          (rw (new, received, known) at w.next_residual.ensures) advanced.result advanced.ensures.ends.0 advanced.ensures.ends.1
          advanced.ensures.ends.2 advanced.ensures.scanned)
      | else-bit_of-ne0 w ↦
          let same : place args.u loop.q ≡ place args.v loop.q =
          omega (arith, joined met, w.if-bit_of-ne0.false, place_bit args.u loop.q, place_bit args.v loop.q) in
          rw w.state-is (pass_alike _ _ _ _ _ _ _ (omega arith) (omega arith) loop.invariant same)
    ]
