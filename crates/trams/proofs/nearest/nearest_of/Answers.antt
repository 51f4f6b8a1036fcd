use Rattle.std.proofs.Common.{rules}
use Rattle.std.proofs.lemmas.Option.{gets}
use mathlib.Core.Path.{refl, sym, ◌∙◌}
use native.Mathlib.Omega.{arith}
use Rattle.model.specs.NearestTram.{nearest_up_to, nearest_of}
use Rattle.trams.proofs.Passes.{wide_in_order, nearer, no_nearer}
use Rattle.trams.proofs.nearest.nearest_of.Goals.{then-goes_before, else-goes_before}
use Rattle.trams.proofs.nearest.nearest_of.Goals as goal

pub returns-in_err-first : goal.returns-in_err-first
unfolding nearest_of
returns-in_err-first c = search (rules, gets)

pub loop-i-init : goal.loop-i-init
unfolding nearest_of nearest_up_to
loop-i-init c = (omega arith, search (rules, gets), refl)

pub goes_before-requires : goal.goes_before-requires
goes_before-requires c =
    let placed = c.requires in (
      rw c.widened_stretch-s.ensures (wide_in_order _ _ _ placed c.loop-i.i (omega arith)),
      rw c.loop-i.invariant.1 (wide_in_order _ _ _ placed c.loop-i.place (omega arith)),
    )

pub loop-i-preserved : goal.loop-i-preserved
loop-i-preserved c =
    let wide = c.widened_stretch-s.ensures in
    let tested = rw (wide, c.loop-i.invariant.1) at c.goes_before.ensures in
    elim c.if-goes_before.branch [
      | then-goes_before w ↦
          rw (w.place-is, w.kept-is)
          (omega arith, wide, nearer _ _ c.loop-i.i c.loop-i.place c.loop-i.invariant.2 (sym tested ∙ w.if-goes_before.true))
      | else-goes_before w ↦
          rw (w.place-is, w.kept-is) (
            omega arith,
            c.loop-i.invariant.1,
            no_nearer _ _ c.loop-i.i c.loop-i.place c.loop-i.invariant.2 (sym tested ∙ w.if-goes_before.false),
          )
    ]
