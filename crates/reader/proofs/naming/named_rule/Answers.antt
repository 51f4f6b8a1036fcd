-- `reader::naming::named_rule` meets its contract: the three separators are read, each where the layout says, the first at place 0, and
-- name the rule. Assumes nothing.
use mathlib.Core.Path.{◌≡◌, ap, ◌∙◌}
use Rattle.bits.specs.Places.{place}
use Rattle.bits.proofs.Sums.{from_place_zero}
use Rattle.model.specs.Reading.{majority, seen}
use Rattle.reader.proofs.naming.named_rule.Goals as goal

pub returns : goal.returns
unfolding seen
returns c C is laid =
    let args = c.args in
    let s₁ : c.separator_at-s1.result ≡ majority C.D (place args.bits) =
    (rw is at c.separator_at-s1.ensures) ∙ ap (majority C.D) (from_place_zero (place args.bits)) in
    let s₂ = rw (is, laid.separator₂_at) at c.separator_at-s2.ensures in
    let s₃ = rw (is, laid.separator₃_at) at c.separator_at-s3.ensures in
    rw (s₁, s₂, s₃) at c.named_by.ensures
