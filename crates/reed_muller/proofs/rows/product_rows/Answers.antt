use Rattle.std.proofs.Common.{◌≡◌, ap, ◌∙◌, true, nat_lt, List, ℕ, ◌+◌, ◌-◌, ◌^◌, ◌≤◌, ◌<◌, length, get_or, take, drop, arith, length-drop}
use Rattle.std.proofs.lemmas.Grind.{get_or_after_one}
use Rattle.std.proofs.lemmas.Bool.Decides.{nat_tests}
use Rattle.model.specs.ReedMuller.{sets_up_to, count_of_sets, product_row, product_of, order_within_limits}
use Rattle.reed_muller_theory.proofs.OrderLimits.{order_limits_of_test, order_at_most_three, count_grows}
use Rattle.reed_muller_theory.proofs.Sets.{count_low, set_below}
use Rattle.reed_muller_theory.proofs.FewerVariables.{others_not_empty}
use Rattle.reed_muller.specs.Table.{sets_before}
use Rattle.reed_muller.proofs.Tables.{all_sets, before_next, part_of_table}
use Rattle.reed_muller.proofs.FilledRows.{reached_first, room, reached_more, reached_same, reached_all}
use Rattle.reed_muller.proofs.rows.product_rows.Goals.{After-start_of-end, After-is_own, After-loop-set, then-is_own, else-is_own}
use Rattle.reed_muller.proofs.rows.product_rows.Goals as goal

-- what the limits say of r and m
limits : (r m : ℕ) → order_within_limits r m ≡ true → (m ≤ 6) × (r ≤ 3) × (count_of_sets r m ≤ 12)
limits r m within =
    let (_, six, _, twelve) = order_limits_of_test r m within in
    (six, order_at_most_three r m within, twelve)

pub all_positions-positions-requires : goal.all_positions-positions-requires
all_positions-positions-requires c = (limits _ _ c.requires).0

pub start_of-end-requires : goal.start_of-end-requires
start_of-end-requires c = omega (arith, (limits _ _ c.requires).1)

-- ---- the table's sets of at most r variables: the empty one is the first, and the others are gone through

record SetMet (r i set : ℕ) : Type 0 where
  inside : i < count_of_sets r 6
  is : set ≡ get_or (sets_up_to 6 r) i 0
  narrow : set < 64

module _ (r end : ℕ) (ends : end ≡ sets_before (r + 1)) (sets : List ℕ) (are : sets ≡ sets_up_to 6 3) (three : r ≤ 3) where
  abbrev others : List ℕ
  others = take (end - 1) (drop 1 sets)

  others_are : others ≡ drop 1 (sets_up_to 6 r)
  others_are = part_of_table sets are r 1 end three ends (count_low r 6)

  count_of_others : length others + 1 ≡ count_of_sets r 6
  unfolding count_of_sets
  count_of_others = rw others_are (omega (arith, length-drop 1 (sets_up_to 6 r), count_low r 6))

  set_met : (i : ℕ) → i < length others → SetMet r (i + 1) (get_or others i 0)
  set_met i h =
      let inside : i + 1 < count_of_sets r 6 = omega (arith, count_of_others) in
      let place : 1 + i ≡ i + 1 = omega arith in
      let is : get_or others i 0 ≡ get_or (sets_up_to 6 r) (i + 1) 0 = rw (others_are, get_or_after_one, place) in
      record { inside = inside; is = is; narrow = rw is (set_below r 6 (i + 1) inside) }

pub slice_bounds-set-items-count : goal.slice_bounds-set-items-count
slice_bounds-set-items-count c = omega (arith, c.start_of-end.ensures, before_next c.args.r, count_low c.args.r 6)

pub slice_bounds-set-items-start : goal.slice_bounds-set-items-start
slice_bounds-set-items-start c = omega (arith, c.start_of-end.ensures, before_next c.args.r, count_low c.args.r 6)

pub slice_bounds-set-items-end : goal.slice_bounds-set-items-end
slice_bounds-set-items-end c =
    let three = (limits _ _ c.requires).1 in
    omega (arith, c.start_of-end.ensures, before_next c.args.r, count_grows c.args.r 3 6 three, all_sets)

pub loop-set-init : goal.loop-set-init
loop-set-init c = reached_first c.args.r c.args.m _ c.all_positions-positions.ensures

-- ---- the set that is looked at

pub is_own-requires : goal.is_own-requires
is_own-requires c =
    rw c.from-set.ensures (set_met c.args.r _ c.start_of-end.ensures _ c.all_sets-sets.ensures (limits _ _ c.requires).1 _ c.loop-set-test.true).narrow

module _ (c : After-is_own) where
  met : SetMet c.args.r (c.loop-set.set-index + 1) c.from-set.result
  met =
      rw c.from-set.ensures
      (set_met c.args.r _ c.start_of-end.ensures _ c.all_sets-sets.ensures (limits _ _ c.requires).1 _ c.loop-set-test.true)

  abbrev S : ℕ
  S = get_or (sets_up_to 6 c.args.r) (c.loop-set.set-index + 1) 0

  -- whether it is one of the code's
  is_own : c.is_own.result ≡ nat_lt S (2 ^ c.args.m)
  is_own = c.is_own.ensures c.args.m c.all_positions-positions.ensures ∙ ap (λ (x : ℕ). nat_lt x (2 ^ c.args.m)) met.is

  own : c.is_own.result ≡ true → S < 2 ^ c.args.m
  own kept = grind (arith, nat_tests, is_own)

  -- there is room for its row
  fits : c.is_own.result ≡ true → c.loop-set.count < 12
  fits kept =
      let bounds = limits _ _ c.requires in
      room _ _ (c.loop-set.set-index + 1) _ _ met.inside c.loop-set.invariant bounds.0 bounds.2 (own kept)

pub classes_of-classes-requires : goal.classes_of-classes-requires
classes_of-classes-requires c =
    let at = met (goal.at.classes_of-classes-requires c).After-is_own in
    let some = others_not_empty 6 c.args.r (c.loop-set.set-index + 1) (omega arith) at.inside in
    (omega (arith, at.is, some), at.narrow, c.all_variables-variables.ensures)

pub offset_bounds-rows-count : goal.offset_bounds-rows-count
offset_bounds-rows-count c =
    record { fits = omega (arith, fits (goal.at.offset_bounds-rows-count c).After-is_own c.if-is_own.true) }

pub bounds-rows-count : goal.bounds-rows-count
bounds-rows-count c = fits (goal.at.bounds-rows-count c).After-is_own c.if-is_own.true

pub overflow_add-count : goal.overflow_add-count
overflow_add-count c = record { fits = omega (arith, fits (goal.at.overflow_add-count c).After-is_own c.if-is_own.true) }

pub loop-set-preserved : goal.loop-set-preserved
loop-set-preserved c =
    let tested = (goal.at.loop-set-preserved c).After-is_own in
    let at = met tested in
    elim c.if-is_own.branch [
      | then-is_own w ↦
          let product = w.classes_of-classes.ensures.row c.args.m (limits _ _ c.requires).0 c.all_positions-positions.ensures in
          let row = product ∙ ap (product_row c.args.m) at.is in
          rw (w.rows-is, w.count-is)
          (reached_more _ _ (c.loop-set.set-index + 1) _ _ at.inside c.loop-set.invariant _ (fits tested w.if-is_own.true)
          (own tested w.if-is_own.true) row)
      | else-is_own w ↦
          rw (w.rows-is, w.count-is)
          (reached_same _ _ (c.loop-set.set-index + 1) _ _ at.inside c.loop-set.invariant (grind (arith, nat_tests, is_own tested)))
    ]

-- at its end the loop has met all sets
all : (c : After-loop-set)
    → (c.loop-set.count ≡ count_of_sets c.args.r c.args.m)
    × ((λ z. get_or c.loop-set.rows z 0) ≡ product_of c.args.r c.args.m)
all c =
    let bounds = limits _ _ c.requires in
    let whole = count_of_others c.args.r _ c.start_of-end.ensures _ c.all_sets-sets.ensures bounds.1 in
    let done : c.loop-set.set-index + 1 ≡ count_of_sets c.args.r 6 = omega (arith, whole, c.loop-set-test.false) in
    reached_all c.args.r c.args.m _ _ bounds.0 bounds.2 (rw done at c.loop-set.invariant)

pub overflow_cast-count : goal.overflow_cast-count
overflow_cast-count c = record { fits = omega (arith, (all c).0, (limits _ _ c.requires).2) }

pub returns : goal.returns
returns c = all (goal.at.returns c).After-loop-set
