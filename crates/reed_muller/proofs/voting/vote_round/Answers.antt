use Rattle.std.proofs.Common.{◌≡◌, sym, ap, ◌∙◌, true, [], ◌∷◌, ◌++◌, ℕ, ◌+◌, ◌*◌, ◌^◌, ◌≤◌, ◌<◌, nat_lt, arith}
use Rattle.std.proofs.lemmas.Bool.Decides.{nat_tests}
use Rattle.std.proofs.lemmas.List.{nil_from_length}
use lib.Bits.{bit_and}
use lib.Count.{ones}
use Rattle.bits.specs.Places.{bit}
use Rattle.model.specs.ReedMuller.{sets_of, product_row, votes_for_one, classes}
use Rattle.reed_muller_theory.proofs.OrderLimits.{count_grows}
use Rattle.reed_muller.proofs.Tables.{all_sets, before_next, sets_before_low, sets_of_size}
use Rattle.reed_muller.proofs.ClassVotes.{votes_counted}
use Rattle.reed_muller.proofs.RoundSteps.{RoundMet, round_starts, round_ends, narrow, not_empty, set_passed}
use Rattle.reed_muller.proofs.RoundSteps.{own_size, classes_are, found_bound, most_for_one, not_most_for_one, not_voted, voted_for}
use Rattle.reed_muller.proofs.voting.vote_round.Goals.{After-classes_of-classes, After-from-set, After-is_own}
use Rattle.reed_muller.proofs.voting.vote_round.Goals as goal

-- ---- the sets of this size in the table

pub slice_bounds-iter-count : goal.slice_bounds-iter-count
slice_bounds-iter-count c =
    omega (arith, c.start_of-first.ensures, c.start_of-end.ensures, before_next c.args.size, sets_before_low c.args.size)

pub slice_bounds-iter-start : goal.slice_bounds-iter-start
slice_bounds-iter-start c =
    omega (arith, c.start_of-first.ensures, c.start_of-end.ensures, before_next c.args.size, sets_before_low c.args.size)

pub slice_bounds-iter-end : goal.slice_bounds-iter-end
slice_bounds-iter-end c =
    omega (arith, c.start_of-end.ensures, before_next c.args.size, count_grows c.args.size 3 6 c.requires.m_bound.2, all_sets)

pub loop-set-init : goal.loop-set-init
loop-set-init c =
    let part = sets_of_size _ c.requires.sets_value.0 c.args.size _ _ c.requires.m_bound.2 c.start_of-end.ensures c.start_of-first.ensures in
    let rest : c.into_iter-set-iterator.result.iter.rest.now ≡ sets_of 6 c.args.size =
    rw (c.into_iter-set-iterator.ensures.into_iter_gives, c.rev-set-items.ensures.source) (c.iter.ensures.rest ∙ part) in
    rw rest (round_starts _ _ _ _ c.requires.m_bound.3)

-- ---- the set that is looked at

module _ (c : After-from-set) where
  here : RoundMet c.args.m c.args.size c.args.y c.args.rows (c.next.new.self.iter.rest.now ++ (c.from-set.result ∷ [])) c.loop-set.left
      c.loop-set.found
  here = rw c.from-set.ensures (rw c.in-Some.ensures.steps at c.loop-set.invariant)

pub is_own-requires : goal.is_own-requires
is_own-requires c = narrow _ _ _ _ _ _ _ _ (here c)

module _ (c : After-is_own) where
  abbrev S : ℕ
  S = c.from-set.result

  met : RoundMet c.args.m c.args.size c.args.y c.args.rows (c.next.new.self.iter.rest.now ++ (S ∷ [])) c.loop-set.left c.loop-set.found
  met = rw c.from-set.ensures (rw c.in-Some.ensures.steps at c.loop-set.invariant)

  -- whether it is one of the code's
  is_own : c.is_own.result ≡ nat_lt S (2 ^ c.args.m)
  is_own = c.is_own.ensures c.args.m c.all_positions-positions.ensures

  own : c.is_own.result ≡ true → S < 2 ^ c.args.m
  own kept = grind (arith, nat_tests, is_own)

  -- there is room for one more bit
  room : c.is_own.result ≡ true → 2 * c.loop-set.found + 2 ≤ 4096
  room kept = found_bound _ _ _ _ _ _ _ _ met (own kept) c.requires.m_bound.0 c.requires.m_bound.4

  all_classes : c.is_own.result ≡ true → c.two_to-count.result ≡ classes c.args.m S
  all_classes kept =
      c.two_to-count.ensures ∙ sym (classes_are _ _ _ _ _ _ _ _ met (own kept) c.requires.m_bound.0 c.requires.m_bound.1)

pub classes_of-classes-requires : goal.classes_of-classes-requires
classes_of-classes-requires c =
    let tested = (goal.at.classes_of-classes-requires c).After-is_own in (
      not_empty _ _ _ _ _ _ _ _ (met tested) c.requires.m_bound.5,
      narrow _ _ _ _ _ _ _ _ (met tested),
      c.requires.sets_value.1,
    )

-- ---- its classes and its votes

module _ (c : After-classes_of-classes) where
  row : c.classes_of-classes.result.row ≡ product_row c.args.m c.from-set.result
  row = c.classes_of-classes.ensures.row c.args.m c.requires.m_bound.0 c.all_positions-positions.ensures

  votes : ones (bit_and c.classes_of-classes.result.sums c.classes_of-classes.result.row)
      ≡ votes_for_one c.args.m c.from-set.result (bit c.args.y)
  votes = votes_counted c.args.m c.from-set.result _ c.requires.m_bound.0 row c.args.y _ c.classes_of-classes.ensures.sums

  twice : 2 * ones (bit_and c.classes_of-classes.result.sums c.classes_of-classes.result.row)
      ≡ 2 * votes_for_one c.args.m c.from-set.result (bit c.args.y)
  twice = ap (λ (x : ℕ). 2 * x) votes

-- a tie
pub returns-then-votes-count-clause-tied : goal.returns-then-votes-count-clause-tied
returns-then-votes-count-clause-tied c =
    let tested = (goal.at.returns-then-votes-count-clause-tied c).After-is_own in
    let counted = (goal.at.returns-then-votes-count-clause-tied c).After-classes_of-classes in
    let is_own = own tested c.if-is_own.true in (
      c.from-set.result,
      is_own,
      own_size _ _ _ _ _ _ _ _ (met tested) is_own c.requires.m_bound.0,
      sym (twice counted) ∙ c.if-votes-count.true ∙ all_classes tested c.if-is_own.true,
    )

pub overflow_mul-found : goal.overflow_mul-found
overflow_mul-found c = record { fits = omega (arith, room (goal.at.overflow_mul-found c).After-is_own c.if-is_own.true) }

pub overflow_add-found : goal.overflow_add-found
overflow_add-found c = record { fits = omega (arith, room (goal.at.overflow_add-found c).After-is_own c.if-is_own.true) }

pub loop-set-preserved-then-count-votes : goal.loop-set-preserved-then-count-votes
loop-set-preserved-then-count-votes c =
    let tested = (goal.at.loop-set-preserved-then-count-votes c).After-is_own in
    let counted = (goal.at.loop-set-preserved-then-count-votes c).After-classes_of-classes in
    let most = most_for_one _ _ _ _ _ (twice counted) (all_classes tested c.if-is_own.true) c.if-count-votes.true in
    voted_for _ _ _ _ _ _ _ _ (met tested) (own tested c.if-is_own.true) most _ (row counted)

pub loop-set-preserved-else-count-votes : goal.loop-set-preserved-else-count-votes
loop-set-preserved-else-count-votes c =
    let tested = (goal.at.loop-set-preserved-else-count-votes c).After-is_own in
    let counted = (goal.at.loop-set-preserved-else-count-votes c).After-classes_of-classes in
    let not_most = not_most_for_one _ _ _ _ _ (twice counted) (all_classes tested c.if-is_own.true) c.if-count-votes.false in
    not_voted _ _ _ _ _ _ _ _ (met tested) (own tested c.if-is_own.true) not_most

pub loop-set-preserved : goal.loop-set-preserved
loop-set-preserved c =
    let tested = (goal.at.loop-set-preserved c).After-is_own in
    set_passed _ _ _ _ _ _ _ _ (met tested) (grind (arith, nat_tests, is_own tested))

pub returns : goal.returns
returns c =
    let none = nil_from_length _ c.in-None.ensures.steps.0 in
    let (left, rows) = round_ends _ _ _ _ _ _ c.requires.m_bound.0 (rw none at c.loop-set.invariant) in
    record { tied = tt; left = left; rows = rows }
