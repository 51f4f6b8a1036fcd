use mathlib.Core.Bool.{true}
use mathlib.Core.Path.{◌≡◌, sym, ap, ◌∙◌}
use Prim.Native.Nat.{ℕ, suc, ◌-◌, ◌/◌, ◌^◌, ◌≤◌}
use native.Mathlib.Omega.{arith}
use lib.Bits.{bit_xor}
use lib.Count.{ones, ones-le}
use lib.Pow.{pow_mono}
use Rattle.model.specs.ReedMuller.{count_of_sets, order_within_limits}
use Rattle.reed_muller_theory.proofs.OrderLimits.{order_limits_of_test, order_at_most_three}
use Rattle.reed_muller.proofs.VotedDown.{VotedDown, voting_starts, voting_goes_on, voting_tied}
use Rattle.reed_muller.proofs.VotedDown.{sets_below, not_accepted, accepted}
use Rattle.reed_muller.proofs.LastRound.{taken_off, not_taken_off, ones_flipped}
use Rattle.reed_muller.proofs.voting.vote.Goals.{Joined-n-differing, then-n-differing, else-n-differing}
use Rattle.reed_muller.proofs.voting.vote.Goals as goal

-- what the limits say of r and m
record Limits (r m : ℕ) : Type 0 where
  six : m ≤ 6
  order : r ≤ m
  three : r ≤ 3
  twelve : count_of_sets r m ≤ 12

limits : (r m : ℕ) → order_within_limits r m ≡ true → Limits r m
limits r m within =
    let (_, six, order, twelve) = order_limits_of_test r m within in
    record { six = six; order = order; three = order_at_most_three r m within; twelve = twelve }

pub loop-size-init : goal.loop-size-init
loop-size-init c = voting_starts c.args.r c.args.m c.args.chunk c.requires.1 (limits _ _ c.requires.0).twelve

-- ---- a round

pub vote_round-requires-clause-m_bound : goal.vote_round-requires-clause-m_bound
unfolding sets_below count_of_sets
vote_round-requires-clause-m_bound c =
    let within = limits _ _ c.requires.0 in
    let here = c.loop-size.invariant in (
      within.six,
      omega (arith, here.started, within.order),
      omega (arith, here.started, within.three),
      here.narrow,
      here.room,
      c.loop-size-test.true,
    )

pub returns-in_err-voted : goal.returns-in_err-voted
returns-in_err-voted c =
    rw c.from_residual.ensures
    (voting_tied _ _ _ c.loop-size.size _ _ c.loop-size.invariant (limits _ _ c.requires.0).order c.in_err-voted.ensures.tied)

pub loop-size-preserved : goal.loop-size-preserved
loop-size-preserved c =
    let next : suc (c.loop-size.size - 1) ≡ c.loop-size.size = omega (arith, c.loop-size-test.true) in
    rw next (voting_goes_on _ _ _ c.loop-size.size _ _ c.loop-size.invariant _ _ c.in_ok-voted.ensures.left c.in_ok-voted.ensures.rows)

-- ---- the last round

-- what the rounds before it left
last_starts : (r m chunk size left rows : ℕ) → VotedDown r m chunk (suc size) left rows → size ≡ 0 → VotedDown r m chunk 1 left rows
last_starts r m chunk size left rows here none = rw none at here

few_ones : {r m chunk size left rows : ℕ} → VotedDown r m chunk size left rows → ones left ≤ 2 ^ m
few_ones {m = m} {left = left} here = ones-le (2 ^ m) left here.narrow

pub two_to-n-requires : goal.two_to-n-requires
two_to-n-requires c = omega (arith, (limits _ _ c.requires.0).six)

pub overflow_mul-differing : goal.overflow_mul-differing
overflow_mul-differing c =
    record {
      fits = omega (arith, few_ones c.loop-size.invariant, pow_mono {i = c.args.m} {j = 6} (limits _ _ c.requires.0).six);
    }

pub overflow_sub-differing : goal.overflow_sub-differing
overflow_sub-differing c = omega (arith, few_ones c.loop-size.invariant, c.two_to-n.ensures)

-- what it leaves, whether or not the product of no variable is taken off
record Ended (r m chunk differing rows : ℕ) : Type 0 where
  left_over : ℕ
  voted : VotedDown r m chunk 0 left_over rows
  count : differing ≡ ones left_over

ended : (c : Joined-n-differing) → Ended c.args.r c.args.m c.args.chunk c.if-n-differing.differing c.if-n-differing.rows
ended c =
    let first = c.args in
    let left = c.loop-size.left in
    let n_is = c.two_to-n.ensures in
    let six = (limits _ _ c.requires.0).six in
    let here = last_starts _ _ _ _ _ _ c.loop-size.invariant (omega (arith, c.loop-size-test.false)) in
    elim c.if-n-differing.branch [
      | then-n-differing w ↦
          record {
            left_over = bit_xor left (2 ^ 2 ^ first.m - 1);
            voted = rw w.rows-is (taken_off _ _ _ _ _ six here (omega (arith, w.if-n-differing.true, n_is)));
            count = w.differing-is ∙ ap (λ (n : ℕ). n - ones left) n_is ∙ sym (ones_flipped first.m left six here.narrow);
          }
      | else-n-differing w ↦
          record {
            left_over = left;
            voted = rw w.rows-is (not_taken_off _ _ _ _ _ six here (omega (arith, w.if-n-differing.false, n_is)));
            count = w.differing-is;
          }
    ]

pub overflow_sub-m : goal.overflow_sub-m
overflow_sub-m c = (limits _ _ c.requires.0).order

pub two_to-requires : goal.two_to-requires
two_to-requires c = omega (arith, (limits _ _ c.requires.0).six)

pub returns-then-two_to-differing : goal.returns-then-two_to-differing
returns-then-two_to-differing c =
    let end = ended (goal.at.returns-then-two_to-differing c).Joined-n-differing in
    let t_is = ap (λ (d : ℕ). (d - 1) / 2) c.two_to.ensures in
    not_accepted _ _ _ _ _ (limits _ _ c.requires.0).order end.voted _ _ t_is end.count c.if-two_to-differing.true

pub returns : goal.returns
returns c =
    let end = ended (goal.at.returns c).Joined-n-differing in
    let t_is = ap (λ (d : ℕ). (d - 1) / 2) c.two_to.ensures in
    accepted _ _ _ _ _ (limits _ _ c.requires.0).order end.voted _ _ _ t_is end.count
    c.if-two_to-differing.false c.number_of.ensures.0 c.number_of.ensures.1
