-- What the call that votes answers, one law for each way out of the code: the answer is the one that the definition gives, of which the
-- clauses of the contract are theorems. Assumes nothing.
use mathlib.Core.Path.{◌≡◌, refl, sym, ◌∙◌}
use mathlib.Core.Bool.{true, false}
use Rattle.std.specs.Prelude.{[], ◌∷◌, Some, None}
use Rattle.std.specs.Option.{ok_or}
use Prim.Native.Nat.{ℕ, ◌-◌, ◌^◌, ◌≤◌, ◌<◌}
use native.Mathlib.Omega.{arith}
use lib.Pow.{pow_pos}
use borrow.Author.Tests.{le-leb}
use Rattle.bits.specs.Places.{bit}
use Rattle.model.specs.Refusals.{Refused, status_of, first_refusal, unless_refused, if_served}
use Rattle.model.specs.ReedMuller.{order_within_limits, voted_number, voted_distance, voted_reading}
use Rattle.model.specs.VoteChunk.{VoteAnswer, vote_refusal, vote_answer, vote_expected, vote_values}
use Rattle.model.specs.Reading.{Chunk}
use Rattle.model.specs.declared.ReadChunk.{ReadChunk}
use Rattle.code_theory.proofs.RefusalRows.{status_and_values_alone}
use Rattle.reed_muller_theory.specs.Votes.{VotePromises}
use Rattle.reed_muller_theory.proofs.VoteAnswers.{answer_for, answer_is, vote_promises}

module _ (r m chunk : ℕ) where
  pub vote_outside : order_within_limits r m ≡ false → Refused 13 ≡ vote_answer r m chunk
  unfolding vote_answer vote_refusal first_refusal unless_refused
  vote_outside outside = rw outside

  pub vote_too_wide : order_within_limits r m ≡ true → (positions : ℕ) → positions ≡ 2 ^ 2 ^ m - 1 → positions < chunk
      → Refused 8 ≡ vote_answer r m chunk
  unfolding vote_answer vote_refusal first_refusal unless_refused
  vote_too_wide within positions all wide = rw (within, le-leb (2 ^ 2 ^ m) chunk (omega (arith, pow_pos (2 ^ m))))

  pub narrow_enough : (positions : ℕ) → positions ≡ 2 ^ 2 ^ m - 1 → chunk ≤ positions → chunk < 2 ^ 2 ^ m
  narrow_enough positions all l = omega (arith, pow_pos (2 ^ m))

  -- what the chunk reads as, or 10
  pub voted : order_within_limits r m ≡ true → chunk < 2 ^ 2 ^ m → ok_or (voted_reading r m (bit chunk)) (record { number = 10 }) ≡ vote_answer r m chunk
  unfolding answer_for
  voted within narrow = told (voted_reading r m (bit chunk)) ∙ sym (answer_is r m chunk within narrow)
    where
      told : (read : Chunk) → ok_or read (record { number = 10 }) ≡ answer_for read
      told (Some read) = refl
      told None = refl

  -- the contract, and that the definition's answer meets it
  abbrev VoteMeets : VoteAnswer → Type 0
  VoteMeets a =
      record {
        answer : a ≡ vote_answer r m chunk;
        status : status_of a ≡ vote_refusal r m chunk;
        values : vote_values a ≡ if_served (status_of a) (vote_expected r m chunk);
        promises : VotePromises r m chunk a;
      }

  pub vote_answered : {answer : VoteAnswer} → answer ≡ vote_answer r m chunk → VoteMeets answer
  unfolding vote_answer vote_expected
  vote_answered e =
      let (status, values) =
      status_and_values_alone (λ (read : ReadChunk). read.number ∷ read.differing ∷ []) (vote_refusal r m chunk)
      (record { number = voted_number r m (bit chunk); differing = voted_distance r m (bit chunk) }) in
      rw e (record { answer = refl; status = status; values = values; promises = vote_promises r m chunk })
