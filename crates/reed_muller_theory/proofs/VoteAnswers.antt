-- What the call that votes answers is what the chunk reads as by voting, where r and m are within the limits and the chunk has n bits.
-- So the answer keeps the promise of plain chunks, and is the answer of the search on the made card. Assumes nothing.
use mathlib.Core.Path.{◌≡◌, refl, sym, ap, ◌∙◌}
use mathlib.Core.Bool.{Bool, true, false, cond, not}
use mathlib.Core.List.{[], ◌∷◌}
use Prim.Native.Nat.{ℕ, ◌^◌, ◌<◌}
use native.Mathlib.Omega.{arith}
use borrow.Author.Tests.{lt-leb}
use Rattle.bits.specs.Places.{bit}
use Rattle.model.specs.Refusals.{refuses, first_refusal, unless_refused}
use Rattle.model.specs.Card.{Code, code_of}
use Rattle.model.specs.Reading.{chunk_reading, chunk_status, chunk_values}
use Rattle.model.specs.ReedMuller.{reed_muller_card, order_within_limits, voted_number, voted_distance, voted_within, voted_reading}
use Rattle.model.specs.VoteChunk.{vote_refusal, vote_answer, vote_values}
use Rattle.reed_muller_theory.specs.Votes.{ReadAsPromised, KeepsPromise, AnswersAsSearch, VotePromises}
use Rattle.reed_muller_theory.proofs.OrderLimits.{order_limits_of_test}
use Rattle.reed_muller_theory.proofs.ReedMullerDistance.{sound_code}
use Rattle.reed_muller_theory.proofs.MadeCards.{code_of_made}
use Rattle.reed_muller_theory.proofs.VotedReading.{voting_keeps, votes_as_search}
use Rattle.model.specs.Reading.{Chunk, Codeword, Unreadable}
use Rattle.model.specs.VoteChunk.{VoteAnswer, Voted}
use Rattle.model.specs.Refusals.{Refused, status_of}
use Rattle.model.specs.Refusals.{values_by}
use Rattle.std.specs.Prelude.{Ok, Some, None}

-- the answer for what a chunk reads as
unfoldable pub answer_for : Chunk → VoteAnswer
answer_for (Some read) = Ok read
answer_for None = Refused 10

module _ (r m chunk : ℕ) (within : order_within_limits r m ≡ true) (narrow : chunk < 2 ^ 2 ^ m) where
  pub answer_is : vote_answer r m chunk ≡ answer_for (voted_reading r m (bit chunk))
  unfolding vote_answer vote_refusal first_refusal unless_refused voted_reading answer_for
  answer_is = rw (within, lt-leb (2 ^ 2 ^ m) chunk narrow) (by_within (voted_within r m (bit chunk)))
    where
      by_within : (t : Bool)
          → unless_refused (first_refusal (refuses 10 (not t) ∷ [])) Refused (Voted (voted_number r m (bit chunk)) (voted_distance r m (bit chunk)))
          ≡ answer_for (cond t (Codeword (voted_number r m (bit chunk)) (voted_distance r m (bit chunk))) Unreadable)
      by_within true = refl
      by_within false = refl

  -- an answer that a codeword was voted for is a reading of that codeword
  reading_of_lem : (read : Chunk) (p e : ℕ) → answer_for read ≡ Voted p e → read ≡ Codeword p e
  unfolding answer_for status_of
  reading_of_lem (Some read) p e is = cc
  reading_of_lem None p e is = let no : ◌≡◌ {A = ℕ} 10 0 = ap status_of is in absurd (omega arith)

  promised : ReadAsPromised r m chunk (vote_answer r m chunk)
  unfolding answer_for
  promised =
      let (_, _, order, _) = order_limits_of_test r m within in
      let keeps = voting_keeps r m order in
      record {
        reads = λ p l near. answer_is ∙ ap answer_for (keeps.reads (bit chunk) p l near);
        within = λ p e is. keeps.within (bit chunk) p e (reading_of_lem (voted_reading r m (bit chunk)) p e (sym answer_is ∙ is));
      }

  answered : (read : Chunk) → (status_of (answer_for read) ≡ chunk_status read) × (vote_values (answer_for read) ≡ chunk_values read)
  unfolding answer_for status_of values_by chunk_status chunk_values
  answered (Some read) = (refl, refl)
  answered None = (refl, refl)

  alike : (track : ℕ) → vote_answer r m chunk ≡ answer_for (chunk_reading (code_of (reed_muller_card track r m)) (bit chunk))
  alike track =
      let (_, six, order, twelve) = order_limits_of_test r m within in
      answer_is
      ∙ ap answer_for
      (votes_as_search r m order (sound_code r m six order twelve) (bit chunk)
      ∙ ap (λ (C : Code). chunk_reading C (bit chunk)) (sym (code_of_made track r m within)))

pub vote_keeps_promise : (r m chunk : ℕ) → KeepsPromise r m chunk (vote_answer r m chunk)
vote_keeps_promise r m chunk within narrow = promised r m chunk within narrow

pub vote_as_search : (r m chunk : ℕ) → AnswersAsSearch r m chunk (vote_answer r m chunk)
vote_as_search r m chunk track within narrow =
    rw (alike r m chunk within narrow track) (answered r m chunk within narrow (chunk_reading (code_of (reed_muller_card track r m)) (bit chunk)))

pub vote_promises : (r m chunk : ℕ) → VotePromises r m chunk (vote_answer r m chunk)
vote_promises r m chunk = record { promised = vote_keeps_promise r m chunk; as_search = vote_as_search r m chunk }
