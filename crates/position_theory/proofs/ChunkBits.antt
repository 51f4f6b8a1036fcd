-- How many bits the chunks needed, of every word that is read. Where no row of the table holds, each chunk that the rule names reads as
-- the codeword that the rule goes by, so by the chunk promise its count is that of the places in which the two differ, at most t. That
-- codeword stands whole in the chunk at every allowed position, so the count is also that against the position's word. Assumes nothing.
use mathlib.Core.Path.{◌≡◌, refl, ◌∙◌, sym, ap}
use mathlib.Core.Bool.{Bool, true, false, false≢true}
use Prim.Native.Nat.{ℕ, ◌<◌}
use native.Mathlib.Omega.{arith}
use borrow.Author.Tests.{ltb-true}
use Rattle.bits.specs.Sums.{distance, everywhere}
use Rattle.bits.specs.Places.{bit}
use Rattle.bits.proofs.Distance.{distance_ext_left}
use Rattle.model.specs.Card.{Code}
use Rattle.model.specs.Order.{codeword}
use Rattle.model.specs.Words.{chunk_size, places_before, chunk₁, chunk₂, word_at}
use Rattle.model.specs.Reading.{chunk_distance, Seen, seen, rule_seen, names_first, names_second, number_by}
use Rattle.model.specs.Reading.{Rules, two_ends, residual, bits_needed, nearest_reading, bits_value}
use Rattle.model.specs.Levels.{within_erasures}
use Rattle.model.specs.declared.Reading.{Reading}
use Rattle.code_theory.specs.Promise.{ChunkPromise}
use Rattle.code_theory.proofs.ChunkReading.{plain_count}
use Rattle.position_theory.specs.Damage.{damaged_in}
use Rattle.position_theory.specs.SeenChunks.{SeesChunk, SeesChunks, NamedReads}
use Rattle.position_theory.specs.Nearest.{refusal_of, allowed_by}
use Rattle.position_theory.specs.ChunkBits.{CountsBits, CountsWrong, BitsSeen, BitsOfChunks}
use Rattle.position_theory.proofs.RuleReads.{InCode, reads_in_code, rule_reads}
use Rattle.position_theory.proofs.PlainSeen.{plain_sees_chunks}
use Rattle.position_theory.proofs.NamedChunks.{InRange, named_hold}
use Rattle.model.specs.Reading.{Chunk}
use Rattle.std.specs.Prelude.{Option}

module _ (C : Code) where
  -- the bits of a chunk that reads as codeword p where it is named
  counts_wrong : (named : Bool) (unerased : ℕ → Bool) (chunk : ℕ → ℕ) (read : Chunk) → SeesChunk C unerased chunk read → (p : ℕ)
      → NamedReads named read p → CountsWrong C named unerased chunk p (bits_needed named read)
  unfolding CountsWrong bits_needed within_erasures
  counts_wrong true unerased chunk read sees p reads =
      let (e, reads-p) = reads refl in
      let (_, near, counted) = sees.keeps.within chunk p e (sym sees.answers ∙ reads-p) in
      (e, rw reads-p, counted, rw counted (ltb-true _ _ near))
  counts_wrong false unerased chunk read sees p reads = refl

  -- the reading of whatever is seen of a word of which no row holds, on a track with any rules and by any residual
  pub wrong_of_chunks : (R : Rules) {unerased : ℕ → Bool} {x : ℕ → ℕ} (s : Seen) → SeesChunks C unerased x s → (residual : ℕ → ℕ)
      → refusal_of R s ≡ 0
      → let r : Reading = nearest_reading residual s (rule_seen s) (allowed_by R s) in
      BitsSeen C R s (λ named. CountsWrong C named (chunk₁ C unerased) (chunk₁ C x))
      (λ named. CountsWrong C named (chunk₂ C unerased) (chunk₂ C x)) r.rule r.chunk1 r.chunk2
  unfolding nearest_reading
  wrong_of_chunks R s sees residual none =
      let reads = rule_reads R s (InCode C) (reads_in_code C sees) none in
      record {
        by_rule = refl;
        p = number_by s (rule_seen s);
        in_code = reads.kind;
        allows = refl;
        first = counts_wrong _ _ _ s.read₁ sees.first _ reads.first;
        second = counts_wrong _ _ _ s.read₂ sees.second _ reads.second;
      }

  -- where nothing is erased, the wrong bits are those in which chunk and codeword differ, at most t
  plain_counts : (named : Bool) (chunk : ℕ → ℕ) (p : ℕ) (answered : (Option ℕ)) → CountsWrong C named everywhere chunk p answered
      → CountsBits C named chunk p answered
  unfolding CountsWrong CountsBits
  plain_counts true chunk p answered (count, as_read, counted, few) =
      (count, as_read, (counted ∙ ap (λ (wrong : ℕ → ℕ). wrong p) (sym (plain_count C chunk)), omega arith))
  plain_counts false chunk p answered not-read = not-read

  pub bits_of_chunks : ChunkPromise C → (x : ℕ → ℕ) → refusal_of (two_ends C) (seen C x) ≡ 0
      → let r : Reading = nearest_reading (residual C x) (seen C x) (rule_seen (seen C x)) (allowed_by (two_ends C) (seen C x)) in
      BitsOfChunks C x r.rule r.chunk1 r.chunk2
  bits_of_chunks promise x none =
      let bits = wrong_of_chunks (two_ends C) (seen C x) (plain_sees_chunks C promise x) (residual C x) none in
      record {
        by_rule = bits.by_rule;
        p = bits.p;
        in_code = bits.in_code;
        allows = bits.allows;
        first = plain_counts _ _ _ _ bits.first;
        second = plain_counts _ _ _ _ bits.second;
      }

-- the bits of a chunk that is named are those in which it differs from any chunk that holds its codeword
needed_is : (C : Code) (named : Bool) (chunk : ℕ → ℕ) (p : ℕ) (answered : (Option ℕ)) → CountsBits C named chunk p answered
    → (whole : ℕ → ℕ) → (named ≡ true → (b : ℕ) → b < C.n → whole b ≡ bit (codeword C p) b)
    → named ≡ true → bits_value answered ≡ distance C.n whole chunk
unfolding CountsBits bits_value chunk_distance
needed_is C true chunk p answered (count, as_read, (counted, few)) whole holds named =
    rw as_read (counted ∙ sym (distance_ext_left C.n chunk (holds refl)))
needed_is C false chunk p answered not-read whole holds named = absurd (false≢true named)

module _ (C : Code) (promise : ChunkPromise C) where
  -- at every position that a word allows: the bits needed are those in which a chunk differs from that of the position's word
  pub differing_allowed : (x : ℕ → ℕ) → refusal_of (two_ends C) (seen C x) ≡ 0 → (q : ℕ) → InRange (allowed_by (two_ends C) (seen C x)) q
      → let r : Reading = nearest_reading (residual C x) (seen C x) (rule_seen (seen C x)) (allowed_by (two_ends C) (seen C x)) in
      (names_first r.rule ≡ true → bits_value r.chunk1 ≡ damaged_in C 1 (word_at C q) x)
      × (names_second r.rule ≡ true → bits_value r.chunk2 ≡ damaged_in C 3 (word_at C q) x)
  unfolding nearest_reading damaged_in places_before chunk_size bits_of_chunks wrong_of_chunks
  differing_allowed x none q within =
      let bits = bits_of_chunks C promise x none in
      let hold = named_hold C promise (seen C x) (reads_in_code C (plain_sees_chunks C promise x)) none q within in (
        needed_is C _ (chunk₁ C x) _ _ bits.first (chunk₁ C (word_at C q)) hold.0,
        needed_is C _ (chunk₂ C x) _ _ bits.second (chunk₂ C (word_at C q)) hold.1,
      )
