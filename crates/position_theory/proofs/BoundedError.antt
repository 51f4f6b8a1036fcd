-- How far an answer is off, for a code that keeps the chunk promise: a word with 2 × wrong + erased below D in each chunk that is not
-- divided allows the true position, so the answer is off by at most the wrong bits, the residual and the erased bits together, and the
-- residual is at most the wrong bits. P7 is the case of a plain word, in which nothing is erased, and demand 3 that of one within the
-- radius in every chunk. Assumes nothing.
use mathlib.Core.Path.{◌≡◌, refl, sym, ap, ◌∙◌}
use mathlib.Core.Bool.{Bool, false}
use mathlib.Core.List.{List}
use Prim.Native.Nat.{ℕ, ◌+◌, ◌≤◌, ◌<◌}
use native.Mathlib.Omega.{arith}
use Rattle.bits.specs.Sums.{erased_below, everywhere}
use Rattle.bits.specs.Places.{place}
use Rattle.bits.proofs.Distance.{distance_ext_left}
use Rattle.bits.proofs.Erasures.{unerased_ext_left, none_erased}
use Rattle.bits.proofs.Places.{place_bit}
use Rattle.model.specs.Card.{Code}
use Rattle.model.specs.Order.{last_codeword, block_length, start, last_position}
use Rattle.model.specs.Words.{word_bits, chunk_of, word_at, word_bytes, divided}
use Rattle.model.specs.Reading.{Seen, seen, two_ends, residual}
use Rattle.model.specs.Levels.{residual_unerased}
use Rattle.model.specs.ReadWord.{read_word}
use Rattle.code_theory.specs.Promise.{ChunkPromise}
use Rattle.position_theory.specs.Damage.{damaged_in, wrong_in, ChunkBelowD, ChunksBelowD, ChunksWithin}
use Rattle.position_theory.specs.Damage.{WithinRadius, damaged, Near, residual_of, UndividedWithinRadius}
use Rattle.position_theory.proofs.WordChunkLaws.{chunk_fits, five_distance}
use Rattle.position_theory.proofs.WordBytes.{place_of_word, reading_of_seen, read_if_whole}
use Rattle.position_theory.proofs.Between.{WholeAt}
use Rattle.position_theory.proofs.Ways.{Way}
use Rattle.position_theory.proofs.Blocks.{block_way, on_the_way}
use Rattle.position_theory.proofs.WhereDivided.{undivided_if_whole}
use Rattle.position_theory.proofs.TrueAllowed.{Allows, true_allowed}
use Rattle.position_theory.proofs.WholeChunks.{Sees, whole_chunks_read}
use Rattle.position_theory.proofs.PlainSeen.{plain_sees, within_radius_below, plain_residual}
use Rattle.position_theory.proofs.Ranges.{counted_residuals}
use Rattle.position_theory.proofs.RuleReads.{reads_in_code}
use Rattle.position_theory.proofs.TrueCases.{TrueCase, true_case}
use Rattle.position_theory.proofs.Allowed.{allowed_isometric}
use Rattle.position_theory.proofs.Nearest.{answer_near}
use Rattle.model.specs.ReadWord.{ReadAnswer}
use Rattle.std.specs.Prelude.{Ok, Err}

-- each chunk of the position's word that is not divided has 2 × wrong + erased below D; which is so where each of the five has
abbrev pub UndividedBelowD : Code → (unerased : ℕ → Bool) (position : ℕ) (u x : ℕ → ℕ) → Type 0
UndividedBelowD C unerased position u x = (c : ℕ) → c < 5 → divided C position c ≡ false → ChunkBelowD C unerased u x c

pub all_below : (C : Code) (unerased : ℕ → Bool) (position : ℕ) (u x : ℕ → ℕ) → ChunksBelowD C unerased u x
    → UndividedBelowD C unerased position u x
unfolding ChunksBelowD
all_below C unerased position u x below c b _ = below c b

-- likewise a word within the radius in every chunk is within it in those that are not divided (limits are compared as numbers, so that a
-- claim of a wider one is refused by a counterexample)
pub all_within : (C : Code) (position : ℕ) (received : List ℕ) → WithinRadius C position received
    → UndividedWithinRadius C position received
unfolding ChunksWithin
all_within C position received d =
    record { right_length = d.right_length; spare_zero = d.spare_zero; chunks = λ c b _. omega (arith, d.chunks c (omega arith)) }

module _ (C : Code) where
  -- the damaged, or wrong, bits in a chunk go by the word's places alone
  pub damaged_in_ext : {u u' : ℕ → ℕ} (x : ℕ → ℕ) → ((p : ℕ) → p < word_bits C → u p ≡ u' p) → (c : ℕ) → c < 5
      → damaged_in C c u x ≡ damaged_in C c u' x
  unfolding damaged_in
  damaged_in_ext x same c b = distance_ext_left _ (chunk_of C c x) (λ p l. same _ (omega (arith, chunk_fits C c b)))

  wrong_in_ext : (unerased : ℕ → Bool) {u u' : ℕ → ℕ} (x : ℕ → ℕ) → ((p : ℕ) → p < word_bits C → u p ≡ u' p) → (c : ℕ) → c < 5
      → wrong_in C unerased c u x ≡ wrong_in C unerased c u' x
  unfolding wrong_in
  wrong_in_ext unerased x same c b =
      unerased_ext_left (chunk_of C c unerased) _ (chunk_of C c x) (λ p l. same _ (omega (arith, chunk_fits C c b)))

  -- the damaged bits in all are the residual of the true position
  damaged_is_residual : (position : ℕ) (received : List ℕ) → damaged C position received ≡ residual C (place received) position
  unfolding damaged residual
  damaged_is_residual position received =
      sym (five_distance C (place (word_bytes C position)) (place received))
      ∙ distance_ext_left (word_bits C) (place received) (place_of_word C position)

module _ (C : Code) {unerased : ℕ → Bool} {x : ℕ → ℕ} {s : Seen} (sees : Sees C unerased x s) where
  -- m steps on the way from one codeword's word to the next one's, on any track, where every whole chunk has 2 × wrong + erased below D:
  -- what is seen is one of the four cases
  pub case_on_way : {words : ℕ → ℕ → ℕ} {from to i j A : ℕ} → Way C words from to i j A → (m : ℕ) → from + m ≤ to
      → (u : ℕ → ℕ) → ((p : ℕ) → p < word_bits C → u p ≡ words (from + m) p)
      → ((c : ℕ) → c < 5 → WholeAt C A m c → ChunkBelowD C unerased u x c) → TrueCase C.D A i j m s
  case_on_way way m room u same within =
      true_case way.next.parities
      (whole_chunks_read C sees way.next m
      (λ c b whole. rw (wrong_in_ext C unerased x (λ p l. same p l ∙ way.walked m room p l) c b) at (within c b whole)))

module _ (C : Code) (promise : ChunkPromise C) {unerased : ℕ → Bool} {x : ℕ → ℕ} {s : Seen} (sees : Sees C unerased x s) where
  -- a word with 2 × wrong + erased below D in every chunk that is not divided, so in every whole one, allows the true position; of a
  -- divided chunk nothing is asked
  steps_allowed : (i m : ℕ) (u : ℕ → ℕ) → i < last_codeword C → m ≤ block_length C i
      → ((p : ℕ) → p < word_bits C → u p ≡ word_at C (start C i + m) p)
      → UndividedBelowD C unerased (start C i + m) u x → Allows (two_ends C) s (start C i + m)
  steps_allowed i m u inside room same within =
      true_allowed C promise s i m inside room
      (case_on_way C sees (block_way C promise i inside) m (omega (arith, promise.start_next i inside)) u same
      (λ c b whole. within c b (undivided_if_whole C promise i m c inside room b whole)))

  position_allowed : (position : ℕ) (u : ℕ → ℕ) → position ≤ last_position C → ((p : ℕ) → p < word_bits C → u p ≡ word_at C position p)
      → UndividedBelowD C unerased position u x → Allows (two_ends C) s position
  position_allowed position u h same within =
      let way = on_the_way C promise position h in
      let there =
      steps_allowed way.block way.steps u way.inside way.room
      (λ p b. same p b ∙ ap (λ q. word_at C q p) (sym way.is)) (λ c b undivided. within c b (rw way.is at undivided)) in
      rw way.is at there

  -- and the answer is as near to that position as the residuals and the erased bits say
  pub error_of_seen : (position : ℕ) (u : ℕ → ℕ) → position ≤ last_position C → ((p : ℕ) → p < word_bits C → u p ≡ word_at C position p)
      → UndividedBelowD C unerased position u x
      → let answer = reading_of_seen (two_ends C) s (residual_unerased C unerased x) in
      Near answer position (residual_unerased C unerased x position + residual_of answer + erased_below unerased (word_bits C))
      × (residual_of answer ≤ residual_unerased C unerased x position)
  unfolding residual_unerased
  error_of_seen position u h same within =
      answer_near (two_ends C) (word_bits C) (word_at C) (last_position C) s
      (allowed_isometric C promise s (reads_in_code C sees.chunks)) (residual_unerased C unerased x) (erased_below unerased (word_bits C))
      (counted_residuals unerased (word_bits C) (word_at C) x) position (position_allowed position u h same within)

-- a bound may be loosened
pub near_loosen : (answer : ReadAnswer) (position e e' : ℕ) → e ≤ e' → Near answer position e → Near answer position e'
unfolding Near
near_loosen (Ok r) position e e' h near = (omega arith, omega arith)
near_loosen (Err refusal) position e e' h near = near

-- a plain word within the radius in every chunk that is not divided
module _ (C : Code) (promise : ChunkPromise C) where
  plain_below : (position : ℕ) (received : List ℕ) → UndividedWithinRadius C position received
      → UndividedBelowD C everywhere position (place (word_bytes C position)) (place received)
  plain_below position received d c b undivided =
      within_radius_below C promise (place (word_bytes C position)) (place received) c (d.chunks c (omega arith) undivided)

  pub plain_allowed : (position : ℕ) (received : List ℕ) → position ≤ last_position C → UndividedWithinRadius C position received
      → Allows (two_ends C) (seen C (place received)) position
  plain_allowed position received h d =
      position_allowed C promise (plain_sees C promise (place_bit received)) position (place (word_bytes C position)) h
      (place_of_word C position) (plain_below position received d)

  -- the first distance of P7, and what the second follows from
  pub error_bounded : (position : ℕ) (received : List ℕ) → position ≤ last_position C → UndividedWithinRadius C position received
      → Near (read_word C received) position (damaged C position received + residual_of (read_word C received))
      × (residual_of (read_word C received) ≤ damaged C position received)
  error_bounded position received h d =
      let x = place received in
      let none = none_erased everywhere (word_bits C) (λ p b. refl) in
      let (near, least) =
      error_of_seen C promise (plain_sees C promise (place_bit received)) position (place (word_bytes C position)) h
      (place_of_word C position) (plain_below position received d) in
      rw (read_if_whole C received d.right_length d.spare_zero, damaged_is_residual C position received, plain_residual C x)
      (near_loosen (reading_of_seen (two_ends C) (seen C x) (residual_unerased C everywhere x)) position _ _ (omega (arith, none)) near, least)
