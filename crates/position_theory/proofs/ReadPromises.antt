-- The theorems of a read of a plain word, of the answer that the definition gives to any card and word: each is a law of what is seen of a
-- word, by the chunk promise that a sound card's code keeps. Assumes nothing.
use mathlib.Core.Path.{◌≡◌, refl, ◌∙◌, sym}
use mathlib.Core.List.{List}
use Prim.Native.Nat.{ℕ, ◌<◌}
use native.Mathlib.Omega.{arith}
use Rattle.bits.specs.Places.{place}
use Rattle.bits.proofs.Places.{place_bit}
use Rattle.model.specs.Card.{Code, code_of, card_refusal}
use Rattle.model.specs.Words.{word, word_at, word_bytes}
use Rattle.model.specs.Reading.{seen, two_ends, rule_named, rows_9_to_12, rows_seen, rows_of, allowed, residual, nearest_reading}
use Rattle.model.specs.ReadWord.{rows_of_word, read_word, read_refusal, read_answer}
use Rattle.code_theory.specs.Promise.{ChunkPromise}
use Rattle.code_theory.proofs.RefusalRows.{numbered}
use Rattle.position_theory.specs.Damage.{damaged_in}
use Rattle.position_theory.specs.Nearest.{IsReading}
use Rattle.position_theory.specs.Contradictions.{contradicted, answer_before}
use Rattle.position_theory.specs.ReadPromises.{OffByAtMostTwiceDamaged, OffByAtMostDamagedAndResidual, ReadWithDividedArbitrary}
use Rattle.position_theory.specs.ReadPromises.{ErrorBarHoldsPosition, NearestOfAllowed, CountsBitsOfChunks, NeededAsDamaged}
use Rattle.position_theory.specs.ReadPromises.{ReadOnlyIfParityAgrees, MixedNeverRead, AsBeforeUnlessContradicted, ReadPromises}
use Rattle.position_theory.proofs.WordBytes.{place_of_word, residual_counts, reading_of_seen, reading, read_if_whole}
use Rattle.position_theory.proofs.RuleReads.{reads_in_code}
use Rattle.position_theory.proofs.PlainSeen.{plain_sees_chunks, plain_sees, within_radius_below}
use Rattle.position_theory.proofs.Nearest.{two_ends_nearest}
use Rattle.position_theory.proofs.BoundedError.{all_within, damaged_in_ext, plain_allowed, error_bounded, near_loosen}
use Rattle.position_theory.proofs.ReadWords.{read_if_served, read_shows}
use Rattle.position_theory.proofs.ChunkBits.{bits_of_chunks, differing_allowed}
use Rattle.position_theory.proofs.Contradictions.{parity_agrees, separator_from, mixed_refused, seventeen_past_card}
use Rattle.position_theory.proofs.SoundCards.{card_promise, read_sound}
use Rattle.std.specs.Prelude.{Ok}

-- ---- how far off: P7, and demand 3 from it

-- P7, where the divided chunk is damaged arbitrarily: the word is read, off by at most the damaged bits and the residual together; and
-- since the residual is at most the damaged bits, by at most twice these. (Each distance is compared as a number, so that a claim of a
-- smaller one is refused by a counterexample.)
pub read_with_divided_arbitrary : (card received : List ℕ) → ReadWithDividedArbitrary card received (read_answer card received)
unfolding ReadWithDividedArbitrary
read_with_divided_arbitrary card received position sound h within =
    let (near, least) = error_bounded (code_of card) (card_promise card sound) position received h within in
    let answer = read_word (code_of card) received in
    rw (read_sound card received sound)
    (near_loosen answer position _ _ (omega arith) near, near_loosen answer position _ _ (omega arith) near)

-- so the error bar that is drawn for e bits holds the position where at most e are damaged
pub error_bar_holds_position : (card received : List ℕ) → ErrorBarHoldsPosition card received (read_answer card received)
unfolding ErrorBarHoldsPosition
error_bar_holds_position card received position e sound h within few =
    let (near, least) = error_bounded (code_of card) (card_promise card sound) position received h within in
    rw (read_sound card received sound)
    (near_loosen (read_word (code_of card) received) position _ _ (omega arith) near, omega arith)

-- the sharper bound and demand 3 are P7's distances of a word within the radius in every chunk
pub off_by_at_most_damaged_and_residual : (card received : List ℕ)
    → OffByAtMostDamagedAndResidual card received (read_answer card received)
unfolding OffByAtMostDamagedAndResidual ReadWithDividedArbitrary
off_by_at_most_damaged_and_residual card received position sound h within =
    (read_with_divided_arbitrary card received position sound h (all_within (code_of card) position received within)).0

pub off_by_at_most_twice_damaged : (card received : List ℕ) → OffByAtMostTwiceDamaged card received (read_answer card received)
unfolding OffByAtMostTwiceDamaged ReadWithDividedArbitrary
off_by_at_most_twice_damaged card received position sound h within =
    near_loosen (read_answer card received) position _ _ (omega arith)
    (read_with_divided_arbitrary card received position sound h (all_within (code_of card) position received within)).1

-- ---- the nearest allowed position: demand 2

-- of a plain word's bits, and of a card and a word as bytes
plain_nearest : (C : Code) → ChunkPromise C → (x : ℕ → ℕ) → IsReading C x (reading C x)
plain_nearest C promise x =
    two_ends_nearest C promise (seen C x) (reads_in_code C (plain_sees_chunks C promise x)) (residual C x)

pub nearest_of_allowed : (card received : List ℕ) → NearestOfAllowed card received (read_answer card received)
unfolding NearestOfAllowed
nearest_of_allowed card received sound h spare = (
  rw (read_sound card received sound, read_if_whole (code_of card) received h spare)
      (plain_nearest (code_of card) (card_promise card sound) (place received)),
  residual_counts (code_of card) received spare,
)

-- ---- the bits that the chunks needed: P3

pub counts_bits_of_chunks : (card received : List ℕ) → CountsBitsOfChunks card received (read_answer card received)
unfolding CountsBitsOfChunks allowed rule_named
counts_bits_of_chunks card received r answered =
    let (sound, none, is) = read_shows card received r answered in
    rw (← is) (bits_of_chunks (code_of card) (card_promise card sound) (place received) none)

-- a word damaged within the radius allows its position, so the bits needed are the damaged ones
pub needed_as_damaged : (card received : List ℕ) → NeededAsDamaged card received (read_answer card received)
unfolding NeededAsDamaged reading_of_seen
needed_as_damaged card received position sound h d r answered =
    let C = code_of card in
    let promise = card_promise card sound in
    let x = place received in
    let allows = plain_allowed C promise position received h (all_within C position received d) in
    let read : reading C x ≡ Ok r =
    sym (read_sound card received sound ∙ read_if_whole C received d.right_length d.spare_zero) ∙ answered in
    let (none, is) = read_if_served _ _ _ read in
    let differing = differing_allowed C promise x none position (allows.from_low, allows.to_high) in
    let same : (c : ℕ) → c < 5 → damaged_in C c (word_at C position) x ≡ damaged_in C c (place (word_bytes C position)) x =
    λ c five. sym (damaged_in_ext C x (place_of_word C position) c five) in
    rw (← is) (λ named. differing.0 named ∙ same 1 (omega arith), λ named. differing.1 named ∙ same 3 (omega arith))

-- ---- the rule's separator: P6

pub read_only_if_parity_agrees : (card received : List ℕ) → ReadOnlyIfParityAgrees card received (read_answer card received)
unfolding ReadOnlyIfParityAgrees rule_named nearest_reading
read_only_if_parity_agrees card received r answered =
    let C = code_of card in
    let (sound, none, is) = read_shows card received r answered in
    let promise = card_promise card sound in
    rw (← is) (parity_agrees C (two_ends C) (seen C (place received)) (reads_in_code C (plain_sees_chunks C promise (place received))) none)

pub mixed_never_read : (card received : List ℕ) → MixedNeverRead card received (read_answer card received)
unfolding MixedNeverRead rule_named
mixed_never_read card received i j c mixed r answered =
    let C = code_of card in
    let x = place received in
    let (sound, none, _) = read_shows card received r answered in
    let promise = card_promise card sound in
    let separator = within_radius_below C promise (word C i) x _ mixed.separator in
    let chunk = within_radius_below C promise (word C j) x _ mixed.chunk in
    mixed_refused C (two_ends C) (plain_sees_chunks C promise x) i j c mixed.in_code' mixed.differ
    (separator_from C (plain_sees C promise (place_bit received)) i mixed.in_code separator) mixed.named chunk none

pub as_before_unless_contradicted : (card received : List ℕ) → AsBeforeUnlessContradicted card received (read_answer card received)
unfolding AsBeforeUnlessContradicted answer_before read_answer read_refusal rows_of_word rows_of rows_seen rows_9_to_12 numbered rule_named
as_before_unless_contradicted card received =
    seventeen_past_card (card_refusal card) _ refl (contradicted (seen (code_of card) (place received))) _

-- ---- all that is promised of a read beside demand 3 and the sharper bound

pub read_promises : (card received : List ℕ) → ReadPromises card received (read_answer card received)
read_promises card received =
    record {
      divided = read_with_divided_arbitrary card received;
      error_bar = error_bar_holds_position card received;
      nearest = nearest_of_allowed card received;
      bits = counts_bits_of_chunks card received;
      damaged = needed_as_damaged card received;
      agrees = read_only_if_parity_agrees card received;
      mixed = mixed_never_read card received;
      before = as_before_unless_contradicted card received;
    }
