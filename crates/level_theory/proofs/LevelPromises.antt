-- The theorems of a read of levels, of the answer that the definition gives to any card and levels: each is a law of whatever is seen of a
-- word, so it holds of what is seen of the levels, by the chunk promise that a sound card's code keeps. Assumes nothing.
use mathlib.Core.Path.{◌≡◌, refl, sym, ◌∙◌}
use mathlib.Core.Bool.{true, false}
use mathlib.Core.List.{List}
use mathlib.Core.Logic.{⊎_elim}
use Prim.Native.Nat.{ℕ, ◌<◌, ◌%◌}
use native.Mathlib.Omega.{arith}
use lib.Ieee.{Float}
use lib.ListN.{length}
use Rattle.bits.specs.Places.{place}
use Rattle.bits.proofs.Numbers.{eq_or_ne}
use Rattle.bits.proofs.Erasures.{unerased_ext_left}
use Rattle.bits.proofs.Searches.{any_none}
use Rattle.bits.proofs.Places.{length_pack, place_packed}
use Rattle.model.specs.Card.{Code, card_refusal, code_of, SoundCard}
use Rattle.model.specs.Words.{word_bits, word_bytes}
use Rattle.model.specs.Reading.{two_ends, rows_9_to_12, rows_seen, rule_seen, separator_by, nearest_reading}
use Rattle.model.specs.Levels.{any_outside, received_at, seen_in_levels, residual_unerased}
use Rattle.model.specs.ReadWord.{read_word, read_refusal, read_answer}
use Rattle.model.specs.ReadLevels.{rows_of_levels, levels_refusal, levels_answer, position_answer}
use Rattle.code_theory.proofs.RefusalRows.{numbered, refused_by_card}
use Rattle.code_theory.proofs.SoundCard.{sound_card}
use Rattle.position_theory.specs.Damage.{wrong_in_all}
use Rattle.position_theory.specs.Contradictions.{contradicted}
use Rattle.position_theory.proofs.WordChunkLaws.{five_wrong, five_erased}
use Rattle.position_theory.proofs.WordBytes.{packed_none_spare, reading, read_if_whole, place_of_word}
use Rattle.position_theory.proofs.RuleReads.{reads_in_code}
use Rattle.position_theory.proofs.Nearest.{two_ends_nearest}
use Rattle.position_theory.proofs.BoundedError.{all_below, error_of_seen, near_loosen}
use Rattle.position_theory.proofs.ChunkBits.{wrong_of_chunks}
use Rattle.position_theory.proofs.Contradictions.{parity_agrees, separator_from, mixed_refused, seventeen_past_card}
use Rattle.position_theory.proofs.SoundCards.{card_promise, read_sound}
use Rattle.level_theory.specs.UnitLevels.{OneLevels, UnitLevels, one}
use Rattle.level_theory.specs.LevelPromises.{OffByAtMostTwiceWrongAndErased, NearestOverUnerased, CountsWrongOfChunks, AsPlainReading}
use Rattle.level_theory.specs.LevelPromises.{LevelsReadOnlyIfParityAgrees, MixedLevelsNeverRead}
use Rattle.level_theory.specs.LevelPromises.{LevelsAsBeforeUnlessContradicted, LevelPromises}
use Rattle.level_theory.specs.LevelsSeen.{unerased_of, bits_of, word_of_bits, seen_of}
use Rattle.level_theory.specs.LevelContradictions.{levels_answer_before}
use Rattle.level_theory.proofs.UnitsReceived.{UnitOrErased, one_received, unit_received, one_unerased, unit_inside}
use Rattle.level_theory.proofs.ErasureCounts.{level_bit}
use Rattle.level_theory.proofs.LevelsSeen.{levels_see_chunks, levels_see, as_plain_seen, as_plain_residual}
use Rattle.level_theory.proofs.LevelsAnswered.{position_answered, read_if_inside, levels_sound, levels_show}

-- ---- the nearest allowed position over the bits that aren't erased

pub nearest_over_unerased : (card : List ℕ) (levels : List Float)
    → NearestOverUnerased card levels (position_answer (levels_answer card levels))
unfolding NearestOverUnerased
nearest_over_unerased card levels sound whole inside =
    let C = code_of card in
    let promised = card_promise card sound in
    let word = received_at levels in
    rw (levels_sound card levels sound, read_if_inside C levels whole inside)
    (two_ends_nearest C promised (seen_in_levels C word) (reads_in_code C (levels_see_chunks C promised word)) _)

-- and the wrong places of the chunks that the rule names
pub counts_wrong_of_chunks : (card : List ℕ) (levels : List Float)
    → CountsWrongOfChunks card levels (position_answer (levels_answer card levels))
unfolding CountsWrongOfChunks
counts_wrong_of_chunks card levels r answered =
    let C = code_of card in
    let word = received_at levels in
    let (sound, none, is) = levels_show card levels r answered in
    rw (← is) (wrong_of_chunks C (two_ends C) (seen_in_levels C word) (levels_see_chunks C (card_promise card sound) word) _ none)

-- ---- levels of 1 and -1

module _ (card : List ℕ) (levels : List Float) where
  abbrev C : Code
  C = code_of card

  -- none of them is outside the limits
  units_inside : UnitLevels levels (word_bits C) → any_outside (word_bits C) levels ≡ false
  unfolding any_outside
  units_inside units = any_none _ _ (λ p b. unit_inside (units p b))

  -- the plain word of these bits has the right length and no spare bit set, so it is read
  bits_in_place : (p : ℕ) → bits_of levels p < 2
  bits_in_place p = level_bit (received_at levels p)

  plain_read : read_word C (word_of_bits card levels) ≡ reading C (place (word_of_bits card levels))
  plain_read = read_if_whole C (word_of_bits card levels) (length_pack (word_bits C) (bits_of levels)) (packed_none_spare C bits_in_place)

  sound_as_plain : SoundCard card → length levels ≡ word_bits C → OneLevels levels (word_bits C)
      → position_answer (levels_answer card levels) ≡ read_answer card (word_of_bits card levels)
  unfolding received_at
  sound_as_plain sound whole ones =
      let x = place (word_of_bits card levels) in
      let units_received : (p : ℕ) → p < word_bits C → UnitOrErased (received_at levels p) = λ p b. one_received (ones p b) in
      let unerased : (p : ℕ) → p < word_bits C → unerased_of levels p ≡ true = λ p b. one_unerased (ones p b) in
      let same = place_packed (word_bits C) (bits_of levels) bits_in_place in
      rw (
        levels_sound card levels sound,
        read_if_inside C levels whole (units_inside (λ p b. one (ones p b))),
        read_sound card (word_of_bits card levels) sound,
        plain_read,
        as_plain_seen C (sound_card card sound) (received_at levels) units_received unerased x same,
        as_plain_residual C (sound_card card sound) (received_at levels) units_received unerased x same,
      )

  -- the answer is that of the plain reading, of a refused card too
  pub as_plain_reading : AsPlainReading card levels (position_answer (levels_answer card levels))
  unfolding AsPlainReading levels_answer levels_refusal read_answer read_refusal
  as_plain_reading whole ones =
      ⊎_elim (λ (sound : card_refusal card ≡ 0). sound_as_plain sound whole ones)
      (λ (refused : card_refusal card ≡ 0 → ⊥).
      position_answered C levels _
      ∙ refused_by_card (card_refusal card) _ _ _ refused ∙ sym (refused_by_card (card_refusal card) _ _ _ refused))
      (eq_or_ne (card_refusal card) 0)

  -- ---- levels of 1, -1 and 0 with 2 × wrong + erased below D in every chunk

  pub off_by_at_most_twice_wrong_and_erased : OffByAtMostTwiceWrongAndErased card levels (position_answer (levels_answer card levels))
  unfolding OffByAtMostTwiceWrongAndErased residual_unerased received_at
  off_by_at_most_twice_wrong_and_erased position sound h whole units below =
      let word = received_at levels in
      let u = place (word_bytes C position) in
      let sees = levels_see C (sound_card card sound) word (λ p b. unit_received (units p b)) in
      let (near, least) =
      error_of_seen C (card_promise card sound) sees position u h (place_of_word C position)
      (all_below C (unerased_of levels) position u (bits_of levels) below) in
      let wrong : residual_unerased C (unerased_of levels) (bits_of levels) position ≡ wrong_in_all C (unerased_of levels) u (bits_of levels) =
      sym (unerased_ext_left (unerased_of levels) (word_bits C) (bits_of levels) (place_of_word C position))
      ∙ five_wrong C (unerased_of levels) u (bits_of levels) in
      rw (levels_sound card levels sound, read_if_inside C levels whole (units_inside units))
      (near_loosen _ position _ _ (omega (arith, wrong, five_erased C (unerased_of levels), least)) near)

-- ---- the rule's separator: P6, and all that is promised

module _ (card : List ℕ) (levels : List Float) where
  pub levels_read_only_if_parity_agrees : LevelsReadOnlyIfParityAgrees card levels (position_answer (levels_answer card levels))
  unfolding LevelsReadOnlyIfParityAgrees nearest_reading
  levels_read_only_if_parity_agrees r answered =
      let C = code_of card in
      let (sound, none, is) = levels_show card levels r answered in
      rw (← is)
      (parity_agrees C (two_ends C) (seen_of card levels) (reads_in_code C (levels_see_chunks C (card_promise card sound) (received_at levels)))
      none)

  pub mixed_levels_never_read : MixedLevelsNeverRead card levels (position_answer (levels_answer card levels))
  unfolding MixedLevelsNeverRead received_at
  mixed_levels_never_read i j c mixed r answered =
      let C = code_of card in
      let s = seen_of card levels in
      let (sound, none, _) = levels_show card levels r answered in
      let reads : separator_by s (rule_seen s) ≡ i % 2 =
      ⊎_elim (λ read. read)
      (λ (units, below).
      separator_from C (levels_see C (sound_card card sound) (received_at levels) (λ p b. unit_received (units p b))) i mixed.in_code below)
      mixed.separator in
      mixed_refused C (two_ends C) (levels_see_chunks C (card_promise card sound) (received_at levels)) i j c mixed.in_code' mixed.differ
      reads mixed.named mixed.chunk none

  pub levels_as_before_unless_contradicted : LevelsAsBeforeUnlessContradicted card levels (position_answer (levels_answer card levels))
  unfolding LevelsAsBeforeUnlessContradicted levels_answer_before levels_answer levels_refusal rows_of_levels rows_seen rows_9_to_12 numbered
  levels_as_before_unless_contradicted =
      position_answered (code_of card) levels _ ∙ seventeen_past_card (card_refusal card) _ refl (contradicted (seen_of card levels)) _

  -- all that is promised of a read of levels beside its bound
  pub level_promises : LevelPromises card levels (position_answer (levels_answer card levels))
  level_promises =
      record {
        nearest = nearest_over_unerased card levels;
        bits = counts_wrong_of_chunks card levels;
        plain = as_plain_reading card levels;
        agrees = levels_read_only_if_parity_agrees;
        mixed = mixed_levels_never_read;
        before = levels_as_before_unless_contradicted;
      }
