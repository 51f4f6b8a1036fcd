-- Each row by its promise: the premise is computed of the damaged levels, and what the promise then says is the row. Assumes nothing.
use mathlib.Core.Path.{◌≡◌, refl, ap, ◌∙◌}
use mathlib.Core.Bool.{Bool, true, false}
use mathlib.Core.List.{List, [], ◌∷◌}
use mathlib.Core.Logic.{inl, inr}
use Prim.Native.Nat.{ℕ, zero, suc, ◌+◌, ◌*◌, ◌%◌, ◌≤◌, ◌<◌}
use native.Mathlib.Omega.{arith}
use borrow.Author.Tests.{leb-true, leb-false, ltb-false, eqb-false}
use lib.Dec.{leb, ltb, eqb}
use lib.Ieee.{Float, nan, span, climb, size, odd, units, round, neg, sum, add, lt, eq, is_nan, of_int}
use lib.Count.{count_trailing_zeros}
use lib.ListN.{length, get_or}
use Rattle.bits.specs.Sums.{sum_below, distance, distance_unerased, erased_below, join_at}
use Rattle.bits.specs.Walk.{walk}
use Rattle.bits.specs.Places.{weight, place, cut, byte_of, list_of, pack}
use Rattle.bits.specs.Searches.{any_below, first_from, first, least_at, greatest}
use Rattle.bits.proofs.Searches.{none_of_any}
use Rattle.model.specs.Refusals.{first_refusal, unless_refused}
use Rattle.model.specs.Card.{Code, high_first, row_of, sum_of_rows, least_weight, code_of}
use Rattle.model.specs.CardBytes.{bytes_of, row_bytes, sealed, card_of}
use Rattle.model.specs.Order.{gray, last_codeword, codeword, changed_row, changed_weight, start, last_position}
use Rattle.model.specs.Words.{chunk₁, chunk₂, word_bits, chunk_size, places_before, five_chunks, word, block_of, word_at, word_bytes}
use Rattle.model.specs.Reading.{majority, chunk_distance, within_radius, read_first, chunk_reading, unreadable, number_read, seen}
use Rattle.model.specs.Reading.{rule_seen, rule_of, number_by, separator_of, parity_differs, two_ends, rows_9_to_12, rows_seen, rule_named, rows_of}
use Rattle.model.specs.Reading.{allowed, residual, nearest_in, bits_needed, nearest_reading}
use Rattle.model.specs.Levels.{magnitude, infinite, outside, any_outside, received_level, received_at, is_unerased}
use Rattle.model.specs.Levels.{bit_of_level, plus_level, sum_of_levels}
use Rattle.model.specs.Levels.{separator_reading, chunk_wrong, within_erasures, erasure_reading, seen_in_levels, residual_unerased}
use Rattle.model.specs.ReadWord.{spare_set, rows_of_word, read_refusal, read_answer}
use Rattle.model.specs.CardsToTry.{card_b}
use Rattle.model.specs.declared.Reading.{Reading}
use Rattle.code_theory.proofs.CodeWitnesses.{card_b_sound}
use Rattle.position_theory.specs.Damage.{wrong_in, erased_in, ChunksBelowD, wrong_in_all, erased_in_all}
use Rattle.position_theory.specs.ChunkBits.{CountsWrong, WrongOfChunks}
use Rattle.position_theory.specs.Contradictions.{NamedChunk, unless_contradicted}
use Rattle.position_theory.specs.PositionWitnesses.{ReadAs, ReadWithin, NoneReads}
use Rattle.position_theory.proofs.PositionWitnesses.{computed, near_within, read_as, refused_as, first_codeword}
use Rattle.position_theory.proofs.PositionWitnesses.{first_agrees, second_agrees}
use Rattle.level_theory.specs.UnitLevels.{OneLevel, plus_one, minus_one, OneLevels, UnitLevel, one, zero_level_lem, UnitLevels}
use Rattle.level_theory.specs.LevelPromises.{NearestOverUnerased, CountsWrongOfChunks}
use Rattle.level_theory.specs.LevelsSeen.{unerased_of, bits_of, seen_of}
use Rattle.level_theory.specs.ReadsBelowD.{ChunksReadBelowD}
use Rattle.level_theory.specs.LevelPromises.{AsPlainReading, OffByAtMostTwiceWrongAndErased, LevelsReadOnlyIfParityAgrees}
use Rattle.level_theory.specs.LevelPromises.{MixedLevelsNeverRead, LevelsAsBeforeUnlessContradicted}
use Rattle.level_theory.specs.LevelContradictions.{SeparatorFrom, MixedLevels}
use Rattle.level_theory.specs.LevelContradictions.{levels_answer_before}
use Rattle.level_theory.specs.LevelWitnesses.{level_of, levels_of, seven_wrong, last_wrong, last_erased, all_damaged, zero_damaged}
use Rattle.level_theory.specs.LevelWitnesses.{wrong_and_erased, three_erased, mixed, mixed_erased, mixed_wrong, LevelsWitnessed}
use Rattle.std.specs.Prelude.{Ok, Option, Some}
use Rattle.model.specs.ReadWord.{ReadAnswer}

-- ---- premises, as tests that are computed

-- each level of a word is one of 1, -1 and 0; and of 1 and -1 where no bit is erased
level_is : (bits : List ℕ) (p : ℕ) → p < length bits → get_or (levels_of bits) p nan ≡ level_of (get_or bits p 0)
level_is [] p h = absurd (omega arith)
level_is (b ∷ bits) zero h = refl
level_is (b ∷ bits) (suc p) h = level_is bits p (omega arith)

unit_level : (b : ℕ) → UnitLevel (level_of b)
unfolding level_of
unit_level zero = one plus_one
unit_level (suc zero) = one minus_one
unit_level (suc (suc zero)) = zero_level_lem false
unit_level (suc (suc (suc b))) = zero_level_lem true

one_level : (b : ℕ) → b ≤ 1 → OneLevel (level_of b)
unfolding level_of
one_level zero h = plus_one
one_level (suc zero) h = minus_one
one_level (suc (suc b)) h = absurd (omega arith)

unit_levels : (bits : List ℕ) → UnitLevels (levels_of bits) (length bits)
unit_levels bits p h = rw (level_is bits p h) (unit_level (get_or bits p 0))

one_levels : (bits : List ℕ) → any_below (λ p. ltb 1 (get_or bits p 0)) (length bits) ≡ false → OneLevels (levels_of bits) (length bits)
one_levels bits none p h = rw (level_is bits p h) (one_level (get_or bits p 0) (ltb-false _ _ (none_of_any _ (length bits) none p h)))

-- every chunk has 2 × wrong + erased below D
below : (C : Code) (unerased : ℕ → Bool) (u x : ℕ → ℕ)
    → any_below (λ c. leb C.D (2 * wrong_in C unerased c u x + erased_in C unerased c)) 5 ≡ false → ChunksBelowD C unerased u x
unfolding ChunksBelowD
below C unerased u x none c five = leb-false _ _ (none_of_any _ 5 none c five)

-- so the answer is as near as the damage says
within_damage : (position e : ℕ) (bits : List ℕ)
    → let C : Code = code_of card_b in
    let unerased : ℕ → Bool = unerased_of (levels_of bits) in
    let x : ℕ → ℕ = bits_of (levels_of bits) in
    let u : ℕ → ℕ = place (word_bytes C position) in
    length (levels_of bits) ≡ word_bits C → length bits ≡ word_bits C → position ≤ last_position C → ChunksBelowD C unerased u x
    → 2 * wrong_in_all C unerased u x + erased_in_all C unerased ≡ e
    → (answer : ReadAnswer) → OffByAtMostTwiceWrongAndErased card_b (levels_of bits) answer → ReadWithin e position answer
unfolding OffByAtMostTwiceWrongAndErased
within_damage position e bits whole size on_track few is answer promise =
    let near = promise position card_b_sound on_track whole (rw size at (unit_levels bits)) few in
    near_within answer position e (rw is at near)

-- ---- what is counted of chunks

-- the rule is the one that the separators name
counts_by_rule : (card : List ℕ) (levels : List Float) (r : Reading) → CountsWrongOfChunks card levels (Ok r)
    → let C : Code = code_of card in
    let s = seen_of card levels in
    WrongOfChunks C (unerased_of levels) (bits_of levels) s (rule_seen s) r.chunk1 r.chunk2
unfolding CountsWrongOfChunks
counts_by_rule card levels r promise = let counts = promise r refl in rw counts.by_rule at counts

-- the count of a chunk that is named is that of its wrong places
count_is : (C : Code) (unerased : ℕ → Bool) (chunk : ℕ → ℕ) (p q : ℕ) (bits : (Option ℕ)) → p ≡ q → CountsWrong C true unerased chunk p bits
    → bits ≡ Some (chunk_wrong C unerased chunk q)
unfolding CountsWrong
count_is C unerased chunk p q bits is (count, as_read, counted, few) = as_read ∙ ap Some (rw is at counted)

-- and 2 × wrong + erased is below D: nothing is counted of a chunk for which that holds of no codeword
no_count : (C : Code) (unerased : ℕ → Bool) (chunk : ℕ → ℕ) (p last : ℕ) (bits : (Option ℕ))
    → any_below (within_erasures C unerased chunk) (suc last) ≡ false → p ≤ last → CountsWrong C true unerased chunk p bits → ⊥
unfolding CountsWrong within_erasures
no_count C unerased chunk p last bits none in_code (count, as_read, counted, few) =
    let far = ltb-false _ C.D (none_of_any (within_erasures C unerased chunk) (suc last) none p (omega arith)) in omega arith

-- ---- levels mixed from two telegrams

never_read : (levels : List Float) (i j c : ℕ)
    → let C : Code = code_of card_b in
    let unerased : ℕ → Bool = unerased_of levels in
    leb i (last_codeword C) ≡ true → leb j (last_codeword C) ≡ true → eqb (i % 2) (j % 2) ≡ false
    → NamedChunk (rule_seen (seen_of card_b levels)) c → SeparatorFrom card_b levels i
    → ltb (2 * wrong_in C unerased c (word C j) (bits_of levels) + erased_in C unerased c) C.D ≡ true
    → NoneReads (MixedLevelsNeverRead card_b levels)
unfolding MixedLevelsNeverRead
never_read levels i j c in_code in_code' differ named separator chunk r promise =
    let is_mixed : MixedLevels card_b levels i j c = search (leb-true, eqb-false) in promise i j c is_mixed r refl

-- ---- the rows

pub levels_witnessed : LevelsWitnessed
unfolding sum_below distance distance_unerased erased_below join_at walk weight place cut byte_of list_of pack
    any_below first_from first least_at greatest
    span climb size odd units round neg sum add lt eq is_nan of_int count_trailing_zeros
    high_first row_of sum_of_rows least_weight code_of first_refusal unless_refused bytes_of row_bytes sealed card_of card_b
    gray last_codeword codeword changed_row changed_weight start last_position
    chunk_size places_before five_chunks word block_of word_at word_bytes
    majority chunk_distance within_radius read_first chunk_reading unreadable number_read seen
    rule_of number_by separator_of parity_differs two_ends rows_9_to_12 rows_seen rule_named rows_of allowed residual nearest_in bits_needed nearest_reading
    spare_set rows_of_word read_refusal read_answer
    magnitude infinite outside any_outside received_level received_at is_unerased bit_of_level plus_level sum_of_levels
    separator_reading chunk_wrong within_erasures erasure_reading seen_in_levels residual_unerased
    wrong_in erased_in wrong_in_all erased_in_all CountsWrong unless_contradicted level_of ReadAs
    ChunksReadBelowD NearestOverUnerased AsPlainReading LevelsReadOnlyIfParityAgrees levels_answer_before LevelsAsBeforeUnlessContradicted
levels_witnessed =
    record {
      two_erased = λ promise. (promise card_b_sound (λ p. eqb p 1) (λ p. 1)).read 1 (computed refl, computed refl);
      smaller_of_two = λ answer promise. read_as _ _ _ _ answer (promise card_b_sound refl refl) refl;
      smallest_of_wrong = λ answer promise. read_as _ _ _ _ answer (promise card_b_sound refl refl) refl;
      smallest_of_erased = λ answer promise. read_as _ _ _ _ answer (promise card_b_sound refl refl) refl;
      by_17 = λ answer promise. refused_as _ _ _ _ answer (promise card_b_sound refl refl) 16 refl;
      below_d = λ r promise.
          let B = code_of card_b in
          let levels = levels_of zero_damaged in
          let counts = counts_by_rule card_b levels r promise in
          let is = first_codeword ((two_ends B).range 3) counts.p counts.in_code (computed refl) counts.allows refl in (
            count_is B (chunk₁ B (unerased_of levels)) (chunk₁ B (bits_of levels)) _ 0 _ is counts.first,
            count_is B (chunk₂ B (unerased_of levels)) (chunk₂ B (bits_of levels)) _ 0 _ is counts.second,
          );
      not_named = λ r promise.
          let B = code_of card_b in
          let levels = levels_of seven_wrong in
          let counts = counts_by_rule card_b levels r promise in
          let is = first_codeword ((two_ends B).range 2) counts.p counts.in_code (computed refl) counts.allows refl in
          (counts.first, count_is B (chunk₂ B (unerased_of levels)) (chunk₂ B (bits_of levels)) _ 0 _ is counts.second);
      wrong_and_erased_lem = λ r promise.
          let B = code_of card_b in
          let levels = levels_of wrong_and_erased in
          let counts = counts_by_rule card_b levels r promise in
          no_count B (chunk₁ B (unerased_of levels)) (chunk₁ B (bits_of levels)) counts.p 1 _ refl counts.in_code counts.first;
      three_erased_lem = λ r promise.
          let B = code_of card_b in
          let levels = levels_of three_erased in
          let counts = counts_by_rule card_b levels r promise in
          no_count B (chunk₁ B (unerased_of levels)) (chunk₁ B (bits_of levels)) counts.p 1 _ refl counts.in_code counts.first;
      as_plain = λ answer promise. rw (promise refl (one_levels seven_wrong refl), card_b_sound) (refl, refl, refl);
      refused_as_plain = λ answer promise. rw card_b_sound at (promise refl (one_levels mixed refl));
      twice_wrong = within_damage 15 2 last_wrong refl refl (computed refl) (below _ _ _ _ refl) refl;
      once_erased = within_damage 15 2 last_erased refl refl (computed refl) (below _ _ _ _ refl) refl;
      in_all = within_damage 15 10 all_damaged refl refl (computed refl) (below _ _ _ _ refl) refl;
      contradicts = λ r promise. eqb-false 0 1 refl (first_agrees _ _ _ (promise r refl) refl);
      contradicts_by_rule_1 = λ r promise. eqb-false 0 1 refl (first_agrees _ _ _ (promise r refl) refl);
      contradicts_by_rule_2 = λ r promise. eqb-false 1 0 refl (second_agrees _ _ _ (promise r refl) refl);
      mixed_erased_lem = never_read _ 0 1 1 refl refl refl (inl (refl, refl)) (inr (unit_levels mixed_erased, computed refl)) refl;
      mixed_wrong_lem = never_read _ 0 1 1 refl refl refl (inl (refl, refl)) (inr (unit_levels mixed_wrong, computed refl)) refl;
      mixed_in_chunk_2 = never_read _ 0 1 3 refl refl refl (inr (refl, refl)) (inl refl) refl;
      mixed_by_rule_1 = never_read _ 0 1 1 refl refl refl (inl (refl, refl)) (inl refl) refl;
      mixed_by_rule_2 = never_read _ 1 0 3 refl refl refl (inr (refl, refl)) (inl refl) refl;
      mixed_of_any_levels = never_read _ 0 1 1 refl refl refl (inl (refl, refl)) (inl refl) refl;
      refused_now = λ answer promise. rw card_b_sound at promise;
      read_as_before = λ answer promise. rw (promise, card_b_sound) (refl, refl, refl);
      refused_as_before = λ answer promise. rw card_b_sound at promise;
    }
