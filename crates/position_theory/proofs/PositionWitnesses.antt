-- Each row by its promise: the premise is computed of the damaged word, and what the promise then says is the row. Assumes nothing.
use mathlib.Core.Path.{◌≡◌, refl, sym, ap, ◌∙◌}
use mathlib.Core.Bool.{true, false, not, ◌&&◌}
use mathlib.Core.List.{List}
use mathlib.Core.Logic.{inl, inr, ⊎_elim}
use Prim.Native.Nat.{ℕ, zero, suc, ◌+◌, ◌*◌, ◌%◌, ◌≤◌, ◌<◌}
use native.Mathlib.Nat.{add_comm, eq-or-lt_of_le}
use native.Mathlib.Omega.{arith}
use lib.Dec.{leb, ltb, eqb}
use lib.ListN.{length}
use borrow.Author.Tests.{leb-true, leb-false, ltb-false, eqb-false}
use Rattle.bits.specs.Sums.{sum_below, distance, join_at}
use Rattle.bits.specs.Walk.{walk}
use Rattle.bits.specs.Places.{weight, place, cut, byte_of, list_of, pack}
use Rattle.bits.specs.Searches.{any_below, first, least_at, greatest}
use Rattle.bits.proofs.Numbers.{lt_or_le}
use Rattle.bits.proofs.Searches.{none_of_any}
use Rattle.model.specs.Refusals.{first_refusal, unless_refused}
use Rattle.model.specs.Card.{Code, SoundCard, radius}
use Rattle.model.specs.Card.{high_first, row_of, sum_of_rows, least_weight, code_of}
use Rattle.model.specs.CardBytes.{bytes_of, row_bytes, sealed, card_of}
use Rattle.model.specs.Order.{gray, last_codeword, codeword, changed_row, changed_weight, start, last_position}
use Rattle.model.specs.Words.{chunk₁, chunk₂, chunk_size, places_before, five_chunks, word, block_of, word_at, word_bytes, divided, word_length}
use Rattle.model.specs.Reading.{majority, chunk_distance, within_radius, read_first, chunk_reading, unreadable, number_read, seen}
use Rattle.model.specs.Reading.{rule_of, number_by, separator_of, parity_differs, two_ends, rows_9_to_12, rows_seen, rule_named}
use Rattle.model.specs.Reading.{Seen, Range, Rules, rule_seen, names_first, names_second, separator_by}
use Rattle.model.specs.Reading.{allowed, residual, nearest_in, bits_needed, nearest_reading}
use Rattle.model.specs.ReadWord.{spare_set}
use Rattle.model.specs.CardsToTry.{card_a, card_b}
use Rattle.model.specs.declared.Reading.{Reading}
use Rattle.code_theory.proofs.CodeWitnesses.{card_b_sound}
use Rattle.position_theory.specs.Damage.{damaged_in, damaged_in_all, damaged, ChunksWithin, WithinRadius, Near, residual_of}
use Rattle.position_theory.specs.Damage.{UndividedWithinRadius}
use Rattle.position_theory.specs.Nearest.{refusal_of, allowed_by, NearestOf, IsReadingOf}
use Rattle.position_theory.specs.WritePromises.{WrittenIfServable, UnchangedIfRefused, NeighboursDifferInOneBit, NoOtherPositionsWord}
use Rattle.position_theory.specs.ReadPromises.{NearestOfAllowed, OffByAtMostTwiceDamaged, OffByAtMostDamagedAndResidual}
use Rattle.position_theory.specs.ReadPromises.{ReadWithDividedArbitrary, ErrorBarHoldsPosition, CountsBitsOfChunks, NeededAsDamaged}
use Rattle.position_theory.specs.ReadPromises.{ReadOnlyIfParityAgrees, MixedNeverRead, AsBeforeUnlessContradicted}
use Rattle.position_theory.specs.DividedChunks.{AtMostOneDivided}
use Rattle.position_theory.specs.ChunkBits.{CountsBits, BitsOfChunks}
use Rattle.position_theory.specs.Contradictions.{ParityAgrees, separator_chunk, NamedChunk, Mixed}
use Rattle.position_theory.specs.Contradictions.{unless_contradicted, answer_before}
use Rattle.position_theory.specs.PositionWitnesses.{ReadAs, ReadWithin, ReadWithinErrorBar, NoneReads, Witnessed}
use Rattle.position_theory.specs.PositionWitnesses.{seven_damaged, last_damaged, last_all_damaged, eleven}
use Rattle.position_theory.specs.PositionWitnesses.{zero_damaged, ten_damaged, seven_in_chunk2, divided_damaged, unreadable_a}
use Rattle.position_theory.specs.PositionWitnesses.{mixed, mixed_damaged, mixed_in_chunk2, mixed_by_rule1, mixed_by_rule2}
use Rattle.position_theory.proofs.Ranges.{nearest_in_lem}
use Rattle.position_theory.proofs.RuleReads.{number_of}
use Rattle.std.specs.Prelude.{Ok, Option, Some}
use Rattle.model.specs.ReadWord.{ReadAnswer}
use Rattle.model.specs.Refusals.{Refused}
use Rattle.std.specs.Prelude.{Err}

-- ---- premises, as tests that are computed

pub computed : {a b : ℕ} → leb a b ≡ true → a ≤ b
computed {a} {b} test = leb-true a b test

-- no chunk has more than t damaged bits
pub within : (C : Code) (position : ℕ) (received : List ℕ) → length received ≡ word_length C → spare_set C received ≡ false
    → any_below (λ c. ltb (radius C) (damaged_in C c (place (word_bytes C position)) (place received))) 5 ≡ false
    → WithinRadius C position received
unfolding ChunksWithin
within C position received size spare none =
    record { right_length = size; spare_zero = spare; chunks = λ c five. ltb-false _ _ (none_of_any _ 5 none c five) }

-- no chunk that is not divided has more than t damaged bits
undivided : (C : Code) (position : ℕ) (received : List ℕ) → length received ≡ word_length C → spare_set C received ≡ false
    → any_below (λ c. not (divided C position c) && ltb (radius C) (damaged_in C c (place (word_bytes C position)) (place received))) 5 ≡ false
    → UndividedWithinRadius C position received
undivided C position received size spare none =
    record {
      right_length = size;
      spare_zero = spare;
      chunks = λ c five whole. ltb-false _ _ (rw whole at (none_of_any _ 5 none c five));
    }

-- ---- what a bound says of an answer

pub near_within : (answer : ReadAnswer) (position e : ℕ) → Near answer position e → ReadWithin e position answer
unfolding Near ReadWithin
near_within (Ok r) position e near = near
near_within (Err refusal) position e near = near

near_in_error_bar : (answer : ReadAnswer) (position e : ℕ) → Near answer position (e + residual_of answer)
    → ReadWithinErrorBar e position answer
unfolding Near ReadWithin ReadWithinErrorBar residual_of
near_in_error_bar (Ok r) position e near = near
near_in_error_bar (Err refusal) position e near = near

both_distances : (position e : ℕ) (received : List ℕ) → SoundCard card_b → position ≤ last_position (code_of card_b)
    → UndividedWithinRadius (code_of card_b) position received → damaged (code_of card_b) position received ≡ e
    → (answer : ReadAnswer) → ReadWithDividedArbitrary card_b received answer
    → ReadWithinErrorBar e position answer × ReadWithin (2 * e) position answer
unfolding ReadWithDividedArbitrary
both_distances position e received sound on_track within is answer promise =
    let (sharper, twice) = promise position sound on_track within in
    (near_in_error_bar answer position e (rw is at sharper), near_within answer position (2 * e) (rw is at twice))

error_bar_holds : (position e : ℕ) (received : List ℕ) → SoundCard card_b → position ≤ last_position (code_of card_b)
    → UndividedWithinRadius (code_of card_b) position received → damaged (code_of card_b) position received ≤ e
    → (answer : ReadAnswer) → ErrorBarHoldsPosition card_b received answer → ReadWithinErrorBar e position answer
unfolding ErrorBarHoldsPosition
error_bar_holds position e received sound on_track within few answer promise =
    near_in_error_bar answer position e (rw (add_comm e (residual_of answer)) (promise position e sound on_track within few).0)

-- ---- what is nearest, and what is refused

module _ (R : Rules) (last : ℕ) (s : Seen) (residual_at : ℕ → ℕ) where
  -- there is one nearest position
  nearest_is_one : (q e rule : ℕ) → NearestOf R last s residual_at q e rule → q ≡ nearest_in residual_at (allowed_by R s)
  nearest_is_one q e rule n =
      let q' = nearest_in residual_at (allowed_by R s) in
      let n' = nearest_in_lem residual_at (allowed_by R s) (omega (arith, n.from_low, n.to_high)) in
      ⊎_elim
      (λ (below : q < q').
      absurd (omega (arith, n'.none_smaller q n.from_low below, n.none_nearer q' n'.from_low n'.to_high, n.counted)))
      (λ (up : q' ≤ q).
      ⊎_elim (λ (is : q' ≡ q). sym is)
      (λ (above : q' < q).
      absurd (omega (arith, n.none_smaller q' n'.from_low above, n'.none_nearer q n.from_low n.to_high, n.counted)))
      (eq-or-lt_of_le up))
      (lt_or_le q q')

  pub read_as : (answer : ReadAnswer) → IsReadingOf R last s residual_at answer → refusal_of R s ≡ 0
      → let q = nearest_in residual_at (allowed_by R s) in ReadAs q (residual_at q) (rule_seen s) answer
  unfolding IsReadingOf ReadAs
  read_as (Ok r) n none =
      let is = nearest_is_one r.position r.residual r.rule n in (is, rw is at n.counted, n.by_rule)
  read_as (Err refusal) (is, some) none = some (sym is ∙ none)

  pub refused_as : (answer : ReadAnswer) → IsReadingOf R last s residual_at answer → (refusal : ℕ) → refusal_of R s ≡ suc refusal
      → answer ≡ Refused (suc refusal)
  unfolding IsReadingOf
  refused_as (Ok r) n refusal some = let none = n.none_refuses in absurd (omega arith)
  refused_as (Err refused) (is, _) refusal some = ap Refused (sym is ∙ some)

-- ---- what is counted of chunks

-- the rule is the one that the separators name
counts_by_rule : (card received : List ℕ) (r : Reading) → CountsBitsOfChunks card received (Ok r)
    → let C : Code = code_of card in
    BitsOfChunks C (place received) (rule_seen (seen C (place received))) r.chunk1 r.chunk2
unfolding CountsBitsOfChunks
counts_by_rule card received r promise = let counts = promise r refl in rw counts.by_rule at counts

-- the count of a chunk that is named is that of the places in which it differs from c(p)
count_is : (C : Code) (chunk : ℕ → ℕ) (p q : ℕ) (bits : (Option ℕ)) → p ≡ q → CountsBits C true chunk p bits
    → bits ≡ Some (chunk_distance C chunk q)
unfolding CountsBits
count_is C chunk p q bits is (count, as_read, (counted, few)) = as_read ∙ ap Some (rw is at counted)

-- and it is at most t: nothing is counted of a chunk to which no codeword is so near
no_count : (C : Code) (chunk : ℕ → ℕ) (p last : ℕ) (bits : (Option ℕ)) → any_below (within_radius C chunk) (suc last) ≡ false → p ≤ last
    → CountsBits C true chunk p bits → ⊥
unfolding CountsBits within_radius
no_count C chunk p last bits none in_code (count, as_read, (counted, few)) =
    let far = leb-false (chunk_distance C chunk p) (radius C) (none_of_any (within_radius C chunk) (suc last) none p (omega arith)) in
    omega arith

-- of two codewords, the first is the one by whose number a rule allows positions from 0 on
pub first_codeword : (range : ℕ → Range) (p : ℕ) → p ≤ 1 → 0 < (range 1).low → range 0 ≡ range p → (range 0).low ≡ 0 → p ≡ 0
first_codeword range zero two far is from = refl
first_codeword range (suc zero) two far is from = let low = ap (λ (r : Range). r.low) is in absurd (omega arith)
first_codeword range (suc (suc p)) two far is from = absurd (omega arith)

-- ---- separators against code chunks

module _ (C : Code) (s : Seen) (rule : ℕ) (agrees : ParityAgrees C s rule) where
  -- the rule's separator reads as the parity of the number that a chunk reads, where the rule names this one
  pub first_agrees : names_first (rule_seen s) ≡ true → separator_by s (rule_seen s) ≡ number_read s.read₁ % 2
  first_agrees named =
      let is = number_of s.read₁ (agrees.first (rw agrees.by_rule named)) in
      rw agrees.by_rule at agrees.parity ∙ ap (λ (p : ℕ). p % 2) (sym is)

  pub second_agrees : names_second (rule_seen s) ≡ true → separator_by s (rule_seen s) ≡ number_read s.read₂ % 2
  second_agrees named =
      let is = number_of s.read₂ (agrees.second (rw agrees.by_rule named)) in
      rw agrees.by_rule at agrees.parity ∙ ap (λ (p : ℕ). p % 2) (sym is)

-- a word that is mixed from two telegrams, by what is computed of it: every premise is one of these facts
never_read : (received : List ℕ) (i j c : ℕ)
    → let C : Code = code_of card_b in
    let x : ℕ → ℕ = place received in
    leb i (last_codeword C) ≡ true → leb j (last_codeword C) ≡ true → eqb (i % 2) (j % 2) ≡ false → NamedChunk (rule_named C x) c
    → leb (damaged_in C (separator_chunk (rule_named C x)) (word C i) x) (radius C) ≡ true
    → leb (damaged_in C c (word C j) x) (radius C) ≡ true → NoneReads (MixedNeverRead card_b received)
unfolding MixedNeverRead
never_read received i j c in_code in_code' differ named separator chunk r promise =
    let is_mixed : Mixed (code_of card_b) (place received) i j c = search (leb-true, eqb-false) in promise i j c is_mixed r refl

pub witnessed : Witnessed
unfolding sum_below distance join_at walk weight place cut byte_of list_of pack
    any_below first least_at greatest
    high_first row_of sum_of_rows least_weight code_of first_refusal unless_refused bytes_of row_bytes sealed card_of card_a card_b
    gray last_codeword codeword changed_row changed_weight start last_position
    chunk_size places_before five_chunks word block_of word_at word_bytes divided
    majority chunk_distance within_radius read_first chunk_reading unreadable number_read seen
    rule_of number_by separator_of parity_differs two_ends rows_9_to_12 rows_seen rule_named allowed residual nearest_in bits_needed nearest_reading spare_set
    damaged_in damaged_in_all damaged
    WrittenIfServable UnchangedIfRefused NeighboursDifferInOneBit NoOtherPositionsWord NearestOfAllowed
    OffByAtMostTwiceDamaged OffByAtMostDamagedAndResidual ReadWithDividedArbitrary ErrorBarHoldsPosition AtMostOneDivided
    CountsBits CountsBitsOfChunks NeededAsDamaged ReadOnlyIfParityAgrees MixedNeverRead
    unless_contradicted answer_before AsBeforeUnlessContradicted ReadAs residual_of
witnessed =
    record {
      written = λ answer promise. promise card_b_sound (computed refl) refl;
      unchanged = λ left promise. promise (λ is. let z : ◌≡◌ {A = ℕ} 0 1 = cc in omega arith);
      last_is_next = λ word promise. promise 15 (computed refl) (inl refl);
      before_last = λ word promise. promise 14 (computed refl) (inr refl);
      zero_is_before = λ word promise. promise 0 (computed refl) (inr refl);
      alone = λ position promise. sym (promise 15 (computed refl) refl);
      smaller_of_two = λ answer promise. read_as _ _ _ _ answer (promise card_b_sound refl refl).0 refl;
      smaller_at_last = λ answer promise. read_as _ _ _ _ answer (promise card_b_sound refl refl).0 refl;
      residual_counts = λ answer promise. (promise card_b_sound refl refl).1 15;
      by_17 = λ answer promise. refused_as _ _ _ _ answer (promise card_b_sound refl refl).0 16 refl;
      twice = λ answer promise. near_within answer 7 2 (promise 7 card_b_sound (computed refl) (within _ 7 seven_damaged refl refl refl));
      twice_at_last =
          λ answer promise. near_within answer 15 2 (promise 15 card_b_sound (computed refl) (within _ 15 last_damaged refl refl refl));
      twice_in_all = λ answer promise.
          near_within answer 15 10 (promise 15 card_b_sound (computed refl) (within _ 15 last_all_damaged refl refl refl));
      sharper =
          λ answer promise. near_in_error_bar answer 7 1 (promise 7 card_b_sound (computed refl) (within _ 7 seven_damaged refl refl refl));
      sharper_at_last =
          λ answer promise. near_in_error_bar answer 15 1 (promise 15 card_b_sound (computed refl) (within _ 15 last_damaged refl refl refl));
      sharper_in_all = λ answer promise.
          near_in_error_bar answer 15 5 (promise 15 card_b_sound (computed refl) (within _ 15 last_all_damaged refl refl refl));
      separator_1_arbitrary = both_distances 2 7 _ card_b_sound (computed refl) (undivided _ 2 _ refl refl refl) refl;
      chunk_1_arbitrary = both_distances 5 7 _ card_b_sound (computed refl) (undivided _ 5 _ refl refl refl) refl;
      separator_2_arbitrary = both_distances 8 7 _ card_b_sound (computed refl) (undivided _ 8 _ refl refl refl) refl;
      chunk_2_arbitrary = both_distances 11 7 _ card_b_sound (computed refl) (undivided _ 11 _ refl refl refl) refl;
      separator_3_arbitrary = both_distances 14 7 _ card_b_sound (computed refl) (undivided _ 14 _ refl refl refl) refl;
      undivided_at_last = both_distances 15 1 _ card_b_sound (computed refl) (undivided _ 15 _ refl refl refl) refl;
      error_bar = error_bar_holds 4 3 _ card_b_sound (computed refl) (undivided _ 4 _ refl refl refl) (computed refl);
      error_bar_at_last = error_bar_holds 15 1 _ card_b_sound (computed refl) (undivided _ 15 _ refl refl refl) (computed refl);
      error_bar_residual =
          λ r promise. (promise 4 3 card_b_sound (computed refl) (undivided _ 4 divided_damaged refl refl refl) (computed refl)).1;
      one_divided = λ promise c five is. sym ((promise card_b_sound).at_most_one 14 4 c (computed refl) (computed refl) five refl is);
      just_t = λ r promise.
          let B = code_of card_b in
          let counts = counts_by_rule card_b zero_damaged r promise in
          let is = first_codeword ((two_ends B).range 3) counts.p counts.in_code (computed refl) counts.allows refl in (
            count_is B (chunk₁ B (place zero_damaged)) _ 0 _ is counts.first,
            count_is B (chunk₂ B (place zero_damaged)) _ 0 _ is counts.second,
          );
      not_named = λ r promise.
          let B = code_of card_b in
          let counts = counts_by_rule card_b seven_damaged r promise in
          let is = first_codeword ((two_ends B).range 2) counts.p counts.in_code (computed refl) counts.allows refl in
          (counts.first, count_is B (chunk₂ B (place seven_damaged)) _ 0 _ is counts.second);
      not_named_by_rule_1 = λ r promise. (counts_by_rule card_b eleven r promise).second;
      above_t = λ r promise.
          let A = code_of card_a in
          let counts = counts_by_rule card_a unreadable_a r promise in
          no_count A (chunk₁ A (place unreadable_a)) counts.p 3 _ refl counts.in_code counts.first;
      needed = λ r is promise.
          let (first, second) = promise 0 card_b_sound (computed refl) (within _ 0 zero_damaged refl refl refl) r refl in
          (first (rw is), second (rw is));
      needed_in_all = λ r is promise.
          let (first, second) = promise 15 card_b_sound (computed refl) (within _ 15 last_all_damaged refl refl refl) r refl in
          (first (rw is), second (rw is));
      needed_by_rule_1 = λ r is promise.
          (promise 10 card_b_sound (computed refl) (within _ 10 ten_damaged refl refl refl) r refl).0 (rw is);
      needed_by_rule_2 = λ r is promise.
          (promise 7 card_b_sound (computed refl) (within _ 7 seven_in_chunk2 refl refl refl) r refl).1 (rw is);
      contradicts = λ r promise. eqb-false 0 1 refl (first_agrees _ _ _ (promise r refl) refl);
      contradicts_by_rule_1 = λ r promise. eqb-false 0 1 refl (first_agrees _ _ _ (promise r refl) refl);
      contradicts_by_rule_2 = λ r promise. eqb-false 1 0 refl (second_agrees _ _ _ (promise r refl) refl);
      mixed_never_read = never_read mixed 0 1 1 refl refl refl (inl (refl, refl)) refl refl;
      mixed_damaged_lem = never_read mixed_damaged 0 1 1 refl refl refl (inl (refl, refl)) refl refl;
      mixed_in_chunk_2 = never_read mixed_in_chunk2 0 1 3 refl refl refl (inr (refl, refl)) refl refl;
      mixed_by_rule_1 = never_read mixed_by_rule1 0 1 1 refl refl refl (inl (refl, refl)) refl refl;
      mixed_by_rule_2 = never_read mixed_by_rule2 1 0 3 refl refl refl (inr (refl, refl)) refl refl;
      refused_now = λ answer promise. rw card_b_sound at promise;
      read_as_before = λ answer promise. rw (promise, card_b_sound) (refl, refl, refl);
      refused_as_before = λ answer promise. rw card_b_sound at promise;
    }
