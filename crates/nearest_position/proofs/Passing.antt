-- A search passes the places of two words, held in arrays. At a place where they are alike nothing changes; where they differ, it
-- comes one position on, and the residual changes by that place if it is not erased. Assumes nothing.
use mathlib.Core.Path.{◌≡◌, refl, sym, ap, ◌∙◌}
use mathlib.Core.List.{List}
use mathlib.Core.Logic.{⊎_elim}
use Prim.Native.Nat.{ℕ, ◌+◌, ◌/◌, ◌%◌, ◌≤◌, ◌<◌}
use native.Mathlib.Numerals.{add-one}
use native.Mathlib.Omega.{arith}
use borrow.Author.Tests.{lt-ltb, le-ltb}
use lib.Bits.{bit_xor}
use lib.ListN.{get_or, replicate, get_or-replicate}
use Rattle.bits.specs.Sums.{difference, marked}
use Rattle.bits.specs.Places.{bit, place}
use Rattle.bits.proofs.Numbers.{lt_or_le}
use Rattle.bits.proofs.Binary.{bit_xor_lem}
use Rattle.bits.proofs.Distance.{distance_suc}
use Rattle.bits.proofs.Erasures.{unerased_ext_left, unerased_one_place}
use Rattle.bits.proofs.Places.{place_bit}
use Rattle.position.specs.Spliced.{Spliced}
use Rattle.nearest_position.specs.declared.received.ReceivedWord.{ReceivedWord}
use Rattle.nearest_position.specs.declared.scan.Scan.{Scan}
use Rattle.nearest_position.specs.Received.{received_distance}
use Rattle.nearest_position.specs.Scanned.{Scanned, begins_at}
use Rattle.nearest_position.specs.Passing.{steps_to, passed_to, difference_unerased, residual_to, ResidualsAlong, Passes, Searched}
use Rattle.nearest_position.proofs.Scanning.{scanned_first}

-- where the places below q have been passed, the word below q and from there on
module _ (u v : ℕ → ℕ) (q : ℕ) where
  passed_below : (p : ℕ) → p < q → passed_to u v q p ≡ v p
  unfolding passed_to
  passed_below p b = rw (lt-ltb p q b)

  pub passed_above : (p : ℕ) → q ≤ p → passed_to u v q p ≡ u p
  unfolding passed_to
  passed_above p b = rw (le-ltb p q b)

-- bits that are not the same differ by 1
differs : (u v : List ℕ) (q : ℕ) → (place u q ≡ place v q → ⊥) → difference (place u q) (place v q) ≡ 1
differs u v q differ = omega (arith, place_bit u q, place_bit v q)

module _ (u v : List ℕ) (q : ℕ) where
  -- the bit at place q of the exclusive-or of the two bytes that hold it says whether the two bits differ
  pub joined_bit : (t : ℕ) → ((w : List ℕ) → get_or w (q / 8) 0 ≡ bit_xor (get_or u (q / 8) 0) (get_or v (q / 8) 0) → t ≡ place w q)
      → t ≡ difference (place u q) (place v q)
  unfolding place
  joined_bit t is =
      let joined = bit_xor (get_or u (q / 8) 0) (get_or v (q / 8) 0) in
      let here = get_or-replicate {A = ℕ} (q / 8 + 1) (q / 8) joined 0 (omega arith) in
      is (replicate (q / 8 + 1) joined) here
      ∙ ap (λ (byte : ℕ). bit byte (q % 8)) here
      ∙ bit_xor_lem (get_or u (q / 8) 0) (get_or v (q / 8) 0) (q % 8)

  -- one place more
  step_more : steps_to u v (q + 1) ≡ steps_to u v q + difference (place u q) (place v q)
  step_more = rw (add-one q) (distance_suc q (place u) (place v))

residual_more : (u v : List ℕ) (x : ReceivedWord) (q : ℕ) → q < 320
    → residual_to u v x (q + 1) + difference_unerased (place x.unerased q) (place u q) (place x.bits q)
    ≡ residual_to u v x q + difference_unerased (place x.unerased q) (place v q) (place x.bits q)
residual_more u v x q room =
    rw (← passed_above (place u) (place v) q q (omega arith), ← passed_below (place u) (place v) (q + 1) q (omega arith))
    (unerased_one_place (marked (place x.unerased))
    (passed_to (place u) (place v) (q + 1)) (passed_to (place u) (place v) q) (place x.bits) 320 q room
    elsewhere)
  where
    elsewhere : (p : ℕ) → p < 320 → (p ≡ q → ⊥) → passed_to (place u) (place v) (q + 1) p ≡ passed_to (place u) (place v) q p
    elsewhere p b ne =
        ⊎_elim
        (λ (l : p < q). passed_below (place u) (place v) (q + 1) p (omega arith) ∙ sym (passed_below (place u) (place v) q p l))
        (λ (l : q ≤ p). passed_above (place u) (place v) (q + 1) p (omega arith) ∙ sym (passed_above (place u) (place v) q p l))
        (lt_or_le p q)

module _ (u v : List ℕ) (x : ReceivedWord) (at q : ℕ) (s t : Scan) (from_at : at ≤ q) (room : q < 320) (so_far : Passes u v x at q s t) where
  -- a place that is alike
  pub pass_alike : place u q ≡ place v q → Passes u v x at (q + 1) s t
  unfolding ResidualsAlong
  pass_alike e =
      let none : difference (place u q) (place v q) ≡ 0 = rw e (omega arith) in
      let kept : residual_to u v x (q + 1) ≡ residual_to u v x q = omega (arith, rw e at (residual_more u v x q room)) in
      record {
        low = so_far.low;
        position = omega (arith, so_far.position, step_more u v q);
        residual = so_far.residual ∙ sym kept;
        scanned = λ f along scanned. so_far.scanned f (λ q' p l h. along q' p l (omega arith)) scanned;
      }

  -- a place that differs
  module _ (differ : place u q ≡ place v q → ⊥) where
    -- a flip to what was received takes one from the residual, where the bit is not erased
    pub residual_positive : place x.unerased q ≡ 1 → place x.bits q ≡ place v q → 1 ≤ t.residual
    residual_positive unerased e =
        let alike : difference (place v q) (place x.bits q) ≡ 0 = rw e (omega arith) in
        let differing : difference (place u q) (place x.bits q) ≡ 1 = rw e (differs u v q differ) in
        omega (arith, so_far.residual, rw unerased at (residual_more u v x q room))

    -- `next` is the residual after the bit was flipped to v's, and r the search one position on with that residual
    pub pass_differing : (next : ℕ)
        → ((old : ℕ) → old < 2 → difference old (place v q) ≡ 1
        → next + difference_unerased (place x.unerased q) old (place x.bits q)
        ≡ t.residual + difference_unerased (place x.unerased q) (place v q) (place x.bits q))
        → (r : Scan) → r.low ≡ t.low → r.position ≡ t.position + 1 → r.residual ≡ next
        → ((f : ℕ → ℕ) → Scanned f t → next ≡ f (t.position + 1) → Scanned f r) → Passes u v x at (q + 1) s r
    unfolding ResidualsAlong
    pass_differing next differing r low on residual scans =
        let step : steps_to u v (q + 1) ≡ steps_to u v q + 1 = omega (arith, step_more u v q, differs u v q differ) in
        let is_next : next ≡ residual_to u v x (q + 1) =
        omega (arith, differing (place u q) (place_bit u q) (differs u v q differ), so_far.residual, residual_more u v x q room) in
        record {
          low = low ∙ so_far.low;
          position = omega (arith, so_far.position);
          residual = residual ∙ is_next;
          scanned = λ f along scanned.
              scans f (so_far.scanned f (λ q' p l h. along q' p l (omega arith)) scanned)
              (is_next ∙ sym (along (q + 1) (t.position + 1) (omega arith) (omega arith) (omega (arith, so_far.position))));
        }

-- a word w that is put together of the two at a place has the residual of that place
module _ (u v w : List ℕ) (at : ℕ) (splice : Spliced u v w at) where
  pub residual_counted : (x : ReceivedWord) → received_distance 320 (place w) x ≡ residual_to u v x at
  unfolding passed_to
  residual_counted x = unerased_ext_left (marked (place x.unerased)) 320 (place x.bits) (λ p b. splice p)

-- a search that begins at `low`, where the places below `at` have been passed, and passes those below `to`
pub searched : (u v : List ℕ) (x : ReceivedWord) (low at to : ℕ) → at ≤ to → (s r : Scan) → s ≡ begins_at low (residual_to u v x at)
    → Passes u v x at to s r → Searched u v x low at to r
unfolding ResidualsAlong
searched u v x low at to forward s r begun passes =
    let from : s.low ≡ low = rw begun in
    let position : s.position ≡ low = rw begun in
    record {
      begun = passes.low ∙ from;
      position = rw position at passes.position;
      scanned = λ f along.
          passes.scanned f (rw position along)
          (rw begun (scanned_first f low (residual_to u v x at) (sym (along at low (omega arith) forward refl))));
    }
