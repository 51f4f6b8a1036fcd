-- The residuals of a block's positions, as a search meets them on its way through the places of the block's two words, held in arrays.
-- Where the places below q have been passed, the word is that of a position, and the unerased bits in which it differs from the received
-- one are as many as its residual. Assumes nothing.
use mathlib.Core.Path.{◌≡◌, sym, ap, ◌∙◌}
use mathlib.Core.List.{List}
use mathlib.Core.Logic.{⊎_elim}
use Prim.Native.Nat.{ℕ, ◌+◌, ◌≤◌, ◌<◌}
use native.Mathlib.Omega.{arith}
use Rattle.bits.specs.Sums.{sum_below, distance, marked}
use Rattle.bits.specs.Places.{place, cut}
use Rattle.bits.proofs.Numbers.{lt_or_le}
use Rattle.bits.proofs.Distance.{distance_ext}
use Rattle.bits.proofs.Erasures.{unerased_ext_left, unerased_alike_after}
use Rattle.bits.proofs.Places.{cut_below, cut_above}
use Rattle.model.specs.Card.{Code}
use Rattle.model.specs.Order.{last_codeword, start}
use Rattle.model.specs.Words.{word_bits, word}
use Rattle.model.specs.Levels.{residual_unerased}
use Rattle.code_theory.specs.Promise.{Sound}
use Rattle.code_theory.proofs.Promise.{promise}
use Rattle.code_theory.proofs.Starts.{word_bits_bound}
use Rattle.position_theory.proofs.Blocks.{word_at_start, word_passed}
use Rattle.position.specs.HoldsWord.{HoldsWord}
use Rattle.nearest_position.specs.declared.received.ReceivedWord.{ReceivedWord}
use Rattle.nearest_position.specs.declared.scan.Scan.{Scan}
use Rattle.nearest_position.specs.Received.{received_distance, NothingSpare}
use Rattle.nearest_position.specs.Scanned.{Scanned}
use Rattle.nearest_position.specs.Passing.{steps_to, passed_to, residual_to, ResidualsAlong, Passes, Searched}
use Rattle.nearest_position.specs.Residuals.{position_at, ResidualsOf, residual_in}
use Rattle.nearest_position.proofs.Passing.{passed_above}

-- ---- on a track with two ends

module _ (C : Code) (sound : Sound C) (x : ReceivedWord) where
  -- at a start the word is the codeword's
  pub residual_of_start : (p : ℕ) → p ≤ last_codeword C → residual_in C x (start C p) ≡ received_distance (word_bits C) (word C p) x
  unfolding residual_unerased
  residual_of_start p h =
      unerased_ext_left (marked (place x.unerased)) (word_bits C) (place x.bits) (λ q b. word_at_start C (promise C sound) p h q)

  -- the positions of a block are those of the way from its codeword to the one after it
  pub residuals_of_block : (i next : ℕ) → next ≡ i + 1 → i < last_codeword C → ResidualsOf C x i next (residual_in C x)
  unfolding residual_unerased passed_to ResidualsOf
  residuals_of_block i next after inside q room =
      rw after
      (unerased_ext_left (marked (place x.unerased)) (word_bits C) (place x.bits)
      (λ p b. word_passed C (promise C sound) i inside q p room b))

-- ---- in arrays

-- a word with zeros after it differs from the received one where the word itself does
pub distance_held : (C : Code) → Sound C → (x : ReceivedWord) → NothingSpare C x → (held w : ℕ → ℕ)
    → ((p : ℕ) → held p ≡ cut (word_bits C) w p) → received_distance 320 held x ≡ received_distance (word_bits C) w x
unfolding NothingSpare
distance_held C sound x spare held w holds =
    let d = word_bits C in
    let unerased = marked (place x.unerased) in
    unerased_alike_after unerased d 320 held (place x.bits) (word_bits_bound C sound)
    (λ p past _ known. holds p ∙ cut_above d w p past ∙ sym (spare p past known))
    ∙ unerased_ext_left unerased d (place x.bits) (λ p b. holds p ∙ cut_below d w p b)

module _ (C : Code) (sound : Sound C) (i next : ℕ) (u v : List ℕ) (old : HoldsWord C (word C i) u) (new : HoldsWord C (word C next) v) where
  -- the steps made below a place
  steps_in_block : (q : ℕ) → q ≤ word_bits C → steps_to u v q ≡ distance q (word C i) (word C next)
  steps_in_block q room =
      distance_ext q (λ p b. old p ∙ cut_below (word_bits C) (word C i) p (omega arith))
      (λ p b. new p ∙ cut_below (word_bits C) (word C next) p (omega arith))

  -- where the places below q have been passed, the arrays hold the word there
  word_at_place : (q : ℕ) → q ≤ word_bits C → (p : ℕ)
      → passed_to (place u) (place v) q p ≡ cut (word_bits C) (passed_to (word C i) (word C next) q) p
  unfolding passed_to
  word_at_place q room p =
      ⊎_elim
      (λ (b : p < word_bits C).
      rw (
        cut_below (word_bits C) (passed_to (word C i) (word C next) q) p b,
        ← (old p ∙ cut_below (word_bits C) (word C i) p b),
        ← (new p ∙ cut_below (word_bits C) (word C next) p b),
      ))
      (λ (b : word_bits C ≤ p).
      passed_above (place u) (place v) q p (omega arith)
      ∙ old p
      ∙ cut_above (word_bits C) (word C i) p b
      ∙ sym (cut_above (word_bits C) (passed_to (word C i) (word C next) q) p b))
      (lt_or_le p (word_bits C))

  module _ (x : ReceivedWord) (spare : NothingSpare C x) where
    residual_at_place : (q : ℕ) → q ≤ word_bits C
        → residual_to u v x q ≡ received_distance (word_bits C) (passed_to (word C i) (word C next) q) x
    residual_at_place q room = distance_held C sound x spare _ _ (word_at_place q room)

    residuals_along : (f : ℕ → ℕ) → ResidualsOf C x i next f → (at to : ℕ) → at ≤ to → to ≤ word_bits C
        → ResidualsAlong f u v x (position_at C i next at) at to
    unfolding ResidualsAlong ResidualsOf
    residuals_along f residuals at to forward room q p l b there =
        let here : p ≡ position_at C i next q =
        omega (arith, there, steps_in_block at (omega arith), steps_in_block q (omega arith)) in
        ap f here ∙ residuals q (omega arith) ∙ sym (residual_at_place q (omega arith))

    -- a search through the places of the two words is one through the positions of the way
    module _ (low at to : ℕ) (s : Scan) (is : low ≡ position_at C i next at) (forward : at ≤ to) (room : to ≤ word_bits C)
        (search : Searched u v x low at to s) where
      pub block_ends : (s.low ≡ low) × (s.position ≡ position_at C i next to)
      block_ends = (search.begun, omega (arith, is, search.position, steps_in_block at (omega arith), steps_in_block to room))

      pub block_searched : (f : ℕ → ℕ) → ResidualsOf C x i next f → Scanned f s
      block_searched f residuals = search.scanned f (rw is (residuals_along f residuals at to forward room))

    -- a search that stands at the start of the way, and goes on through the places below `to`
    module _ (s : Scan) (at_start : s.position ≡ start C i) (here : s.residual ≡ received_distance (word_bits C) (word C i) x) where
      stands : s.position ≡ position_at C i next 0
      unfolding distance sum_below
      stands = at_start ∙ omega arith

      pub residual_at_start : s.residual ≡ residual_to u v x 0
      residual_at_start =
          here
          ∙ unerased_ext_left (marked (place x.unerased)) (word_bits C) (place x.bits)
          (λ p b. sym (passed_above (word C i) (word C next) 0 p (omega arith)))
          ∙ sym (residual_at_place 0 (omega arith))

      module _ (to : ℕ) (room : to ≤ word_bits C) (r : Scan) (passes : Passes u v x 0 to s r) where
        pub passed_ends : (r.low ≡ s.low) × (r.position ≡ position_at C i next to)
        unfolding distance sum_below
        passed_ends = (passes.low, omega (arith, passes.position, steps_in_block to room))

        pub start_passed : (f : ℕ → ℕ) → ResidualsOf C x i next f → Scanned f s → Scanned f r
        start_passed f residuals = passes.scanned f (rw stands (residuals_along f residuals 0 to (omega arith) room))
