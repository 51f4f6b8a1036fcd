-- `reader::chunks::chunks_named` meets its contract: each way out is a law of what the rule's chunks read as. Where one reads as a
-- codeword, its number is within the code, by the chunk promise. Assumes nothing.
use mathlib.Core.Path.{◌≡◌, refl, sym, ap, ◌∙◌}
use Prim.Native.Nat.{ℕ, ◌+◌}
use Rattle.bits.specs.Sums.{from_place, marked}
use Rattle.bits.specs.Places.{place}
use Rattle.model.specs.Card.{Code}
use Rattle.model.specs.Decoded.{meaning}
use Rattle.model.specs.Levels.{erasure_reading}
use Rattle.code_theory.proofs.Promise.{promise}
use Rattle.position.specs.LayoutOf.{LayoutOf}
use Rattle.reader.specs.RuleAnswers.{unreadable_chunk, ReadsNamed}
use Rattle.reader.proofs.RuleAnswers.{rule₁_unreadable, rule₂_unreadable, rule₃_unreadable, rule₃_second_unreadable, rule₃_differs}
use Rattle.reader.proofs.RuleAnswers.{rule₁_read, rule₂_read, rule₃_read}
use Rattle.reader.proofs.chunks.chunks_named.Goals.{In_ok-first-in-Third, In_ok-second-in-Third}
use Rattle.nearest_position.specs.declared.received.ReceivedWord.{ReceivedWord}
use Rattle.position.specs.declared.layout.Layout.{Layout}
use Rattle.std.specs.Prelude.{Some, None, Ok, Err}
use Rattle.std.specs.Option.{ok_or}
use Rattle.model.specs.Reading.{Unreadable}
use Rattle.model.specs.declared.ReadChunk.{ReadChunk}
use Rattle.model.specs.declared.Refusal.{Refusal}
use Rattle.std.proofs.lemmas.Result.{err_from_is_err_and}
use Rattle.reader.proofs.chunks.chunks_named.Goals as goal
use Rattle.model.specs.Reading.{Chunk, Codeword}

-- what the chunk reads as that starts at a place: chunk 1 D places into the word, and chunk 2 behind separator 2
module _ (C : Code) (x : ReceivedWord) (at : Layout) (laid : LayoutOf C at) where
  abbrev reading_at : (from : ℕ) → Chunk
  reading_at from = erasure_reading C (from_place from (marked (place x.unerased))) (from_place from (place x.bits))

  chunk₁_read : (read : Chunk) → read ≡ reading_at at.chunk1 → reading_at C.D ≡ read
  chunk₁_read read is = ap reading_at (sym laid.chunk₁_at) ∙ sym is

  chunk₂_read : (read : Chunk) → read ≡ reading_at at.chunk2 → reading_at (C.D + C.n + C.D) ≡ read
  chunk₂_read read is = ap reading_at (sym laid.chunk₂_at) ∙ sym is

-- a chunk that is not refused reads as a codeword, and one that is refused reads as none
told_some : (read : Chunk) {found : ReadChunk} → Ok found ≡ ok_or read unreadable_chunk → read ≡ Codeword found.number found.differing
told_some (Some read) is = cc
told_some None is = cc

told_none : (read : Chunk) {refusal : Refusal} → Err refusal ≡ ok_or read unreadable_chunk → (read ≡ Unreadable) × (refusal ≡ unreadable_chunk)
told_none (Some read) is = cc
told_none None is = (refl, cc)

-- by rule 1
pub returns-in_err-read-in-First : goal.returns-in_err-read-in-First
unfolding ReadsNamed
returns-in_err-read-in-First c =
    let p = err_from_is_err_and c.from_residual.result c.from_residual.ensures.1 in
    let (unread, refused) = told_none _ c.in_err-read-in-First.ensures in
    rw (p.1, p.2, refused, c.in-First.is)
    (λ s sees R residual. rule₁_unreadable s R residual (sees.first ∙ chunk₁_read _ _ _ c.requires _ refl ∙ unread))

pub returns-in_ok-read-in-First : goal.returns-in_ok-read-in-First
unfolding ReadsNamed
returns-in_ok-read-in-First c =
    let codeword = chunk₁_read _ _ _ c.requires _ refl ∙ told_some _ c.in_ok-read-in-First.ensures in
    rw c.in-First.is (
      (((promise (meaning c.args.code) c.args.code.sound).chunks _).within _ _ _ codeword).0,
      λ s sees. rule₁_read s _ _ (sees.first ∙ codeword),
    )

-- by rule 2
pub returns-in_err-read-in-Second : goal.returns-in_err-read-in-Second
unfolding ReadsNamed
returns-in_err-read-in-Second c =
    let p = err_from_is_err_and c.from_residual-in_err-read-in-Second.result c.from_residual-in_err-read-in-Second.ensures.1 in
    let (unread, refused) = told_none _ c.in_err-read-in-Second.ensures in
    rw (p.1, p.2, refused, c.in-Second.is)
    (λ s sees R residual. rule₂_unreadable s R residual (sees.second ∙ chunk₂_read _ _ _ c.requires _ refl ∙ unread))

pub returns-in_ok-read-in-Second : goal.returns-in_ok-read-in-Second
unfolding ReadsNamed
returns-in_ok-read-in-Second c =
    let codeword = chunk₂_read _ _ _ c.requires _ refl ∙ told_some _ c.in_ok-read-in-Second.ensures in
    rw c.in-Second.is (
      (((promise (meaning c.args.code) c.args.code.sound).chunks _).within _ _ _ codeword).0,
      λ s sees. rule₂_read s _ _ (sees.second ∙ codeword),
    )

-- by rule 3
pub returns-in_err-first-in-Third : goal.returns-in_err-first-in-Third
unfolding ReadsNamed
returns-in_err-first-in-Third c =
    let p = err_from_is_err_and c.from_residual-in_err-first-in-Third.result c.from_residual-in_err-first-in-Third.ensures.1 in
    let (unread, refused) = told_none _ c.in_err-first-in-Third.ensures in
    rw (p.1, p.2, refused, c.in-Third.is)
    (λ s sees R residual. rule₃_unreadable s R residual (sees.first ∙ chunk₁_read _ _ _ c.requires _ refl ∙ unread))

-- where chunk 1 reads as a codeword
module _ (c : In_ok-first-in-Third) where
  codeword₁ : reading_at (meaning c.args.code) c.args.x c.args.at c.requires (meaning c.args.code).D
      ≡ Codeword c.in_ok-first-in-Third.first.number c.in_ok-first-in-Third.first.differing
  codeword₁ = chunk₁_read _ _ _ c.requires _ refl ∙ told_some _ c.in_ok-first-in-Third.ensures

pub returns-in_err-second-in-Third : goal.returns-in_err-second-in-Third
unfolding ReadsNamed
returns-in_err-second-in-Third c =
    let at = (goal.at.returns-in_err-second-in-Third c).In_ok-first-in-Third in
    let p = err_from_is_err_and c.from_residual-in_err-second-in-Third.result c.from_residual-in_err-second-in-Third.ensures.1 in
    let (unread, refused) = told_none _ c.in_err-second-in-Third.ensures in
    rw (p.1, p.2, refused, c.in-Third.is)
    (λ s sees R residual.
    rule₃_second_unreadable s R residual _ _ (sees.first ∙ codeword₁ at)
    (sees.second ∙ chunk₂_read _ _ _ c.requires _ refl ∙ unread))

-- where both do
module _ (c : In_ok-second-in-Third) where
  codeword₂ : reading_at (meaning c.args.code) c.args.x c.args.at c.requires
      ((meaning c.args.code).D + (meaning c.args.code).n + (meaning c.args.code).D)
      ≡ Codeword c.in_ok-second-in-Third.second.number c.in_ok-second-in-Third.second.differing
  codeword₂ = chunk₂_read _ _ _ c.requires _ refl ∙ told_some _ c.in_ok-second-in-Third.ensures

pub returns-then-first-second : goal.returns-then-first-second
unfolding ReadsNamed
returns-then-first-second c s sees R residual =
    let at = goal.at.returns-then-first-second c in
    rw c.in-Third.is
    (rule₃_differs s R residual _ _ (sees.first ∙ codeword₁ at.In_ok-first-in-Third) _ _ (sees.second ∙ codeword₂ at.In_ok-second-in-Third)
    c.if-first-second.true)

pub returns-else-first-second : goal.returns-else-first-second
unfolding ReadsNamed
returns-else-first-second c =
    let at = goal.at.returns-else-first-second c in
    rw c.in-Third.is (
      (((promise (meaning c.args.code) c.args.code.sound).chunks _).within _ _ _ (codeword₁ at.In_ok-first-in-Third)).0,
      λ s sees.
          rule₃_read s _ _ _ _ (sees.first ∙ codeword₁ at.In_ok-first-in-Third) (sees.second ∙ codeword₂ at.In_ok-second-in-Third)
          c.if-first-second.false,
    )
