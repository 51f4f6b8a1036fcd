-- `reader::reading::read` meets its contract: refusals 6, 8 and 9, and then what the named rule answers, for the struct that holds the
-- word. Assumes nothing.
use mathlib.Core.Path.{◌≡◌, ◌∙◌, refl, sym, fun_ext}
use mathlib.Core.Bool.{not}
use mathlib.Core.List.{List}
use Prim.Native.Nat.{ℕ, ◌+◌, ◌*◌, ◌≤◌}
use native.Mathlib.Omega.{arith}
use lib.Dec.{eqb}
use lib.ListN.{length}
use Rattle.bits.specs.Places.{place}
use Rattle.model.specs.ReadWord.{spare_set}
use Rattle.model.specs.Card.{Code}
use Rattle.model.specs.Decoded.{meaning}
use Rattle.model.specs.Words.{word_length}
use Rattle.model.specs.Reading.{seen, rule_named}
use Rattle.position.specs.LayoutOf.{LayoutOf}
use Rattle.reader.specs.Naming.{NamedBy}
use Rattle.nearest_position.specs.RuleNumbers.{rule_number}
use Rattle.std.specs.Prelude.{Ok}
use Rattle.std.proofs.lemmas.Result.{MatchResult-at_ok, err_from_is_err_and}
use Rattle.reader.proofs.ReadRefusals.{refused_6, none_spare, refused_8, refused_9, read_by_rule}
use Rattle.reader.proofs.SpareBits.{spare_test, nothing_spare}
use Rattle.reader.proofs.reading.read.Goals.{After-plain-x, After-ones_from, In_ok-named}
use Rattle.reader.proofs.reading.read.Goals as goal

-- a word of the layout has as many bytes as the code's words, so its bytes have a place for each bit, and less than 8 are spare
room : (c : After-plain-x)
    → let bits = c.layout_of-at.result.bits in
    (bits ≤ 8 * c.bytes_in-len.result) × (8 * c.bytes_in-len.result ≤ bits + 7)
room c =
    let bits_are = c.layout_of-at.ensures.bits_are in
    let long : c.bytes_in-len.result ≡ word_length (meaning c.args.code) = c.bytes_in-len.ensures.0 _ c.layout_of-at.ensures in
    (omega (arith, long, bits_are), omega (arith, long, bits_are))

pub overflow_sub-len : goal.overflow_sub-len
overflow_sub-len c = omega (arith, (room (goal.at.overflow_sub-len c).After-plain-x).0)

pub ones_from-requires : goal.ones_from-requires
ones_from-requires c =
    let (longer, shorter) = room (goal.at.ones_from-requires c).After-plain-x in
    (omega (arith, longer, c.bytes_in-len.ensures.2), omega (arith, shorter))

-- what is known once the ones past the word's bits are counted
module _ (c : After-ones_from) where
  abbrev C : Code
  C = meaning c.args.code

  abbrev laid : LayoutOf C c.layout_of-at.result
  laid = c.layout_of-at.ensures

  abbrev received : List ℕ
  received = c.args.word.now

  long : c.bytes_in-len.result ≡ word_length C
  long = c.bytes_in-len.ensures.0 _ laid

  whole : length received ≡ word_length C
  whole = c.if-word-len.false ∙ long

  -- the count of ones shows whether a spare bit is set
  spare : not (eqb c.ones_from.result 0) ≡ spare_set C received
  spare = spare_test C received c.plain-x.result c.plain-x.ensures _ _ _ laid.bits_are long c.ones_from.ensures.0

-- where the separators name a rule, it and its separator are those of the received word
named : (c : In_ok-named)
    → let s = seen (meaning c.args.code) (place c.args.word.now) in
    NamedBy s.s₁ s.s₂ s.s₃ c.in_ok-named.named
named c =
    let is : c.named_rule.result ≡ Ok c.in_ok-named.named = grind arith in
    rw (fun_ext c.plain-x.ensures.bits_held) at (MatchResult-at_ok _ _ _ is (c.named_rule.ensures (meaning c.args.code) refl c.layout_of-at.ensures))

rule : (c : In_ok-named) → rule_number c.in_ok-named.named.rule ≡ rule_named (meaning c.args.code) (place c.args.word.now)
unfolding rule_named
rule c = (named c).rule

pub returns-then-word-len : goal.returns-then-word-len
returns-then-word-len c = refused_6 _ _ (λ e. c.if-word-len.true (e ∙ sym (c.bytes_in-len.ensures.0 _ c.layout_of-at.ensures)))

pub returns-then-ones_from-ne0 : goal.returns-then-ones_from-ne0
returns-then-ones_from-ne0 c =
    let counted = (goal.at.returns-then-ones_from-ne0 c).After-ones_from in
    refused_8 _ _ (whole counted) _ (spare counted) c.if-ones_from-ne0.true

pub returns-in_err-named : goal.returns-in_err-named
unfolding rule_named
returns-in_err-named c =
    let counted = (goal.at.returns-in_err-named c).After-ones_from in
    let names = rw (fun_ext c.plain-x.ensures.bits_held) at (c.named_rule.ensures (meaning c.args.code) refl c.layout_of-at.ensures) in
    let unnamed : rule_named (meaning c.args.code) (place c.args.word.now) ≡ 0 = grind (arith, names) in
    let refused : c.in_err-named.field-0.0 ≡ record { number = 9 } = grind arith in
    let p = err_from_is_err_and c.from_residual.result c.from_residual.ensures.1 in
    rw (p.1, p.2, refused) (refused_9 _ _ (whole counted) _ (spare counted) c.if-ones_from-ne0.false unnamed)

pub by_rule-requires : goal.by_rule-requires
by_rule-requires c =
    let counted = (goal.at.by_rule-requires c).After-ones_from in
    let held = c.plain-x in
    let unset = none_spare _ _ (whole counted) _ (spare counted) c.if-ones_from-ne0.false in
    (laid counted, nothing_spare (C counted) (received counted) held.result held.ensures (whole counted) unset)

pub returns : goal.returns
returns c =
    let counted = (goal.at.returns c).After-ones_from in
    let found = (goal.at.returns c).In_ok-named in
    read_by_rule _ _ (whole counted) _ (spare counted) c.if-ones_from-ne0.false c.args.code.sound _ c.plain-x.ensures _
    (rw ((named found).separator, rule found) at c.by_rule.ensures)
