-- `level_reader::read_level_word` meets its contract: 15 and 16; then the levels are folded, and 9 or what the named rule answers, with the
-- strength where the word is read. Assumes nothing.
use mathlib.Core.Path.{◌≡◌, sym, ap, ◌∙◌}
use mathlib.Core.Bool.{Bool, false}
use mathlib.Core.List.{List}
use Prim.Native.Nat.{ℕ}
use native.Mathlib.Omega.{arith}
use lib.Ieee.{Float}
use lib.ListN.{length}
use Rattle.model.specs.Card.{Code}
use Rattle.model.specs.Decoded.{meaning}
use Rattle.model.specs.Words.{word_bits}
use Rattle.model.specs.Levels.{any_outside, received_at, seen_in_levels}
use Rattle.model.specs.Reading.{rule_seen, two_ends}
use Rattle.model.specs.declared.ReceivedLevel.{ReceivedLevel}
use Rattle.nearest_position.specs.Residuals.{residual_in}
use Rattle.nearest_position.specs.RuleNumbers.{rule_number}
use Rattle.std.specs.Prelude.{Ok}
use Rattle.reader.specs.declared.naming.NamedRule.{NamedRule}
use Rattle.reader.specs.Naming.{NamesOf}
use Rattle.reader.specs.RuleAnswers.{AnswersRule}
use Rattle.level_reader.proofs.LevelAnswers.{answer_in_levels, nothing_past, named_by_levels, rule_of_levels}
use Rattle.level_reader.proofs.LevelAnswers.{refused_15, refused_16, refused_9, word_read, rule_refused}
use Rattle.level_reader.proofs.read_level_word.Goals.{After-rule_by_sums}
use Rattle.std.proofs.lemmas.Result.{MatchResult-at_ok, err_from_is_err_and}
use Rattle.level_reader.proofs.read_level_word.Goals as goal
use Rattle.model.specs.ReadWord.{ReadAnswer}

pub returns-then-levels-at : goal.returns-then-levels-at
returns-then-levels-at c =
    refused_15 _ _ (λ e. c.if-levels-at.true (e ∙ sym c.layout_of-at.ensures.bits_are))

-- what the test of all levels has shown is so of the first d, where there are d
shown : (levels : List Float) (d : ℕ) → length levels ≡ d → (tested outside : Bool)
    → tested ≡ any_outside (length levels) levels → tested ≡ outside → any_outside d levels ≡ outside
shown levels d whole tested outside is known = ap (λ (count : ℕ). any_outside count levels) (sym whole) ∙ sym is ∙ known

pub returns-then-any_outside : goal.returns-then-any_outside
returns-then-any_outside c =
    let whole = c.if-levels-at.false ∙ c.layout_of-at.ensures.bits_are in
    refused_16 _ _ whole (shown _ _ whole _ _ c.any_outside.ensures c.if-any_outside.true)

-- there are as many levels as a word has, none is outside, and the sums name the rule of the levels, or none
module _ (c : After-rule_by_sums) where
  abbrev C : Code
  C = meaning c.args.code

  abbrev levels : List Float
  levels = c.args.levels.now

  abbrev word : ℕ → ReceivedLevel
  word = received_at levels

  whole : length levels ≡ word_bits C
  whole = c.if-levels-at.false ∙ c.layout_of-at.ensures.bits_are

  inside : any_outside (word_bits C) levels ≡ false
  inside = shown _ _ whole _ _ c.any_outside.ensures c.if-any_outside.false

  names : NamesOf (seen_in_levels C word) c.rule_by_sums.result
  names = named_by_levels C word _ c.word_of_levels-received.ensures _ c.rule_by_sums.ensures

  module _ (named : NamedRule) (is : c.rule_by_sums.result ≡ Ok named) where
    -- what the rule answers
    answered : (answer : ReadAnswer)
        → let received = c.word_of_levels-received.result.word in
        AnswersRule (two_ends C) C (residual_in C received) received (rule_number named.rule) named.separator answer
        → answer_in_levels C word (rule_seen (seen_in_levels C word)) ≡ answer
    answered answer by_named =
        let known = MatchResult-at_ok _ _ _ is names in
        let by_rule = rw known.separator at by_named in
        ap (answer_in_levels C word) (sym known.rule)
        ∙ sym (rule_of_levels C word _ c.word_of_levels-received.ensures _ _ by_rule)

pub returns-in_err-named : goal.returns-in_err-named
returns-in_err-named c =
    let after = (goal.at.returns-in_err-named c).After-rule_by_sums in
    let unnamed : rule_seen (seen_in_levels (C after) (word after)) ≡ 0 = grind (arith, names after) in
    let refused : c.in_err-named.field-0.0 ≡ record { number = 9 } = grind arith in
    let p = err_from_is_err_and c.from_residual.result c.from_residual.ensures.1 in
    rw (p.1, p.2, refused) (refused_9 _ _ (whole after) (inside after) unnamed)

pub by_rule-requires : goal.by_rule-requires
by_rule-requires c =
    let after = (goal.at.by_rule-requires c).After-rule_by_sums in
    (c.layout_of-at.ensures, nothing_past (C after) (word after) _ c.word_of_levels-received.ensures)

pub returns : goal.returns
returns c =
    let after = (goal.at.returns c).After-rule_by_sums in
    let is : c.rule_by_sums.result ≡ Ok c.in_ok-named.named = grind arith in
    rw c.word_of_levels-received.ensures.strength_is
    (word_read _ _ (whole after) (inside after) _ (answered after _ is _ c.by_rule.ensures ∙ c.in_ok-reading.was))

pub returns-in_err-reading : goal.returns-in_err-reading
returns-in_err-reading c =
    let after = (goal.at.returns-in_err-reading c).After-rule_by_sums in
    let is : c.rule_by_sums.result ≡ Ok c.in_ok-named.named = grind arith in
    let p = err_from_is_err_and c.from_residual-in_err-reading.result c.from_residual-in_err-reading.ensures.1 in
    rw (p.1, p.2) (rule_refused _ _ (whole after) (inside after) _ (answered after _ is _ c.by_rule.ensures ∙ c.in_err-reading.was))
