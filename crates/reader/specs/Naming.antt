-- What three separators name, in the struct that the code hands on. Assumes nothing.
use Rattle.std.specs.Prelude.{◌≡◌, ℕ, Result, MatchResult}
use Rattle.model.specs.Reading.{Seen, rule_of, separator_of}
use Rattle.nearest_position.specs.RuleNumbers.{rule_number}
use Rattle.reader.specs.declared.naming.NamedRule.{NamedRule}

-- the rule that they name, and what the rule's separator reads
pub record NamedBy (s₁ s₂ s₃ : ℕ) (named : NamedRule) : Type 0 where
  pub rule : rule_number named.rule ≡ rule_of s₁ s₂ s₃
  pub separator : named.separator ≡ separator_of (rule_number named.rule) s₁ s₃

-- or that they name none, and what separator 1 reads, which is the separator of rule 0
pub record NamesNone (s₁ s₂ s₃ separator₁ : ℕ) : Type 0 where
  pub unnamed : rule_of s₁ s₂ s₃ ≡ 0
  pub separator : separator₁ ≡ separator_of 0 s₁ s₃

-- what they name: a rule, or none
abbrev pub Names : (s₁ s₂ s₃ : ℕ) → Result NamedRule ℕ → Type 0
Names s₁ s₂ s₃ named = MatchResult named (NamedBy s₁ s₂ s₃) (NamesNone s₁ s₂ s₃)

-- of what is seen of a word
abbrev pub NamesOf : Seen → Result NamedRule ℕ → Type 0
NamesOf s named = Names s.s₁ s.s₂ s.s₃ named
