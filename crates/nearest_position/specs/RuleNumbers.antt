-- The numbers of the rules, by which the definitions speak of them; and that of a rule that may be none. Assumes nothing.
use Rattle.std.specs.Prelude.{ℕ, Option, Some, None}
use Rattle.nearest_position.specs.declared.rule.Rule.{Rule}
use Rattle.nearest_position.specs.declared.rule.Rule.TheVariants.{First, Second, Third}

abbrev pub rule_number : Rule → ℕ
rule_number First = 1
rule_number Second = 2
rule_number Third = 3

-- 0 for none
abbrev pub number_or_0 : Option Rule → ℕ
number_or_0 (Some rule) = rule_number rule
number_or_0 None = 0
