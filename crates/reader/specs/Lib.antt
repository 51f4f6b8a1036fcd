pub mod Naming
pub mod RuleAnswers
