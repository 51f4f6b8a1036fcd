pub mod RuleAnswers
pub mod SpareBits
pub mod ReadRefusals
