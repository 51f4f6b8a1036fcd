pub mod Digits
pub mod DecimalRead
pub mod Answers
