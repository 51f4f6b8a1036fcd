pub mod TramRefusals
pub mod Passes
pub mod SearchAnswers
