pub mod LevelAnswers
pub mod LevelWordParts
