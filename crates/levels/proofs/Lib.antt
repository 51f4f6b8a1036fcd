pub mod Constants
pub mod Outside
pub mod LevelByLevel
