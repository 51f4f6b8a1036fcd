pub mod UnitLevels
pub mod LevelsSeen
pub mod ReadsBelowD
pub mod LevelContradictions
pub mod LevelPromises
pub mod LevelWitnesses
