pub mod LevelWords
