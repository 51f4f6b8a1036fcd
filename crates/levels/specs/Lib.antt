pub mod LevelChunks
