pub mod ChunkSearch
pub mod ErasureSearch
