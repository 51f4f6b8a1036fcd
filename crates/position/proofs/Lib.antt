pub mod StartSum
pub mod BlockBetween
pub mod GatheredBits
pub mod ChunkByChunk
pub mod FilledByte
pub mod WordChunks
pub mod CopiedWord
pub mod Splicing
