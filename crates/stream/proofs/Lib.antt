pub mod Behind
pub mod NextWord
pub mod Pieces
pub mod Whole
pub mod Streaming
