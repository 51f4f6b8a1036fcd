pub mod RowWeights
pub mod LayoutOf
pub mod Spliced
pub mod HoldsWord
pub mod FiveChunks
