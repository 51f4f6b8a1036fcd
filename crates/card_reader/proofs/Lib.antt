pub mod SplitRows
pub mod LeastOf
pub mod LowSums
pub mod LeastWeightLoop
pub mod CardRefusals
pub mod CardDecoding
