pub mod PaddedBytes
pub mod Scanning
pub mod Passing
pub mod BlockResiduals
pub mod RuleRanges
