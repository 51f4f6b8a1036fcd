pub mod Received
pub mod Scanned
pub mod Passing
pub mod Residuals
pub mod RuleNumbers
