pub mod Sums
pub mod Walk
pub mod Places
pub mod Searches
pub mod Counting
