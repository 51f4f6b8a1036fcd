pub mod LeastDistance
pub mod LeastOfSets
pub mod Offsets
pub mod Promise
pub mod CodeWitnesses
