pub mod Lines
pub mod Runs
pub mod YardPromises
pub mod YardWitnesses
