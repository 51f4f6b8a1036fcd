pub mod Stretches
pub mod ServedTrams
pub mod NearestTrams
pub mod TramPromises
pub mod TramWitnesses
