pub mod Stretches
pub mod TramPromises
pub mod TramWitnesses
