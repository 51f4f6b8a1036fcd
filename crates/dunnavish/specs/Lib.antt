pub mod Crossing
pub mod Decoding
pub mod Demands
pub mod LosslessDecoding
pub mod CallWitnesses
pub mod YardNumbers
