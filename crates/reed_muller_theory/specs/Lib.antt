pub mod MadeCards
pub mod Votes
pub mod ReedMullerWitnesses
