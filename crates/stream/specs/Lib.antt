pub mod Streamed
pub mod TakenIn
