pub mod Table
pub mod RoundResult
