pub mod Decimal
pub mod Puts
