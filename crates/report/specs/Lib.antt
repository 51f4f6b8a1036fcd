pub mod Text
pub mod Lines
pub mod Report
pub mod Filled
pub mod Puts
