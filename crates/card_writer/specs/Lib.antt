pub mod WithNumber
