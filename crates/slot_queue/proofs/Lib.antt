pub mod Checked
pub mod Handing
