pub mod BytesRead
pub mod CardRows
pub mod TwosComplement
