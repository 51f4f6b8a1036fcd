pub mod DecodedFrom
pub mod LeastOf
