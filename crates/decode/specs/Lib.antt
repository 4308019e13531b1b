pub mod Decoded
pub mod Wide
