pub mod Casts
pub mod Filled
pub mod Loops
pub mod Places
