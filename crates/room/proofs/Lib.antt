pub mod Growth
pub mod Enough
