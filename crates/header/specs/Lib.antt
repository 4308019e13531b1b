pub mod Letters
pub mod Opened
