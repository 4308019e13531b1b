pub mod Masks
pub mod Runs
