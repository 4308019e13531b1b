pub mod Runs
pub mod Found
