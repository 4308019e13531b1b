pub mod Search
pub mod Recorded
