pub mod Recorded
pub mod Judged
