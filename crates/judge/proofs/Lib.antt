pub mod Recorded
pub mod Recordings
pub mod Led
pub mod Verdicts
pub mod Accepted
