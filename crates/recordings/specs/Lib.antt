pub mod Answers
pub mod Recordings
pub mod Found
