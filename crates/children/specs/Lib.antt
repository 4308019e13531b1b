pub mod Children
pub mod Recordings
