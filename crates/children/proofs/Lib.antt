pub mod Saying
pub mod Chained
pub mod Visiting
pub mod Recordings
pub mod Again
