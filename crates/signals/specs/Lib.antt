pub mod FramesJudged
pub mod Shaped
pub mod Signaled
