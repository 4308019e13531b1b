pub mod Sampled
pub mod FramesBody
pub mod Answers
pub mod Signaled
