pub mod FramesAnew
pub mod RecordingsAnew
pub mod Rewrite
