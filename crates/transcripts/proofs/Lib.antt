pub mod Transcribing
