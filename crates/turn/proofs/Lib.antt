pub mod Turning
pub mod Sent
pub mod Answers
pub mod Demands
