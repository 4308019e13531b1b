pub mod Chosen
pub mod Standing
pub mod Reach
pub mod Answers
