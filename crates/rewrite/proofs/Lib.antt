pub mod Framing
pub mod Headed
pub mod Bodied
pub mod Placed
pub mod Files
pub mod Answers
pub mod Demands
