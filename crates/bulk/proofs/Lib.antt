pub mod Blocks
pub mod Loops
pub mod Masks
