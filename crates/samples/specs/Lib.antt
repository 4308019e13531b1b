pub mod Frames
pub mod Placed
pub mod Asked
