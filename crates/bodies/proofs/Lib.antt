pub mod Copying
pub mod Pieces
pub mod Filling
