pub mod Numbers
pub mod Joins
pub mod Values
pub mod Floats
pub mod Runs
pub mod Sizes
pub mod Lent
