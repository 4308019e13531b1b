pub mod Table
pub mod Unique
pub mod Worked
