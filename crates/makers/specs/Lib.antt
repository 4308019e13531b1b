pub mod Makers
pub mod Search
