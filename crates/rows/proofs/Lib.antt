pub mod Written
pub mod Lists
pub mod Body
pub mod Recorded
