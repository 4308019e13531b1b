pub mod Events
pub mod Index
pub mod Listing
