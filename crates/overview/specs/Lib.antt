pub mod Overview
pub mod Steps
pub mod Flat
pub mod Promises
