pub mod Values
pub mod Questions
pub mod Holding
pub mod Promised
pub mod Tied
