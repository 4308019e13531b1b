pub mod Relabelled
pub mod Breaches
pub mod Versions
