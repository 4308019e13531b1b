pub mod Demands
pub mod Bits
