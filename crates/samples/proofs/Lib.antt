pub mod Bits
pub mod Clocked
pub mod Framing
pub mod Stretch
pub mod Readings
pub mod Sampling
pub mod Placing
pub mod Tracking
