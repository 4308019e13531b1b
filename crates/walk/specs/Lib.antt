pub mod Walk
pub mod Plays
pub mod See
pub mod Tell
pub mod Trace
pub mod Faults
