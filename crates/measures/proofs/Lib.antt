pub mod Canonic
pub mod Chained
pub mod Lengths
pub mod Gone
pub mod Measures
