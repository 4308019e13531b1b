pub mod Facts
pub mod Groups
pub mod Steps
pub mod Laws
pub mod Heads
pub mod Opened
pub mod Bodies
pub mod Subs
