pub mod Delays
pub mod Worlds
