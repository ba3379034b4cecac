-- A ring and a queue of fixed sizes: what their methods make of them.
pub mod RingRules
pub mod QueueRules
pub mod Places
pub mod Searches
