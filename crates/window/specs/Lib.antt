-- A core with a window: the general machine, with any schedule and any predictor, and what is proved of it.
pub mod Entries
pub mod Operands
pub mod Newest
pub mod Machine
pub mod Clocks
pub mod Right
pub mod Scans
pub mod Rings
pub mod Fairness
pub mod OldestFirst
pub mod Refining
pub mod Queues
pub mod Eight
pub mod Datapaths
pub mod Retiring
pub mod Asking
