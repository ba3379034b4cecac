pub mod Memory
pub mod Machine
pub mod History
