-- The instruction set: the manual's run, and the code's parts of one instruction.
pub mod Words
pub mod Manual
pub mod Registers
pub mod Ops
pub mod Decoding
pub mod Executing
pub mod Single
pub mod Traces
pub mod Runs
pub mod Widths
