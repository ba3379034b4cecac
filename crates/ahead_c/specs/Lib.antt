-- The calls for C.
pub mod Codes
