pub mod Cursors
pub mod Constants
pub mod Names
