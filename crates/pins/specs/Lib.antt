-- What is seen at the core's pins, what the outside may answer, and what a core promises; and the laws of these that no core owns.
pub mod Ports
pub mod Outside
pub mod PortWords
pub mod Held
pub mod Says
pub mod Cases
pub mod History
pub mod View
pub mod Settled
pub mod Waits
pub mod Walkthrough
pub mod Fronts
pub mod Beside
pub mod Reach
pub mod Progress
