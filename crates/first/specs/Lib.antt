-- The first core: its state in words, and its clock as a sequence of rules.
pub mod FetchRules
pub mod StoreRules
pub mod LsuRules
pub mod WorkRules
pub mod Step
pub mod Layout
pub mod Back
pub mod Model
pub mod Stands
pub mod Parts
