-- The pipeline: its stages, its clock, its schedule.
pub mod Stages
pub mod Step
pub mod Schedule
pub mod Stands
