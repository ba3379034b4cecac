-- In the order of the argument: the code follows its step; the step is the machine's at the schedule; the schedule is fair.
pub mod Searches
pub mod StepRules
pub mod AtStages
pub mod Staged
pub mod AtPort
pub mod SameClock
pub mod OldestLearns
pub mod OldestAsks
pub mod Fair
