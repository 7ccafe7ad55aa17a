pub mod EntryFaults
pub mod Lent
pub mod LentSteps
pub mod Reader
