pub mod EntryValues
pub mod Json
pub mod Lines
pub mod Names
pub mod Values
