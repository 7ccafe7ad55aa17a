pub mod EndMarks
pub mod Errors
pub mod Items
pub mod Limits
pub mod MarkerReadings
pub mod Readings
pub mod Walks
pub mod WrittenItems
