mod Headed
pub mod Readings
pub mod Replaced
pub mod Restored
