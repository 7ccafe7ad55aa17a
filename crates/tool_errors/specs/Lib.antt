pub mod Calls
pub mod Nuls
pub mod Options
pub mod Outputs
pub mod Reading
pub mod Storing
