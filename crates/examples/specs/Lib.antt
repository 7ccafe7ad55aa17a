pub mod Changed
pub mod Conflict
pub mod Listed
pub mod Repaired
