pub mod EventValues
pub mod Reading
pub mod Telling
pub mod Value
