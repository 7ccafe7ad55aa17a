pub mod Line
pub mod Mode
pub mod Names
pub mod Quoting
pub mod Text
