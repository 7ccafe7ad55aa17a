pub mod Blocks
pub mod Digits
pub mod Escaped
pub mod Line
pub mod Prepending
pub mod Quoted
