pub mod Digits
pub mod Halving
pub mod Prefix
