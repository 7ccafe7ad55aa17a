pub mod Beside
pub mod Strict
