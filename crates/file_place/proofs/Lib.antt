pub mod Links
pub mod Moved
pub mod Readers
pub mod Sizes
mod Worlds
