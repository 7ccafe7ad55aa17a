pub mod Blocks
pub mod Hasher
pub mod Lanes
pub mod Lanes256
