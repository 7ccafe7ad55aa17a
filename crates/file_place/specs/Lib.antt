pub mod Calls
pub mod Folders
pub mod Locks
pub mod Sizes
pub mod Sources
pub mod Times
pub mod World
pub mod Shelf
