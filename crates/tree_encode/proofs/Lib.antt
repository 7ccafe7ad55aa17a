pub mod Aparts
pub mod Begun
pub mod Behinds
pub mod Beside
pub mod Checked
pub mod Complete
pub mod Divided
pub mod Gives
pub mod Keeps
pub mod Leaves
pub mod OneTree
pub mod PathNames
pub mod Pushes
pub mod Ranges
pub mod Ready
mod RunEnds
pub mod Searches
mod SharedPaths
pub mod Sorting
pub mod Spots
pub mod Steps
pub mod Whole
