mod Checks
mod Directories
mod Finds
mod FoldedPlaces
mod Giving
mod Prefixes
mod RowsAt
mod Tellings
mod Updates
mod Writings
pub mod Refusals
