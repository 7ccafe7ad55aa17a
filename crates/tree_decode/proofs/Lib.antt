pub mod Fits
pub mod LeavesOrder
pub mod Levels
pub mod Listings
pub mod Objects
pub mod OneListing
pub mod Stats
pub mod Trees
mod WalkLoops
pub mod Walks
