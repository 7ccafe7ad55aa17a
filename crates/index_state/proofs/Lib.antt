mod CachedTrees
pub mod Edits
pub mod FewerEntries
pub mod Given
pub mod Merges
pub mod Smudges
pub mod Storables
pub mod Verified
pub mod VerifiedTrees
pub mod OutlineFaults
pub mod Outlines
