pub mod Clones
pub mod EntryBlocks
pub mod FirstContent
pub mod Monitors
pub mod Octals
pub mod Paths
pub mod ResolveUndo
pub mod TableReadings
mod MarkContents
