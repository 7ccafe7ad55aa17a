pub mod LinkErrors
pub mod Links
pub mod OnceLinkFaults
pub mod OnceLinks
pub mod Candidates
mod MergeLoops
pub mod Merged
pub mod Merging
