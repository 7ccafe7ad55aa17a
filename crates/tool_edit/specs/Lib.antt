pub mod Checking
pub mod Listing
pub mod Rewriting
pub mod Trees
pub mod Updated
pub mod Updating
