pub mod Entries
pub mod Fields
pub mod Show
pub mod Untracked
pub mod Words
