pub mod Bitmaps
pub mod Document
pub mod Event
pub mod Marks
pub mod Trees
pub mod Undo
pub mod Untracked
