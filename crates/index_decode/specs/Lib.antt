pub mod Behind
pub mod Head
pub mod ReadParts
