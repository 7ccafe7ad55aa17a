pub mod ReadErrors
pub mod WriteFaults
