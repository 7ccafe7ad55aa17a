pub mod Answers
pub mod Commands
pub mod Meaning
pub mod Table
