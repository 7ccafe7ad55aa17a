pub mod Digits
pub mod Halving
pub mod OrderedAnswers
pub mod Parting
pub mod Places
pub mod Prefixes
