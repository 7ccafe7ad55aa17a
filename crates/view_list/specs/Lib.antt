pub mod Directories
pub mod DirectorySteps
pub mod Line
