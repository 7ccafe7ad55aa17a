pub mod Link
pub mod Merge
pub mod MergeSteps
pub mod MergeCalls
