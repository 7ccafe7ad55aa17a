pub mod LeafSteps
pub mod Leaves
pub mod TreeCalls
