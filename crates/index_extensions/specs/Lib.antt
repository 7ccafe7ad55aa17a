pub mod EndMarker
pub mod ExtensionValue
pub mod Encoding
pub mod Walk
pub mod WalkSteps
