pub mod BlocksAgain
pub mod CacheAgain
pub mod CacheRead
pub mod KnownAgain
mod MonitorPlaces
mod OctalDigits
pub mod WrittenDirectories
pub mod WrittenMonitors
pub mod WrittenPaths
pub mod WrittenSizes
pub mod Contents
pub mod Heads
pub mod Signatures
pub mod Sizes
pub mod Wholes
