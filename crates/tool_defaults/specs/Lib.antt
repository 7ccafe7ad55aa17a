pub mod Config
pub mod Digests
pub mod Faults
pub mod KindAt
pub mod KindCalls
pub mod Place
pub mod PlaceFaults
pub mod Repository
