pub mod Calls
pub mod Dividing
pub mod Mapping
pub mod Report
pub mod Salvaging
pub mod Showing
