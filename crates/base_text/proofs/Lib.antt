pub mod Appended
pub mod Blocks
pub mod Placed
pub mod Prepended
pub mod Printed
pub mod Written
