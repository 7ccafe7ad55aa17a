mod Covered
mod Grouped
mod Scaled
mod Written
