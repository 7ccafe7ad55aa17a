mod CopiedTables
mod FilledTables
pub mod FoldedPaths
pub mod Joins
mod OutlinedTables
pub mod Refusals
mod Replacements
mod Results
mod Rows
mod SameRows
mod Tables
mod KeptTrees
mod Updates
mod Writes
mod WrittenRows
mod Blames
mod Cuts
mod Makes
