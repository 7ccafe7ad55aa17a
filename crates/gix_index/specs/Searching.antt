-- Definitions for clauses about tables of names and directories, which are built once for many lookups. Also for
-- clauses about lookups that use these tables or that filter entries (the library's own names).
pub use Rattle.base_search.specs.Digits
pub use Rattle.entry_lookup.specs.FilterMap
pub use Rattle.entry_lookup.specs.Folded
pub use Rattle.entry_lookup.specs.Searches
pub use Rattle.entry_lookup.specs.Tables
pub use Rattle.index_state.specs.StateSearches
pub use Rattle.entry_lookup.specs.declared.folded.AccelerateLookup
pub use Rattle.entry_lookup.specs.declared.paths.FilterMapPaths
pub use Rattle.entry_lookup.specs.declared.tables.DirectoryTable
pub use Rattle.entry_lookup.specs.declared.tables.PathSearch
