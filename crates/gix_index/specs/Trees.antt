-- Definitions for clauses about objects of trees, and about states that are made from them (the library's own names).
-- Also for clauses about the stores and sinks of objects that `Lib` lacks.
pub use Rattle.index_parts.specs.NameCheck
pub use Rattle.index_parts.specs.TreeObject
pub use Rattle.tree_decode.specs.Leaves
pub use Rattle.tree_encode.specs.Kept
pub use Rattle.tree_encode.specs.Objects
pub use Rattle.index_state.specs.StateTrees
pub use Rattle.index_laws.specs.TreesAnswer
pub use Rattle.index_parts.specs.declared.check.ComponentCheck
pub use Rattle.index_parts.specs.declared.object.find.Error as FindError
pub use Rattle.index_parts.specs.declared.object.find.Find
pub use Rattle.index_parts.specs.declared.object.tree.EntryKind
pub use Rattle.index_parts.specs.declared.object.tree.EntryMode
pub use Rattle.index_parts.specs.declared.object.tree.EntryRef
pub use Rattle.index_parts.specs.declared.object.tree.Entries as TreeEntries
pub use Rattle.index_parts.specs.declared.object.tree.Malformed as MalformedTree
pub use Rattle.index_parts.specs.declared.object.NoObjects
pub use Rattle.tree_decode.specs.declared.error.Error as FromTreeError
pub use Rattle.tree_decode.specs.declared.error.Traversal
pub use Rattle.tree_encode.specs.declared.sink.Discard
pub use Rattle.tree_encode.specs.declared.sink.Sink
pub use Rattle.tree_encode.specs.declared.error.NameFault
