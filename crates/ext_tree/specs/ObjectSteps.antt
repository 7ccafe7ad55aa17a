-- The contracts of helpers that may look up a store's trees (gitformat-index, "Cache tree"). Public clauses cite none
-- of these.
use Rattle.std.specs.Prelude.{Option, Some, None}
use Rattle.index_parts.specs.Object.{Found}
use Rattle.index_parts.specs.declared.hash.ObjectId.{ObjectId}
use Rattle.ext_tree.specs.Agreement.{Trees, AreStoredTrees}
use Rattle.ext_tree.specs.TreeFaults.{TreeFault, NodeCause, NodeOrMemoryCause}
use Rattle.ext_tree.specs.declared.verify.Error.{Error}

-- the trees of a store, if one is used
abbrev pub AreLooked : Option (ObjectId → Found) → Option Trees → Type 0
AreLooked None None = Unit {0}
AreLooked (Some found) (Some trees) = AreStoredTrees found trees
AreLooked None (Some trees) = ⊥
AreLooked (Some found) None = ⊥

-- out of memory for an object may occur only if a store is used
abbrev pub ObjectCause : Option Trees → Error → Option TreeFault → Type 0
ObjectCause None e found = NodeCause e found
ObjectCause (Some trees) e found = NodeOrMemoryCause e found
