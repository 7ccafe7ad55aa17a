-- Leaves at places of lists.
use Rattle.std.proofs.Common.{[]}
use Rattle.index_parts.specs.declared.hash.ObjectId.TheVariants as ids
use Rattle.index_parts.specs.declared.object.tree.EntryKind.TheVariants as kinds
use Rattle.std.proofs.Common.{false}
use Rattle.tree_encode.specs.declared.leaf.Leaf.{Leaf}

-- what a read past the end gives
abbrev pub no_leaf : Leaf
no_leaf = record { path = record { ref_ptr = (0, 0); now = [] }; kind = kinds.Tree; id = ids.Sha1 []; later = false }
