-- The id and the count of a single node. Public clauses cite none of these.
use Rattle.std.specs.Prelude.{ℕ, List}
use Rattle.ext_tree.specs.declared.Tree.{Tree}
use Rattle.ext_tree.specs.declared.Tree.TheViews.{out-Tree}
use Rattle.tree_encode.specs.TreeIds.{Spot}

-- The single node, reached by these names.
abbrev pub own_spot : List (List ℕ) → Tree → Spot
own_spot names t = record { names = names; id = (out-Tree t).id; count = (out-Tree t).num_entries }
