use Rattle.std.proofs.Common.{◌≡◌, ℕ, List, All, map, take}
use Rattle.std.specs.Option.{option_map}
use Rattle.index_parts.specs.declared.hash.Kind.{Kind}
use Rattle.ext_tree.specs.Tree.{node_of, nodes_from}
use Rattle.entry_list.specs.Record.{Record}
use Rattle.tree_encode.specs.Staged.{merged_in, staged_in, unmerged_in}
use Rattle.tree_encode.specs.TreeIds.{IsRight, spots_below}
use Rattle.tree_encode.specs.TreeIdsSteps.{GivesAt, parent_path}
use Rattle.tree_encode.proofs.tree_ids.+check_nodes.Given as goal

-- the path is as it was, and the children so far are right with all below them
abbrev pub invariant-loop-child : goal.invariant-loop-child
invariant-loop-child l = record {
  parent : l.parent.items ≡ l.initial.parent.items;
  right : (kind : Kind) (rs : List Record) (names : List (List ℕ)) → l.unmerged ≡ unmerged_in rs
      → l.initial.parent.items ≡ parent_path names
      → GivesAt kind (staged_in (merged_in rs)) names (option_map (λ t. node_of t.now) l.given)
      → All (IsRight kind rs) (spots_below names (nodes_from (map node_of (take l.child-index l.child-items))));
}
