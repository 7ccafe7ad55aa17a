use Rattle.std.proofs.Common.{◌≡◌, ◌++◌, Ok, take}
use Rattle.std.specs.List.{flat_map}
use Rattle.ext_tree.specs.Tree.{node_of}
use Rattle.base_text.specs.Blocks.{PutsBlocks}
use Rattle.view_list.specs.Directories.{subtree_lines}
use Rattle.view_list.proofs.trees.+directories.Given as goal

-- the lines of the directories before this one follow those that were collected, and a prefix of all was written
abbrev pub invariant-append_directories-loop-tree : goal.invariant-append_directories-loop-tree
invariant-append_directories-loop-tree g l = record {
  written : PutsBlocks {T = Unit {0}} g.W.Out l.fn.out l.out (Ok tt) l.lines.items
      (l.fn.lines.items
      ++ flat_map (λ t. subtree_lines l.style l.fn.front.items (node_of t)) (take l.tree-index l.trees));
  kept : l.front.items ≡ l.fn.front.items;
}
