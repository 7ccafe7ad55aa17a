-- The extensions that are written for an index, one after another, in the order in which git writes them
-- (gitformat-index, "Extensions").
use Rattle.std.specs.Prelude.{Bool, List, [], ◌∷◌, ◌++◌, map, Option, Some, None, if◌then◌else◌}
use Rattle.std.specs.Option.{option_map}
use Rattle.index_parts.specs.declared.hash.Kind.{Kind}
use Rattle.ext_tree.specs.GitOrder.{ordered_if}
use Rattle.ext_tree.specs.Tree.{Node, node_of}
use Rattle.ext_tree.specs.TreeImage.{tree_item}
use Rattle.index_extensions.specs.Encoding.{sparse_item}
use Rattle.index_extensions.specs.Walk.{Item}
use Rattle.ext_encode.specs.MonitorImage.{monitor_item}
use Rattle.ext_encode.specs.ResolveUndoImage.{resolve_undo_item}
use Rattle.ext_encode.specs.UntrackedImage.{cache_item}
use Rattle.ext_small.specs.FsMonitor.{Monitor, monitor_of}
use Rattle.ext_small.specs.ResolveUndo.{PathStages, path_stages}
use Rattle.ext_untracked.specs.Untracked.{Cache, cache_of}
use Rattle.ext_encode.specs.declared.chosen.Chosen.{Chosen}

-- the extensions that are written, at most one of each
pub record Extensions : Type 0 where
  pub tree : Option Node
  pub resolve_undo : Option (List PathStages)
  pub untracked : Option Cache
  pub fs_monitor : Option Monitor
  pub sparse : Bool

-- the extensions of the code's type, as plain data
abbrev pub extensions_of : Chosen → Extensions
extensions_of c = record {
  tree = option_map (λ t. ordered_if c.in_git_order (node_of t.now)) c.tree;
  resolve_undo = option_map (λ paths. map path_stages paths.now) c.resolve_undo;
  untracked = option_map (λ cache. cache_of cache.now) c.untracked;
  fs_monitor = option_map (λ monitor. monitor_of monitor.now) c.fs_monitor;
  sparse = c.is_sparse;
}

-- an extension, if there is one
abbrev pub item_if : {A : Type 0} → (A → Item) → Option A → List Item
item_if item None = []
item_if item (Some a) = item a ∷ []

-- the mark of a sparse index, if the index is sparse
abbrev pub sparse_items : Bool → List Item
sparse_items sparse = if sparse then sparse_item ∷ [] else []

-- the cache tree, resolve-undo, the untracked cache, the file system monitor's answer, and the mark of a sparse index
unfoldable pub items : Kind → Extensions → List Item
items kind e =
    item_if tree_item e.tree ++ (item_if resolve_undo_item e.resolve_undo
    ++ (item_if (cache_item kind) e.untracked ++ (item_if monitor_item e.fs_monitor ++ sparse_items e.sparse)))
