-- The borrowed extensions that are written, each as a value, and the lengths of their contents.
use Rattle.std.specs.Prelude.{ℕ, Bool, List, length, map, Option}
use Rattle.std.specs.Option.{option_map}
use denote.Ref.{Bor}
use Rattle.index_parts.specs.declared.hash.Kind.{Kind}
use Rattle.ext_tree.specs.GitOrder.{ordered_if}
use Rattle.ext_tree.specs.Tree.{Node, node_of}
use Rattle.ext_tree.specs.TreeImage.{node_bytes}
use Rattle.ext_tree.specs.declared.Tree.{Tree}
use Rattle.ext_encode.specs.MonitorImage.{monitor_bytes}
use Rattle.ext_encode.specs.ResolveUndoImage.{resolve_undo_bytes}
use Rattle.ext_encode.specs.UntrackedImage.{cache_bytes}
use Rattle.ext_small.specs.FsMonitor.{Monitor, monitor_of}
use Rattle.ext_small.specs.ResolveUndo.{PathStages, path_stages}
use Rattle.ext_small.specs.declared.fs_monitor.FsMonitor.{FsMonitor}
use Rattle.ext_small.specs.declared.resolve_undo.ResolvePath.{ResolvePath}
use Rattle.ext_untracked.specs.Untracked.{Cache, cache_of}
use Rattle.ext_untracked.specs.declared.UntrackedCache.{UntrackedCache}

-- ---- the values

-- the cache tree in its own order, or in git's order
abbrev pub chosen_tree : Bool → Option (Bor Tree) → Option Node
chosen_tree in_git_order tree = option_map (λ t. ordered_if in_git_order (node_of t.now)) tree

abbrev pub chosen_undo : Option (Bor (List ResolvePath)) → Option (List PathStages)
chosen_undo paths = option_map (λ it. map path_stages it.now) paths

abbrev pub chosen_cache : Option (Bor UntrackedCache) → Option Cache
chosen_cache cache = option_map (λ it. cache_of it.now) cache

abbrev pub chosen_monitor : Option (Bor FsMonitor) → Option Monitor
chosen_monitor monitor = option_map (λ it. monitor_of it.now) monitor

-- ---- the lengths of the contents of those that are present

abbrev pub chosen_tree_len : Bool → Option (Bor Tree) → Option ℕ
chosen_tree_len in_git_order tree = option_map (λ t. length (node_bytes (ordered_if in_git_order (node_of t.now)))) tree

abbrev pub chosen_undo_len : Option (Bor (List ResolvePath)) → Option ℕ
chosen_undo_len paths = option_map (λ it. length (resolve_undo_bytes (map path_stages it.now))) paths

abbrev pub chosen_cache_len : Kind → Option (Bor UntrackedCache) → Option ℕ
chosen_cache_len kind cache = option_map (λ it. length (cache_bytes kind (cache_of it.now))) cache

abbrev pub chosen_monitor_len : Option (Bor FsMonitor) → Option ℕ
chosen_monitor_len monitor = option_map (λ it. length (monitor_bytes (monitor_of it.now))) monitor
