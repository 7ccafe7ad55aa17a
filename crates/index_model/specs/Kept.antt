-- The extensions of an index that are written (gitformat-index, "Extensions"): all that match, or at most the cache
-- tree. The cache tree, the untracked cache and a monitor's answer describe the list of entries. They are preserved if
-- they still match it.
use Rattle.std.specs.Prelude.{◌≡◌, ℕ, Bool, true, false, Option, Some, None, IfSome, if◌then◌else◌}
use Rattle.std.specs.Option.{option_map}
use Rattle.index_parts.specs.declared.hash.Kind.{Kind}
use Rattle.ext_tree.specs.GitOrder.{in_git_order}
use Rattle.ext_tree.specs.StoredTree.{stored_node}
use Rattle.ext_encode.specs.Chosen.{Extensions}
use Rattle.ext_encode.specs.MonitorPlaces.{monitor_is_within}
use Rattle.ext_encode.specs.SpellableCache.{names_are_some}
use Rattle.index_model.specs.Outcome.{Outcome}
use Rattle.ext_small.specs.FsMonitor.{Monitor}
use Rattle.ext_untracked.specs.Untracked.{Cache}

-- a value if it matches
abbrev pub where_fit : {A : Type 0} → Bool → Option A → Option A
where_fit true x = x
where_fit false x = None

-- a cache if no untracked name is empty
abbrev pub cache_with_names : Option Cache → Option Cache
cache_with_names None = None
cache_with_names (Some c) = if names_are_some c then Some c else None

-- a monitor's answer if it is about at most `count` entries
abbrev pub monitor_within : ℕ → Option Monitor → Option Monitor
monitor_within count None = None
monitor_within count (Some m) = if monitor_is_within count m then Some m else None

-- the extensions that are preserved with `count` entries, a cache tree in git's order of directories
abbrev pub kept : Bool → ℕ → Outcome → Extensions
kept fit count o = record {
  tree = option_map in_git_order (where_fit fit o.tree);
  resolve_undo = o.resolve_undo;
  untracked = where_fit fit (cache_with_names o.untracked);
  fs_monitor = where_fit fit (monitor_within count o.fs_monitor);
  sparse = o.sparse;
}

-- the mark of a sparse index, and the cache tree if it is requested
abbrev pub tree_and_mark : Bool → Outcome → Extensions
tree_and_mark asked o = record {
  tree = where_fit asked o.tree;
  resolve_undo = None;
  untracked = None;
  fs_monitor = None;
  sparse = o.sparse;
}

-- no untracked name is empty, and a monitor's answer is about at most `count` entries
pub record AreWellFormed (count : ℕ) (o : Outcome) : Type 0 where
  pub names : IfSome o.untracked (λ c. names_are_some c ≡ true)
  pub bits : IfSome o.fs_monitor (λ m. monitor_is_within count m ≡ true)

-- the extensions that a reader gets from those that were written: a node of the cache tree without a count has no id
abbrev pub read_as : Bool → Kind → Extensions → Outcome
read_as marker kind e = record {
  tree = option_map (stored_node kind) e.tree;
  link = None;
  resolve_undo = e.resolve_undo;
  untracked = e.untracked;
  fs_monitor = e.fs_monitor;
  sparse = e.sparse;
  had_end_marker = marker;
  had_offset_table = false;
}
