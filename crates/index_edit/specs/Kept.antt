-- The extensions about the entries of an index that are updated when these change (gitformat-index, "Cache tree",
-- "Resolve undo", "Untracked cache", "File System Monitor cache").
use Rattle.std.specs.Prelude.{◌≡◌, List, IfSome, Option, None}
use Rattle.std.specs.Option.{option_map}
use Rattle.index_parts.specs.declared.hash.Kind.{Kind}
use Rattle.entry_list.specs.Record.{Record}
use Rattle.ext_encode.specs.SpellableCache.{IsSpellableCache}
use Rattle.ext_small.specs.FsMonitor.{Monitor, monitor_of}
use Rattle.ext_small.specs.declared.fs_monitor.FsMonitor.{FsMonitor}
use Rattle.ext_untracked.specs.Untracked.{CacheIdsAreOf, cache_of}
use Rattle.entry_edit.specs.Changes.{applied}
use Rattle.entry_edit.specs.declared.change.Change.{Change}
use Rattle.index_edit.specs.Dirty.{monitor_after}
use Rattle.index_edit.specs.Invalidated.{CountsNoMore, InvalidatesAll, UnlistsAll}
use Rattle.index_edit.specs.Rising.{ArePathsRising}
use Rattle.index_edit.specs.Undone.{undo_paths, undone}
use Rattle.index_edit.specs.declared.kept.Kept.{Kept}

-- the monitor's answer after changes of these records
abbrev pub watched : List Change → List Record → Option FsMonitor → Option Monitor
watched cs rs monitor = monitor_after cs rs (applied cs rs) (option_map monitor_of monitor)

-- the extensions after changes of these records
pub record IsKeptAfter (cs : List Change) (rs : List Record) (old now : Kept) : Type 0 where
  pub tree : InvalidatesAll cs old.tree now.tree
  pub undo : undo_paths now.undo ≡ undone cs rs (undo_paths old.undo)
  pub untracked : UnlistsAll cs old.untracked now.untracked

-- If no node of the tree counted more than a number of entries, none does now. The paths of resolve-undo increase if
-- they did. The ids of the untracked cache are of a hash algorithm, and it can be encoded for it, if that was so.
pub record StaysSound (old now : Kept) : Type 0 where
  pub counts : CountsNoMore old.tree now.tree
  pub rising : IfSome (undo_paths old.undo) ArePathsRising → IfSome (undo_paths now.undo) ArePathsRising
  pub ids : (kind : Kind) → IfSome old.untracked (λ c. CacheIdsAreOf kind (cache_of c))
      → IfSome now.untracked (λ c. CacheIdsAreOf kind (cache_of c))
  pub spellable : (kind : Kind) → IfSome old.untracked (λ c. IsSpellableCache kind None (cache_of c))
      → IfSome now.untracked (λ c. IsSpellableCache kind None (cache_of c))
