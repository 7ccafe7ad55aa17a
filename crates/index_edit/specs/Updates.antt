-- An index after changes of its entries, with the extensions about them (git-update-index, "--index-info";
-- gitformat-index, "Cache tree", "Resolve undo", "Untracked cache", "File System Monitor cache").
use Rattle.std.specs.Prelude.{◌≡◌, List}
use Rattle.std.specs.Option.{option_map}
use Rattle.entry_edit.specs.Changes.{applied}
use Rattle.entry_edit.specs.declared.change.Change.{Change}
use Rattle.index_model.specs.Contents.{Contents, parts_contents, parts_entries, parts_storage}
use Rattle.index_model.specs.declared.Parts.{Parts}
use Rattle.index_edit.specs.Dirty.{monitor_after}
use Rattle.index_edit.specs.Invalidated.{all_invalidated, all_unlisted}
use Rattle.index_edit.specs.Undone.{undone}

-- The records are those after the changes, one after another. The paths of the changes are invalidated in the cache
-- tree and the untracked cache. Resolve-undo has the sides of conflicts that the changes remove. A monitor's answer is
-- adjusted to the new indexes. Everything else is unchanged.
abbrev pub updated : List Change → Contents → Contents
updated cs v = record v {
  records = applied cs v.records;
  extensions = record v.extensions {
    tree = option_map (all_invalidated cs) v.extensions.tree;
    resolve_undo = undone cs v.records v.extensions.resolve_undo;
    untracked = option_map (all_unlisted cs) v.extensions.untracked;
    fs_monitor = monitor_after cs v.records (applied cs v.records) v.extensions.fs_monitor;
  };
}

-- as values the same entries, the same storage, and everything else the same
pub record AreUnchanged (old new : Parts) : Type 0 where
  pub same_entries : parts_entries new ≡ parts_entries old
  pub same_storage : parts_storage new ≡ parts_storage old
  pub same_contents : parts_contents new ≡ parts_contents old
