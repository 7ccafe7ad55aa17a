-- The part of an index that a file stores, and the result of reading it (gitformat-index, "Index entry", "Extensions").
use Rattle.std.specs.Prelude.{◌||◌, true, false, None}
use Rattle.std.specs.Option.{option_map}
use Rattle.entry_fields.specs.declared.entry.stat.FileTime.{FileTime}
use Rattle.ext_tree.specs.StoredTree.{stored_node}
use Rattle.entry_list.specs.EntryImage.{stored_records}
use Rattle.entry_list.specs.Record.{has_directory}
use Rattle.entry_list.specs.declared.Version.{Version}
use Rattle.index_model.specs.declared.write.Options.{Options}
use Rattle.index_model.specs.Image.{chosen_extensions, has_marker, image_version}
use Rattle.index_model.specs.Contents.{Contents}

-- What a file stores: the hash algorithm, the records, whether the index is sparse, and the chosen extensions. The rest
-- of the value isn't stored, and is unchanged: time, version, whether there were an end marker and an offset table, and
-- whether the extensions match.
abbrev pub stored : Contents → Options → Contents
stored v options = record v {
  records = stored_records v.records;
  extensions = record v.extensions {
    sparse = v.extensions.sparse || has_directory (stored_records v.records);
    tree = option_map (stored_node v.kind) (chosen_extensions v options).tree;
    link = None;
    resolve_undo = (chosen_extensions v options).resolve_undo;
    untracked = (chosen_extensions v options).untracked;
    fs_monitor = (chosen_extensions v options).fs_monitor;
  };
}

-- the result of reading the image, at this time
abbrev pub expected : Contents → Options → FileTime → Contents
expected v options time = record (stored v options) {
  time = time;
  version = image_version v options;
  extensions = record (stored v options).extensions { had_end_marker = has_marker v options; had_offset_table = false };
  fit = true;
}

-- everything of a value except a link and an offset table, as it is read again at this time and with this version
abbrev pub kept_value : Contents → FileTime → Version → Contents
kept_value v time version = record v {
  time = time;
  version = version;
  extensions = record v.extensions { link = None; had_offset_table = false };
  fit = true;
}
