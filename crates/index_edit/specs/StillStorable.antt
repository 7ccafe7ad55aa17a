-- The statement that a file can store an index after changes if it could before them (gitformat-index, "Index entry",
-- "Cache tree", "Resolve undo").
use Rattle.std.specs.Prelude.{◌≢◌, All}
use Rattle.entry_list.specs.Record.{IsSized}
use Rattle.entry_edit.specs.declared.change.Change.{Change}
use Rattle.index_model.specs.Contents.{Contents}
use Rattle.index_model.specs.Storable.{CanKeepUndo, IsStorable}
use Rattle.index_edit.specs.Recordable.{StagesSuch}

-- The numbers of an entry that is staged fit their bits, and its id has the length of its hash algorithm. Each entry in
-- memory is so.
abbrev pub StagesSized : Change → Type 0
StagesSized c = StagesSuch IsSized c

-- No path contains a NUL, including those of entries that a file omits. So each side of a conflict can be recorded when
-- it is removed.
abbrev pub LackNulInAll : Contents → Type 0
LackNulInAll v = All (λ r. All (λ b. b ≢ 0) r.path) v.records

-- If a file can store the one index, it can store the other. If no path of the one contains a NUL, none of the other
-- does. If both hold, and resolve-undo of the one can be preserved, that of the other can.
pub record StaysStorable (old now : Contents) : Type 0 where
  pub storable : IsStorable old → IsStorable now
  pub without_nul : LackNulInAll old → LackNulInAll now
  pub undo : IsStorable old → LackNulInAll old → CanKeepUndo old → CanKeepUndo now
