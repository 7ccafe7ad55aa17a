-- An index in bytes whose entries are counted and not stored (gitformat-index; the library's own).
use Rattle.std.specs.Prelude.{ℕ, Bool, List, Ok}
use Rattle.index_parts.specs.declared.hash.Kind.{Kind}
use Rattle.entry_fields.specs.declared.entry.stat.FileTime.{FileTime}
use Rattle.index_model.specs.Contents.{Contents}
use Rattle.index_model.specs.Storable.{IsStorable}
use Rattle.index_model.specs.declared.decode.Options.{Options}
pub use Rattle.index_state.specs.Outlines.{Outlines, outlined_value}
pub use Rattle.index_state.specs.declared.outline.Outline
pub use Rattle.file_windows.specs.Passed
use Rattle.gix_index.specs.Checked.{IsFileAnswer}
use Rattle.index_state.specs.declared.outline.Outline.{Outline}

-- The bytes of a file are read as a storable value with this id at their end, and this is its outline.
pub record IsOutlined (skip : Bool) (kind : Kind) (time : FileTime) (options : Options) (bytes : List ℕ) (o : Outline)
    : Type 0 where
  pub value : Contents
  pub read : IsFileAnswer skip kind time options bytes (Ok (value, o.checksum))
  pub storable : IsStorable value
  pub outlines : Outlines value o
