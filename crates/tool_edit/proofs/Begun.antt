-- An index that was read from a file, or that was begun without one.
use Rattle.std.proofs.Common.{◌≡◌, List, ℕ, inl, inr, subst}
use Rattle.std.specs.Global.{Global}
use Rattle.std.specs.Path.{path_buf_bytes}
use Rattle.std.specs.Prelude.{false}
use Rattle.std.specs.declared.path.buf.PathBuf.{PathBuf}
use Rattle.gix_index.specs.DecodeOptions.{Options}
use Rattle.gix_index.specs.Disk.World.{MayBeMissing, World}
use Rattle.gix_index.specs.File.{checksum_of, state_of}
use Rattle.gix_index.specs.FileTime.{FileTime}
use Rattle.gix_index.specs.Kind.{Kind}
use Rattle.gix_index.specs.ReadFile.{IsOpenedOrEmpty}
use Rattle.gix_index.specs.State.{contents}
use Rattle.gix_index.specs.declared.file.File.{File}
use Rattle.tool_errors.specs.Options.{IsBeginOf1970, unlimited_options}
use Rattle.tool_errors.proofs.Readings.{in_file_since}
use Rattle.tool_edit.specs.Updated.{IsBegun, empty, there}

pub is_begun : (world : World) (at : PathBuf Global) (path : List ℕ) (kind : Kind) (time : FileTime) (options : Options)
    (f : File) → path_buf_bytes at ≡ path → IsBeginOf1970 time → options ≡ unlimited_options
    → IsOpenedOrEmpty world at (record { object_hash = kind; skip_hash = false; timestamp = time; options = options }) f
    → IsBegun world path kind (contents (state_of f))
is_begun world at path kind time options f same begin e (inl h) = there (checksum_of f)
    (in_file_since world (path_buf_bytes at) path kind options (contents (state_of f)) (checksum_of f) same e h)
is_begun world at path kind time options f same begin e (inr h) =
    empty time begin (subst (λ (p : List ℕ). MayBeMissing (world p)) same h.0) h.1.0
