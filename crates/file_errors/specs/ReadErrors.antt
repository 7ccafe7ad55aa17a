-- The error of reading a file for an error of its bytes, of a link or of a call (the library's own).
use Rattle.std.specs.Prelude.{◌≡◌, ℕ, List}
use Rattle.std.specs.IoError.{error_kind}
use Rattle.std.specs.Path.{path_buf_bytes}
use Rattle.std.specs.declared.io.Error.{Error as IoError}
use Rattle.std.specs.declared.io.ErrorKind.TheVariants.{OutOfMemory}
use Rattle.file_place.specs.Locks.{IsOfDisk}
use Rattle.index_model.specs.declared.error.Error.{Error as Decoding}
use Rattle.index_model.specs.declared.error.Error.TheVariants as decoding
use Rattle.ext_split.specs.declared.link.decode.Error.{Error as LinkError}
use Rattle.ext_split.specs.declared.link.decode.Error.TheVariants as links
use Rattle.file_errors.specs.declared.init.Error.{Error}
use Rattle.file_errors.specs.declared.init.Error.TheVariants as errors

-- The error for an error of decoding. An allocation failure becomes the variant of the outer type.
abbrev pub error_of : Decoding → Error
error_of decoding.Memory = errors.Memory
error_of e = errors.Decode e

-- The error for an error of the link to a shared index. An allocation failure becomes the variant of the outer type.
abbrev pub link_error_of : LinkError → Error
link_error_of links.Memory = errors.Memory
link_error_of e = errors.LinkExtension e

-- The error for a call that failed for the file at a path. An allocation failure has a variant of its own.
abbrev pub IsOfCall : List ℕ → IoError → Error → Type 0
IsOfCall path error (errors.Io fault) =
    IsOfDisk fault × (path_buf_bytes fault.path ≡ path) × (fault.error ≡ error)
IsOfCall path error (errors.Decode e) = ⊥
IsOfCall path error (errors.LinkExtension e) = ⊥
IsOfCall path error errors.Memory = error_kind error ≡ OutOfMemory
