-- An error of this crate for a call of the system that failed, and what one shows (the program's own).
use Rattle.std.specs.Prelude.{◌≡◌, ◌≢◌, ℕ, List, length}
use Rattle.std.specs.IoError.{error_kind}
use Rattle.std.specs.Path.{path_buf_bytes}
use Rattle.std.specs.declared.io.Error.{Error as IoError}
use Rattle.std.specs.declared.io.ErrorKind.TheVariants.{OutOfMemory}
use Rattle.gix_index.specs.Disk.World.{Known, MayBe}
use Rattle.file_place.specs.Sizes.{IsSizeFault, IsTooLong}
use Rattle.tool_defaults.specs.declared.error.Error.{Error}
use Rattle.tool_defaults.specs.declared.error.Error.TheVariants as errors
use Rattle.tool_defaults.specs.declared.error.FirstBytes.{FirstBytes}

-- the error of a call for the file at a path; running out of memory has a variant of its own
abbrev pub IsOfFault : List ℕ → IoError → Error → Type 0
IsOfFault path e (errors.Io fault) =
    (path_buf_bytes fault.path ≡ path) × (fault.error ≡ e) × (error_kind e ≢ OutOfMemory)
IsOfFault path e errors.Memory = error_kind e ≡ OutOfMemory
IsOfFault path e (errors.NotRegular at) = ⊥
IsOfFault path e (errors.Empty at) = ⊥
IsOfFault path e (errors.NoIndex at start) = ⊥
IsOfFault path e (errors.KindNotTold at) = ⊥
IsOfFault path e (errors.OtherKind at) = ⊥
IsOfFault path e (errors.NoCommonDir at) = ⊥
IsOfFault path e (errors.NoGitDir at) = ⊥
IsOfFault path e errors.NoRepository = ⊥

-- an error of reading the file at a path: memory ran out, or it has more bytes than an index can have
abbrev pub IsUnreadable : Known → IoError → Type 0
IsUnreadable known e = IsSizeFault (MayBe known (λ file. IsTooLong (length file.bytes))) e

-- the bytes that an error shows of a file's beginning
abbrev pub first_bytes : FirstBytes → List ℕ
first_bytes start = start.bytes.items
