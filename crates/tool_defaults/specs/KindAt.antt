-- Which hash algorithm the index at a path has, and why it can't be detected (the program's own).
use Rattle.std.specs.Prelude.{◌≡◌, ◌≢◌, ◌⊎◌, ℕ, List, [], codes, take, Bool, true, false, Option, Some, None}
use Rattle.std.specs.IoError.{error_kind}
use Rattle.std.specs.Path.{path_buf_bytes}
use Rattle.std.specs.Str.{IsUtf8}
use Rattle.std.specs.declared.io.Error.{Error as IoError}
use Rattle.std.specs.declared.io.ErrorKind.TheVariants.{OutOfMemory}
use Rattle.gix_index.specs.Disk.{MayHave}
use Rattle.gix_index.specs.Disk.World.{Absent, Directory, Holds, IsFaultOf, Known, Leads, MayBe, MayBeMissing, Special}
use Rattle.gix_index.specs.Disk.World.{Unknown, World}
use Rattle.gix_index.specs.Kind.{Kind}
use Rattle.tool_defaults.specs.Digests.{HasSignature, IsKindOf}
use Rattle.tool_defaults.specs.Faults.{IsUnreadable, first_bytes}
use Rattle.tool_defaults.specs.Place.{path_in}
use Rattle.tool_defaults.specs.Repository.{IsConfigOf, IsInGitFolder, IsKindInRepository, IsOutside, IsConfigFormat}
use Rattle.tool_defaults.specs.Repository.{common_beside, config_beside, head_beside}
use Rattle.tool_defaults.specs.declared.error.Error.{Error}
use Rattle.tool_defaults.specs.declared.error.Error.TheVariants as errors

-- a file begins as an index
abbrev pub IsSigned : Known → Type 0
IsSigned known = MayBe known (λ file. HasSignature file.bytes)

-- a file is outside of a repository, and its trailer is that of this hash algorithm, or of none
pub record IsTrailerKind (world : World) (path : List ℕ) (kind : Option Kind) : Type 0 where
  pub outside : IsOutside world path
  pub trailer : MayBe (world path) (λ file. IsKindOf file.bytes kind)

-- The hash algorithm of a file in a repository's git directory is the one in the `config` that applies there. For any
-- other file it is that of its trailer, or if that is of none, the one in the `config` next to it.
pub data IsKindOfFile (world : World) (path : List ℕ) (kind : Kind) : Type 0 where
  by_repository : IsKindInRepository world path kind → IsKindOfFile world path kind
  by_trailer : IsTrailerKind world path (Some kind) → IsKindOfFile world path kind
  by_config : IsTrailerKind world path None → IsConfigFormat (world (config_beside path)) (Some kind)
      → IsKindOfFile world path kind

-- the hash algorithm of a file that begins as an index
abbrev pub IsKindAt : World → List ℕ → Kind → Type 0
IsKindAt world path kind = IsSigned (world path) × IsKindOfFile world path kind

-- ---- why it can't be detected

-- what is opened there may be no regular file
abbrev pub MayBeIrregular : Known → Type 0
MayBeIrregular Unknown = Unit {0}
MayBeIrregular Absent = ⊥
MayBeIrregular (Holds file) = ⊥
MayBeIrregular (Leads to) = Unit {0}
MayBeIrregular Directory = Unit {0}
MayBeIrregular Special = Unit {0}

-- the first four bytes of a file, or all if it has fewer
pub record BeginsWith (known : Known) (start : List ℕ) : Type 0 where
  pub bytes : List ℕ
  pub held : MayHave known bytes
  pub starts : take 4 bytes ≡ start

-- An I/O error for one of the files that are examined, with its path. If calls fail only because of what is there, it
-- is an error of what is there. A file that may be missing then causes no error.
pub data IsFaultAt (works : Bool) (world : World) (path : List ℕ) (e : IoError) : List ℕ → Type 0 where
  of_index : (at : List ℕ) → at ≡ path → (works ≡ true → IsFaultOf (world at) e) → IsFaultAt works world path e at
  of_head : (at : List ℕ) → at ≡ head_beside path → works ≡ false → IsFaultAt works world path e at
  of_common : (at : List ℕ) → at ≡ common_beside path → IsInGitFolder world path
      → (works ≡ true → IsUnreadable (world at) e) → IsFaultAt works world path e at
  of_repository : (at : List ℕ) → IsConfigOf world path at → IsInGitFolder world path
      → (works ≡ true → IsUnreadable (world at) e) → IsFaultAt works world path e at
  of_config : (at : List ℕ) → at ≡ config_beside path → IsTrailerKind world path None
      → (works ≡ true → IsUnreadable (world at) e) → IsFaultAt works world path e at

-- the text of a `commondir` names no path, or one that isn't UTF-8
pub record HasNoFolder (common : Known) : Type 0 where
  pub text : List ℕ
  pub held : MayHave common text
  pub none : (dir : List ℕ) → path_in text ≡ Some dir → IsUtf8 dir → ⊥

-- the last two cases without a hash algorithm: the trailer of a file and the `config` next to it
abbrev pub HasNoKind : World → List ℕ → Type 0
HasNoKind world path = IsSigned (world path) × IsTrailerKind world path None
    × (MayBeMissing (world (config_beside path)) ⊎ IsConfigFormat (world (config_beside path)) None)

-- The error is why the hash algorithm can't be detected. Running out of memory has a variant of its own.
abbrev pub KindCause : Bool → World → List ℕ → Error → Type 0
KindCause works world path (errors.Io fault) =
    (error_kind fault.error ≢ OutOfMemory) × IsFaultAt works world path fault.error (path_buf_bytes fault.path)
KindCause works world path (errors.NotRegular at) =
    (path_buf_bytes at ≡ path) × MayBeIrregular (world path)
KindCause works world path (errors.Empty at) =
    (path_buf_bytes at ≡ path) × BeginsWith (world path) []
KindCause works world path (errors.NoIndex at start) =
    (path_buf_bytes at ≡ path) × BeginsWith (world path) (first_bytes start) × (first_bytes start ≢ [])
    × (first_bytes start ≢ codes "DIRC")
KindCause works world path (errors.KindNotTold at) = (path_buf_bytes at ≡ path) × HasNoKind world path
KindCause works world path (errors.OtherKind at) =
    IsInGitFolder world path × IsConfigOf world path (path_buf_bytes at)
    × IsConfigFormat (world (path_buf_bytes at)) None
KindCause works world path (errors.NoCommonDir at) =
    (path_buf_bytes at ≡ common_beside path) × IsInGitFolder world path × HasNoFolder (world (common_beside path))
KindCause works world path (errors.NoGitDir at) = ⊥
KindCause works world path errors.NoRepository = ⊥
KindCause works world path errors.Memory = Unit {0}
