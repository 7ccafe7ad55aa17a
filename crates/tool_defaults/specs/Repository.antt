-- Whether a file is in the git directory of a repository, and the hash algorithm in the `config` that applies
-- (gitrepository-layout, "HEAD", "config" and "commondir"; git-config, "extensions.objectFormat").
use Rattle.std.specs.Prelude.{◌≡◌, ◌⊎◌, ℕ, List, codes, Option, Some, None, Result, IfErr}
use Rattle.std.specs.Prelude.{IfNone, IfOk, IfSome, true}
use Rattle.std.specs.Global.{Vec}
use Rattle.std.specs.Path.{path_bytes, path_join, path_with_file_name}
use Rattle.std.specs.declared.io.Error.{Error as IoError}
use Rattle.std.specs.declared.path.Path.{Path}
use Rattle.gix_index.specs.Disk.{MayHave}
use Rattle.gix_index.specs.Disk.World.{Absent, Directory, Holds, Known, Leads, MayBeMissing, Special, Unknown, World}
use Rattle.gix_index.specs.Disk.World.{whole_of}
use Rattle.gix_index.specs.Kind.{Kind}
use Rattle.gix_index.specs.Kind.TheVariants as kinds
use Rattle.gix_index.specs.OnDisk.FolderTrait.{Ghosts}
use Rattle.gix_index.specs.OnDisk.SourceTrait.{Ghosts as Source}
use Rattle.file_place.specs.Sizes.{IsOwnFault}
use Rattle.tool_defaults.specs.Config.{format_of}
use Rattle.tool_defaults.specs.Faults.{IsUnreadable}
use Rattle.tool_defaults.specs.Place.{MayBeOpened, path_in}

-- ---- the git directory

-- the paths of files next to a file
abbrev pub head_beside : List ℕ → List ℕ
head_beside path = path_with_file_name path (codes "HEAD")

abbrev pub common_beside : List ℕ → List ℕ
common_beside path = path_with_file_name path (codes "commondir")

abbrev pub config_beside : List ℕ → List ℕ
config_beside path = path_with_file_name path (codes "config")

-- neither a file nor a link may be at a path
abbrev pub MayBeNoFile : Known → Type 0
MayBeNoFile Unknown = Unit {0}
MayBeNoFile Absent = Unit {0}
MayBeNoFile (Holds file) = ⊥
MayBeNoFile (Leads to) = ⊥
MayBeNoFile Directory = Unit {0}
MayBeNoFile Special = Unit {0}

-- a file is in a git directory if `HEAD` is next to it, and otherwise outside of one
abbrev pub IsInGitFolder : World → List ℕ → Type 0
IsInGitFolder world path = MayBeOpened (world (head_beside path))

abbrev pub IsOutside : World → List ℕ → Type 0
IsOutside world path = MayBeNoFile (world (head_beside path))

-- ---- its config

-- The `config` that applies in the git directory of a file. In a linked work tree the text of `commondir` names the
-- directory that it is in. A relative path is relative to the git directory.
pub data IsConfigOf (world : World) (path : List ℕ) : List ℕ → Type 0 where
  its_own : (config : List ℕ) → MayBeMissing (world (common_beside path)) → config ≡ config_beside path
      → IsConfigOf world path config
  in_common : (text dir config : List ℕ) → MayHave (world (common_beside path)) text → path_in text ≡ Some dir
      → config ≡ path_join (path_with_file_name path dir) (codes "config") → IsConfigOf world path config

-- the text of a `config` of which this is known has this hash algorithm
pub record IsConfigFormat (config : Known) (format : Option Kind) : Type 0 where
  pub text : List ℕ
  pub held : MayHave config text
  pub is : format_of text ≡ format

-- a repository's `config` has this hash algorithm; if there is none, ids are SHA-1
abbrev pub IsRepositoryFormat : Known → Option Kind → Type 0
IsRepositoryFormat config format = IsConfigFormat config format ⊎ (MayBeMissing config × (format ≡ Some kinds.Sha1))

-- a file is in a git directory, and the `config` that applies there has the hash algorithm
pub record IsKindInRepository (world : World) (path : List ℕ) (kind : Kind) : Type 0 where
  pub inside : IsInGitFolder world path
  pub config : List ℕ
  pub counts : IsConfigOf world path config
  pub says : IsRepositoryFormat (world config) (Some kind)

-- ---- what each access to a file returns

-- all bytes of an open file, if they are known
pub record ReadsWholeText {S : Type 0} (source : Source S) (file : S) (result : Result (Vec ℕ) IoError) : Type 0 where
  pub text : IfOk result (λ text. IfSome (source.stored file) (λ whole. text.items ≡ whole.bytes))
  pub fault : source.works file ≡ true → IfErr result (IsOwnFault (whole_of (source.stored file)))

-- all bytes of the file at a path; none if it may be missing
pub record ReadsText {D F M : Type 0} (folder : Ghosts D F M) (now : D) (path : Path)
    (result : Result (Option (Vec ℕ)) IoError) : Type 0 where
  pub text : IfOk result (λ read. IfSome read (λ text. MayHave (folder.known now (path_bytes path)) text.items))
  pub missing : IfOk result (λ read. IfNone read (MayBeMissing (folder.known now (path_bytes path))))
  pub fault : folder.works now ≡ true → IfErr result (IsUnreadable (folder.known now (path_bytes path)))

-- the hash algorithm in the `config` at a path; none if it may be missing, or names none
pub record ReadsConfig {D F M : Type 0} (folder : Ghosts D F M) (now : D) (path : Path)
    (result : Result (Option Kind) IoError) : Type 0 where
  pub told : IfOk result
      (λ told. IfSome told (λ kind. IsConfigFormat (folder.known now (path_bytes path)) (Some kind)))
  pub untold : IfOk result (λ told. IfNone told
      (MayBeMissing (folder.known now (path_bytes path)) ⊎ IsConfigFormat (folder.known now (path_bytes path)) None))
  pub fault : folder.works now ≡ true → IfErr result (IsUnreadable (folder.known now (path_bytes path)))
