-- What each access to a file returns that is used to detect the hash algorithm of an index (the program's own).
use Rattle.std.specs.Prelude.{◌≡◌, ℕ, Bool, List, codes, take, true, Option, Some, Result, IfErr, IfNone, IfOk, IfSome}
use Rattle.std.specs.Global.{Global, Vec}
use Rattle.std.specs.IoError.{error_kind}
use Rattle.std.specs.Path.{path_buf_bytes, path_bytes, path_join, path_with_file_name}
use Rattle.std.specs.declared.io.Error.{Error as IoError}
use Rattle.std.specs.declared.io.ErrorKind.TheVariants.{OutOfMemory}
use Rattle.std.specs.declared.path.Path.{Path}
use Rattle.std.specs.declared.path.buf.PathBuf.{PathBuf}
use Rattle.gix_index.specs.Disk.{MayHave}
use Rattle.gix_index.specs.Disk.World.{MayBe, World, whole_of}
use Rattle.gix_index.specs.OnDisk.FolderTrait.{Ghosts as Folder}
use Rattle.gix_index.specs.OnDisk.Folders.{FailsAt}
use Rattle.gix_index.specs.OnDisk.SourceTrait.{Ghosts as Source}
use Rattle.tool_defaults.specs.KindAt.{IsSigned, MayBeIrregular, KindCause}
use Rattle.tool_defaults.specs.Place.{path_in}
use Rattle.tool_defaults.specs.Repository.{IsInGitFolder, common_beside}
use Rattle.tool_defaults.specs.declared.error.Error.{Error}

-- ---- the file itself

-- the regular file that is known to be at a path, open at its start; none if it may not be a regular file
pub record OpensPlain {D F M : Type 0} (folder : Folder D F M) (source : Source F) (now : D) (path : Path)
    (result : Result (Option F) IoError) : Type 0 where
  pub opened : IfOk result (λ found. IfSome found
      (λ file. MayBe (folder.known now (path_bytes path)) (λ there. source.stored file ≡ Some there)))
  pub start : IfOk result
      (λ found. IfSome found (λ file. source.remaining file ≡ whole_of (source.stored file)))
  pub works : folder.works now ≡ true → IfOk result (λ found. IfSome found (λ file. source.works file ≡ true))
  pub irregular : IfOk result (λ found. IfNone found (MayBeIrregular (folder.known now (path_bytes path))))
  pub fault : FailsAt folder now path result

-- the first four of the remaining bytes, or all if there are fewer
pub record ReadsFirst {S : Type 0} (source : Source S) (old new : S) (result : Result (Vec ℕ) IoError) : Type 0 where
  pub first : IfOk result (λ first. IfSome (source.remaining old) (λ left. take 4 left ≡ take 4 first.items))
  pub stored : source.stored new ≡ source.stored old
  pub works : source.works new ≡ source.works old
  pub fault : source.works old ≡ true → IfErr result (λ e. error_kind e ≡ OutOfMemory)

-- the file that is known to be at a path begins as an index, and this one is it
pub record OpensSigned {D F M : Type 0} (folder : Folder D F M) (source : Source F) (now : D) (path : List ℕ) (file : F)
    : Type 0 where
  pub opened : MayBe (folder.known now path) (λ there. source.stored file ≡ Some there)
  pub signed : IsSigned (folder.known now path)
  pub works : folder.works now ≡ true → source.works file ≡ true

-- ---- the text of a `commondir`

-- the `config` in the directory that the text names
abbrev pub LeadsToConfig : List ℕ → List ℕ → PathBuf Global → Type 0
LeadsToConfig path text config = (dir : List ℕ) × (path_in text ≡ Some dir)
    × (path_buf_bytes config ≡ path_join (path_with_file_name path dir) (codes "config"))

-- why it names none, whatever else is known
abbrev pub NoConfigCause : List ℕ → List ℕ → Error → Type 0
NoConfigCause path text e = (works : Bool) (world : World) → IsInGitFolder world path
    → MayHave (world (common_beside path)) text → KindCause works world path e
