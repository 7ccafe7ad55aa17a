-- Why no index is found if no argument names one (the program's own).
use Rattle.std.specs.Prelude.{◌≡◌, ◌≢◌, ◌⊎◌, ◌≤◌, ℕ, List, Bool, true, Option, Some, None, Result, String}
use Rattle.std.specs.Prelude.{IfErr, IfNone, IfOk, IfSome}
use Rattle.std.specs.Global.{Global}
use Rattle.std.specs.IoError.{error_kind}
use Rattle.std.specs.Path.{path_buf_bytes, path_with_file_name}
use Rattle.std.specs.Str.{IsUtf8}
use Rattle.std.specs.String.{string_bytes}
use Rattle.std.specs.declared.io.ErrorKind.TheVariants.{OutOfMemory}
use Rattle.std.specs.declared.path.buf.PathBuf.{PathBuf}
use Rattle.gix_index.specs.Disk.World.{IsFaultOf, Known, World}
use Rattle.gix_index.specs.OnDisk.FolderTrait.{Ghosts}
use Rattle.tool_defaults.specs.Place.{IsFoundUpward, IsIndexPath, IsReached, LeadsToIndex, MayBeFile, MayBePassed}
use Rattle.tool_defaults.specs.Place.{folder_given, gitdir_of, git_above, index_given, index_in}
use Rattle.tool_defaults.specs.declared.error.Error.{Error}
use Rattle.tool_defaults.specs.declared.error.Error.TheVariants as errors
use Rattle.tool_defaults.specs.declared.place.Surroundings.{Surroundings}

-- a `.git` file with this text names no path, or one that isn't UTF-8
abbrev pub HasNoPath : List ℕ → Type 0
HasNoPath text = (gitdir_of text ≡ None)
    ⊎ ((dir : List ℕ) × (gitdir_of text ≡ Some dir) × (IsUtf8 dir → ⊥))

-- Why a `.git` of which this is known leads to no index. It is the file's text, or an I/O error. In a folder that works
-- it is an error of what is known there.
abbrev pub GitFileCause : Bool → Known → List ℕ → Error → Type 0
GitFileCause works known git (errors.Io fault) = (path_buf_bytes fault.path ≡ git)
    × (error_kind fault.error ≢ OutOfMemory) × (works ≡ true → IsFaultOf known fault.error)
GitFileCause works known git (errors.NoGitDir at) = (path_buf_bytes at ≡ git)
    × ((text : List ℕ) × MayBeFile known text × HasNoPath text)
GitFileCause works known git (errors.NotRegular at) = ⊥
GitFileCause works known git (errors.Empty at) = ⊥
GitFileCause works known git (errors.NoIndex at start) = ⊥
GitFileCause works known git (errors.KindNotTold at) = ⊥
GitFileCause works known git (errors.OtherKind at) = ⊥
GitFileCause works known git (errors.NoCommonDir at) = ⊥
GitFileCause works known git errors.NoRepository = ⊥
GitFileCause works known git errors.Memory = Unit {0}

-- why the search upward ends without an index: at the first `.git`, or because no directory up to this depth has one
abbrev pub SearchCause : Bool → World → ℕ → Error → Type 0
SearchCause works world depth errors.NoRepository = (n : ℕ) → n ≤ depth → MayBePassed (world (git_above n))
SearchCause works world depth e =
    (above : ℕ) × IsReached world depth above × GitFileCause works (world (git_above above)) (git_above above) e

-- Why no index is found by anything that may name it: no variable does, and the search ends without one. Running out of
-- memory has a variant of its own.
abbrev pub IndexPathCause : Bool → World → Surroundings → Error → Type 0
IndexPathCause works world around errors.Memory = Unit {0}
IndexPathCause works world around e = (index_given around ≡ None) × (folder_given around ≡ None)
    × SearchCause works world around.depth e

-- ---- what each step of the search returns

-- a `.git` file with this text leads to an index
abbrev pub LeadsByText : List ℕ → List ℕ → PathBuf Global → Type 0
LeadsByText git text index = (dir : List ℕ) × (gitdir_of text ≡ Some dir)
    × (path_buf_bytes index ≡ index_in (path_with_file_name git dir))

-- why a `.git` file with this text leads to no index, whatever else is known of it
abbrev pub GitTextCause : List ℕ → List ℕ → Error → Type 0
GitTextCause git text e = (works : Bool) (known : Known) → MayBeFile known text → GitFileCause works known git e

-- the index to which a `.git` leads; none if it may be neither a directory nor a file
pub record FindsIndex {D F M : Type 0} (folder : Ghosts D F M) (now : D) (git : List ℕ)
    (result : Result (Option (PathBuf Global)) Error) : Type 0 where
  pub leads : IfOk result (λ found. IfSome found (λ index. LeadsToIndex (folder.known now) git (path_buf_bytes index)))
  pub passed : IfOk result (λ found. IfNone found (MayBePassed (folder.known now git)))
  pub fault : IfErr result (GitFileCause (folder.works now) (folder.known now git) git)

-- the index to which the first `.git` upward leads
abbrev pub IsUpward : {D F M : Type 0} → Ghosts D F M → D → ℕ → PathBuf Global → Type 0
IsUpward folder now depth index = IsFoundUpward (folder.known now) depth (path_buf_bytes index)

-- the index that the variables name, or else the one that is found
abbrev pub IsSelectedIndex : {D F M A : Type 0} → Ghosts D F M → D → Surroundings → String A → Type 0
IsSelectedIndex folder now around index = IsIndexPath (folder.known now) around (string_bytes index)
