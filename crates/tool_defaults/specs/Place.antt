-- Which file the index is if no argument names it (git, "GIT_INDEX_FILE" and "GIT_DIR"; gitrepository-layout: a `.git`
-- that is a directory, or a file with the text `gitdir: <path>`).
use Rattle.std.specs.Prelude.{◌≡◌, ◌≤◌, ◌<◌, ◌==◌, ◌-◌, ◌++◌, ℕ, zero, suc, List, codes, length, take, drop}
use Rattle.std.specs.Prelude.{Option, Some, None, if◌then◌else◌, nat_eq, ◌||◌}
use Rattle.std.specs.List.{starts_with, suffix_len}
use Rattle.std.specs.Option.{option_map}
use Rattle.std.specs.Path.{path_join, path_with_file_name}
use Rattle.std.specs.Str.{byte}
use Rattle.std.specs.String.{string_bytes}
use Rattle.gix_index.specs.Disk.World.{Absent, Directory, Holds, Known, Leads, Special, Unknown, World}
use Rattle.tool_defaults.specs.declared.place.Surroundings.{Surroundings}

-- ---- what a `.git` is. A link counts as what it leads to, of which nothing is known.

abbrev pub MayBeFolder : Known → Type 0
MayBeFolder Unknown = Unit {0}
MayBeFolder Absent = ⊥
MayBeFolder (Holds file) = ⊥
MayBeFolder (Leads to) = Unit {0}
MayBeFolder Directory = Unit {0}
MayBeFolder Special = ⊥

-- a regular file with these bytes
abbrev pub MayBeFile : Known → List ℕ → Type 0
MayBeFile Unknown bytes = Unit {0}
MayBeFile Absent bytes = ⊥
MayBeFile (Holds file) bytes = bytes ≡ file.bytes
MayBeFile (Leads to) bytes = Unit {0}
MayBeFile Directory bytes = ⊥
MayBeFile Special bytes = ⊥

-- a regular file, or a link
abbrev pub MayBeOpened : Known → Type 0
MayBeOpened Unknown = Unit {0}
MayBeOpened Absent = ⊥
MayBeOpened (Holds file) = Unit {0}
MayBeOpened (Leads to) = Unit {0}
MayBeOpened Directory = ⊥
MayBeOpened Special = ⊥

-- neither a directory nor a file
abbrev pub MayBePassed : Known → Type 0
MayBePassed Unknown = Unit {0}
MayBePassed Absent = Unit {0}
MayBePassed (Holds file) = ⊥
MayBePassed (Leads to) = Unit {0}
MayBePassed Directory = ⊥
MayBePassed Special = Unit {0}

-- the path in a text: all of it without the line ends at its end, if any is left
abbrev pub without_line_ends : List ℕ → List ℕ
without_line_ends text =
    take (length text - suffix_len (λ b. b == byte "\n" || b == byte "\r") text) text

abbrev pub some_path : List ℕ → Option (List ℕ)
some_path path = if length path == 0 then None else Some path

abbrev pub path_in : List ℕ → Option (List ℕ)
path_in text = some_path (without_line_ends text)

-- the path in the text of a `.git` file: what follows `gitdir: `
abbrev pub gitdir_of : List ℕ → Option (List ℕ)
gitdir_of text = if starts_with nat_eq text (codes "gitdir: ") then path_in (drop 8 text) else None

-- the index in a git directory
abbrev pub index_in : List ℕ → List ℕ
index_in dir = path_join dir (codes "index")

-- The index to which the file or directory at a path leads. A relative path in a file is relative to that file's
-- directory.
pub data LeadsToIndex (world : World) (git : List ℕ) : List ℕ → Type 0 where
  by_folder : (index : List ℕ) → MayBeFolder (world git) → index ≡ index_in git → LeadsToIndex world git index
  by_file : (text dir index : List ℕ) → MayBeFile (world git) text → gitdir_of text ≡ Some dir
      → index ≡ index_in (path_with_file_name git dir) → LeadsToIndex world git index

-- ---- upward

-- the directory that is `n` levels above, and the `.git` in it
abbrev pub folder_above : ℕ → List ℕ
folder_above zero = codes ""
folder_above (suc n) = folder_above n ++ codes "../"

abbrev pub git_above : ℕ → List ℕ
git_above n = folder_above n ++ codes ".git"

-- a directory upward, `above` levels up; none before it has a `.git`
pub record IsReached (world : World) (depth above : ℕ) : Type 0 where
  pub within : above ≤ depth
  pub passed : (n : ℕ) → n < above → MayBePassed (world (git_above n))

-- ---- together

-- a variable that is set, and not empty
abbrev pub text_given : Option (List ℕ) → Option (List ℕ)
text_given None = None
text_given (Some text) = some_path text

abbrev pub index_given : Surroundings → Option (List ℕ)
index_given around = text_given (option_map string_bytes around.index_file)

abbrev pub folder_given : Surroundings → Option (List ℕ)
folder_given around = text_given (option_map string_bytes around.git_dir)

-- the index to which the first `.git` upward leads
abbrev pub IsFoundUpward : World → ℕ → List ℕ → Type 0
IsFoundUpward world depth index =
    (above : ℕ) × IsReached world depth above × LeadsToIndex world (git_above above) index

-- the index in the folder that GIT_DIR names, or else the one that is found
abbrev pub IsInGitDir : World → Option (List ℕ) → ℕ → List ℕ → Type 0
IsInGitDir world (Some dir) depth index = index ≡ index_in dir
IsInGitDir world None depth index = IsFoundUpward world depth index

-- the file that GIT_INDEX_FILE names, or else the one in `IsInGitDir`
abbrev pub IsNamedBy : World → Option (List ℕ) → Option (List ℕ) → ℕ → List ℕ → Type 0
IsNamedBy world (Some file) dir depth index = index ≡ file
IsNamedBy world None dir depth index = IsInGitDir world dir depth index

abbrev pub IsIndexPath : World → Surroundings → List ℕ → Type 0
IsIndexPath world around index =
    IsNamedBy world (index_given around) (folder_given around) around.depth index
