-- The bits of an entry's mode (gitformat-index, "Index entry", the 32-bit mode).
use Rattle.std.specs.Prelude.{ℕ, ◌==◌, bit_and, Option, Some, None, if◌then◌else◌}
use Rattle.index_parts.specs.declared.object.tree.EntryKind.{EntryKind}
use Rattle.index_parts.specs.declared.object.tree.EntryKind.TheVariants as kinds

-- a directory of a sparse index
abbrev pub directory_mode : ℕ
directory_mode = 0o040000

-- another repository's commit
abbrev pub commit_mode : ℕ
commit_mode = 0o160000

-- the bits of a mode that a file stores: those that one of the five modes has
abbrev pub stored_mode : ℕ → ℕ
stored_mode mode = bit_and mode 0o160755

abbrev pub file_mode : ℕ
file_mode = 0o100644

-- a file that its owner may run
abbrev pub executable_mode : ℕ
executable_mode = 0o100755

-- a symbolic link
abbrev pub link_mode : ℕ
link_mode = 0o120000

-- the mode of a tree's entry of this type
abbrev pub mode_of_kind : EntryKind → ℕ
mode_of_kind kinds.Tree = directory_mode
mode_of_kind kinds.Blob = file_mode
mode_of_kind kinds.BlobExecutable = executable_mode
mode_of_kind kinds.Link = link_mode
mode_of_kind kinds.Commit = commit_mode

-- the type of a tree's entry for one of the five modes, None for any other mode
abbrev pub named_kind : ℕ → Option EntryKind
named_kind mode =
    if mode == directory_mode then Some kinds.Tree
    else (if mode == file_mode then Some kinds.Blob
    else (if mode == executable_mode then Some kinds.BlobExecutable
    else (if mode == link_mode then Some kinds.Link
    else (if mode == commit_mode then Some kinds.Commit
    else None))))
