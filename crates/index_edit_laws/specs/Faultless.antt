-- The changes that leave entries which have trees (git-update-index, "--cacheinfo"; git-write-tree).
use Rattle.std.specs.Prelude.{◌≡◌, ℕ, ◌≤◌, ◌==◌, List, All, count_by, length, None}
use Rattle.index_parts.specs.Id.{id_bytes, id_kind, id_len}
use Rattle.index_parts.specs.declared.hash.Kind.{Kind}
use Rattle.entry_list.specs.Record.{Record}
use Rattle.entry_list.specs.declared.Pathless.{Pathless}
use Rattle.entry_edit.specs.Refusals.{Check, staged_entry_fault}
use Rattle.entry_edit.specs.Wholes.{first_in_whole}
use Rattle.entry_edit.specs.declared.change.Change.{Change}
use Rattle.entry_edit.specs.declared.change.Change.TheVariants as changes

-- ---- the entries that changes stage

-- a path has at most 2048 slashes: the largest number of directories above an entry that has a tree
abbrev pub IsShallow : List ℕ → Type 0
IsShallow path = count_by (λ b. b == 47) path ≤ 2048

-- the path of an entry that a change stages has at most 2048 slashes
abbrev pub StagesShallow : Change → Type 0
StagesShallow (changes.Stage entry path) = IsShallow path.now
StagesShallow (changes.Unstage path) = Unit {0}

-- An entry that is staged at a path is valid, the path isn't too deep, and the id has the length of its hash algorithm,
-- as each in memory has.
pub record IsFaultless (check : Check) (kind : Kind) (entry : Pathless) (path : List ℕ) : Type 0 where
  pub granted : staged_entry_fault check kind entry path ≡ None
  pub shallow : IsShallow path
  pub sized : length (id_bytes entry.id) ≡ id_len (id_kind entry.id)

-- the entry that a change stages is valid, its path isn't too deep, and its id has the length of its hash algorithm
abbrev pub StagesFaultless : Check → Kind → Change → Type 0
StagesFaultless check kind (changes.Stage entry path) = IsFaultless check kind entry path.now
StagesFaultless check kind (changes.Unstage path) = Unit {0}

-- ---- the changes with the entries

-- each change is such, and no path of one is in a directory that the records have as one entry
pub record AreFaultless (check : Check) (kind : Kind) (cs : List Change) (rs : List Record) : Type 0 where
  pub each : All (StagesFaultless check kind) cs
  pub outside : first_in_whole cs rs ≡ None
