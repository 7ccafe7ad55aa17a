-- Which records can be written as trees, or why they can't (git-write-tree; gitformat-index, "Index entry").
use Rattle.std.specs.Prelude.{◌≡◌, ◌≢◌, ◌⊎◌, ℕ, suc, ◌^◌, ◌<◌, ◌≤◌, List, [], ◌∷◌, ◌++◌, All, Contains, length, Bool}
use Rattle.std.specs.Prelude.{false, Option, Some, None}
use Rattle.bstr.specs.Owned.{bstring_bytes}
use Rattle.index_parts.specs.Id.{id_bytes, id_kind, id_len, is_null}
use Rattle.entry_fields.specs.Flags.{stage_number}
use Rattle.index_parts.specs.Mode.{named_kind}
use Rattle.index_parts.specs.declared.hash.Kind.{Kind}
use Rattle.index_parts.specs.declared.hash.ObjectId.{ObjectId}
use Rattle.index_parts.specs.declared.object.tree.EntryKind.{EntryKind}
use Rattle.index_parts.specs.declared.object.tree.EntryKind.TheVariants as kinds
use Rattle.entry_list.specs.EntryImage.{is_removed}
use Rattle.entry_list.specs.Record.{Record}
use Rattle.index_parts.specs.NameCheck.{refusal_as}
use Rattle.tree_encode.specs.Directory.{IsPathComponent}
use Rattle.tree_encode.specs.Staged.{Staged, staged_in}
use Rattle.tree_encode.specs.declared.error.Error.{Error}
use Rattle.tree_encode.specs.declared.error.NameFault.{NameFault}
use Rattle.tree_encode.specs.declared.error.NameFault.TheVariants as faults
use Rattle.tree_encode.specs.declared.error.Error.TheVariants as errors

-- Why records can't be written as trees, with the path that has the error.
pub data Refusal : Type 0 where
  TooMany : Refusal
  Unmerged : (path : List ℕ) → Refusal
  Mode : (path : List ℕ) (mode : ℕ) → Refusal
  Path : (path : List ℕ) (fault : NameFault) → Refusal
  OtherKind : (path : List ℕ) → Refusal
  NullId : (path : List ℕ) → Refusal
  Both : (file below : List ℕ) → Refusal

-- ---- paths

-- A check of names. It returns the number with which it rejects a name.
abbrev pub NameCheck : Type 0
NameCheck = List ℕ → Bool → Option ℕ

-- A path of names that the check accepts, below at most `levels` directories. The path of a directory has a slash at
-- the end, and is below as many directories as it has slashes.
pub data IsTreePath (check : NameCheck) : ℕ → EntryKind → List ℕ → Type 0 where
  of_file : (levels : ℕ) (k : EntryKind) (name : List ℕ) → k ≢ kinds.Tree → IsPathComponent name
      → refusal_as check name k ≡ None
      → IsTreePath check levels k name
  of_directory : (levels : ℕ) (name : List ℕ) → IsPathComponent name → refusal_as check name kinds.Tree ≡ None
      → IsTreePath check (suc levels) kinds.Tree (name ++ 47 ∷ [])
  beneath : (levels : ℕ) (k : EntryKind) (name rest : List ℕ) → IsPathComponent name
      → refusal_as check name kinds.Tree ≡ None
      → IsTreePath check levels k rest → IsTreePath check (suc levels) k (name ++ 47 ∷ rest)

-- The error in a name: it is empty, has a NUL, or is rejected by the check.
abbrev pub IsBadName : NameCheck → List ℕ → EntryKind → NameFault → Type 0
IsBadName check name k faults.Empty = name ≡ []
IsBadName check name k faults.Nul = All (λ b. b ≢ 0) name → ⊥
IsBadName check name k (faults.Refused number) = IsPathComponent name × (refusal_as check name k ≡ Some number)
IsBadName check name k faults.NoSlash = ⊥
IsBadName check name k faults.TooDeep = ⊥

-- The error in the names of a path. It is that of the first name with an error, or a directory's path has no slash at
-- the end, or there are more than `levels` slashes.
pub data IsMisnamed (check : NameCheck) : ℕ → EntryKind → List ℕ → NameFault → Type 0 where
  last_name : (levels : ℕ) (k : EntryKind) (name : List ℕ) (f : NameFault) → All (λ b. b ≢ 47) name
      → IsBadName check name k f → IsMisnamed check levels k name f
  some_name : (levels : ℕ) (k : EntryKind) (name rest : List ℕ) (f : NameFault) → All (λ b. b ≢ 47) name
      → IsBadName check name kinds.Tree f → IsMisnamed check levels k (name ++ 47 ∷ rest) f
  no_slash : (levels : ℕ) (name : List ℕ) → IsPathComponent name → refusal_as check name kinds.Tree ≡ None
      → IsMisnamed check levels kinds.Tree name faults.NoSlash
  deep : (k : EntryKind) (name rest : List ℕ) → IsPathComponent name → refusal_as check name kinds.Tree ≡ None
      → IsMisnamed check 0 k (name ++ 47 ∷ rest) faults.TooDeep
  later_name : (levels : ℕ) (k : EntryKind) (name rest : List ℕ) (f : NameFault) → IsPathComponent name
      → refusal_as check name kinds.Tree ≡ None → (k ≢ kinds.Tree) ⊎ (rest ≢ [])
      → IsMisnamed check levels k rest f → IsMisnamed check (suc levels) k (name ++ 47 ∷ rest) f

-- ---- records

-- The record isn't marked as removed, and is merged.
abbrev pub IsMergedRecord : Record → Type 0
IsMergedRecord r = (is_removed r.flags ≡ false) × (stage_number r.flags ≡ 0)

-- The record's mode has this kind of entry, and its path is made of names, below at most 2048 directories.
abbrev pub HasPath : NameCheck → Record → EntryKind → Type 0
HasPath check r k = (named_kind r.mode ≡ Some k) × IsTreePath check 2048 k r.path

-- The id has the hash algorithm `kind`, and the length of its ids.
abbrev pub IsFullId : Kind → ObjectId → Type 0
IsFullId kind id = (id_kind id ≡ kind) × (length (id_bytes id) ≡ id_len kind)

-- The record by itself can be in a tree, or is removed. It is merged, its mode and path are valid in trees, and its id
-- names an object with the hash algorithm of the index.
abbrev pub IsTreeRecord : NameCheck → Kind → Record → Type 0
IsTreeRecord check kind r = is_removed r.flags ≡ false
    → (stage_number r.flags ≡ 0) × ((k : EntryKind) × HasPath check r k) × IsFullId kind r.id
    × (is_null (id_bytes r.id) ≡ false)

-- The path is below the other, as if that were a directory.
abbrev pub IsBelow : List ℕ → List ℕ → Type 0
IsBelow path file = (rest : List ℕ) × (path ≡ file ++ 47 ∷ rest)

-- The path begins with `prefix`.
abbrev pub HasPathPrefix : List ℕ → List ℕ → Type 0
HasPathPrefix path prefix = (rest : List ℕ) × (path ≡ prefix ++ rest)

-- The path begins with that of a sparse directory.
abbrev pub IsInside : List ℕ → Staged → Type 0
IsInside path s = (s.kind ≡ kinds.Tree) × HasPathPrefix path s.path

-- The path is inside the staged entry, which may be a file or a sparse directory.
abbrev pub LiesIn : List ℕ → Staged → Type 0
LiesIn path s = IsBelow path s.path ⊎ IsInside path s

-- The error of a record that follows those which stage these. The first that applies is the error.
pub data RecordHasFault (check : NameCheck) (kind : Kind) (before : List Staged) (r : Record) : Refusal → Type 0 where
  unmerged : is_removed r.flags ≡ false → stage_number r.flags ≢ 0
      → RecordHasFault check kind before r (Unmerged r.path)
  other_mode : IsMergedRecord r → named_kind r.mode ≡ None → RecordHasFault check kind before r (Mode r.path r.mode)
  misnamed : (k : EntryKind) (f : NameFault) → IsMergedRecord r → named_kind r.mode ≡ Some k
      → IsMisnamed check 2048 k r.path f → RecordHasFault check kind before r (Path r.path f)
  other_kind : (k : EntryKind) → IsMergedRecord r → HasPath check r k → id_kind r.id ≢ kind
      → RecordHasFault check kind before r (OtherKind r.path)
  null_id : (k : EntryKind) → IsMergedRecord r → HasPath check r k → id_kind r.id ≡ kind
      → is_null (id_bytes r.id) ≢ false → RecordHasFault check kind before r (NullId r.path)
  both : (s : Staged) → is_removed r.flags ≡ false → IsTreeRecord check kind r → Contains before s → LiesIn r.path s
      → RecordHasFault check kind before r (Both s.path r.path)

-- No path is below another as if that were a directory. Inside a sparse directory there is no path but its own.
pub record AreDisjointPaths (staged : List Staged) : Type 0 where
  pub below : (s t : Staged) → Contains staged s → Contains staged t → IsBelow t.path s.path → ⊥
  pub inside : (s t : Staged) → Contains staged s → Contains staged t → IsInside t.path s → t.path ≡ s.path

-- No record has an error.
pub record AreFit (check : NameCheck) (kind : Kind) (rs : List Record) : Type 0 where
  pub each : All (IsTreeRecord check kind) rs
  pub apart : AreDisjointPaths (staged_in rs)

-- Why records can't be written as trees. There are too many to be counted, or the first one with an error has this
-- error.
pub data AreRefused (check : NameCheck) (kind : Kind) (rs : List Record) : Refusal → Type 0 where
  too_many : 2 ^ 31 ≤ length rs → AreRefused check kind rs TooMany
  first : (before : List Record) (r : Record) (behind : List Record) (f : Refusal) → length rs < 2 ^ 31
      → rs ≡ before ++ r ∷ behind → AreFit check kind before
      → RecordHasFault check kind (staged_in before) r f → AreRefused check kind rs f

-- The cause of an error of writing trees. For an error of the sink, the sink has failed with this number. For another
-- error, a list of records is rejected with it. Nothing is stated of an allocation failure.
abbrev pub TreesFaultCause : Error → (ℕ → Type 0) → (Refusal → Type 0) → Type 0
TreesFaultCause (errors.Sink number) S P = S number
TreesFaultCause errors.TooManyEntries S P = P TooMany
TreesFaultCause (errors.Unmerged path) S P = P (Unmerged (bstring_bytes path))
TreesFaultCause (errors.Mode path mode) S P = P (Mode (bstring_bytes path) mode.0)
TreesFaultCause (errors.Path path fault) S P = P (Path (bstring_bytes path) fault)
TreesFaultCause (errors.OtherKind path) S P = P (OtherKind (bstring_bytes path))
TreesFaultCause (errors.NullId path) S P = P (NullId (bstring_bytes path))
TreesFaultCause (errors.Both file below) S P = P (Both (bstring_bytes file) (bstring_bytes below))
TreesFaultCause errors.Memory S P = Unit {0}
