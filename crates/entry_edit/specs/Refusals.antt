-- Why an entry isn't staged (git-update-index, "--cacheinfo"; gitformat-index, "Index entry"). The first error in this
-- order is returned.
use Rattle.std.specs.Prelude.{◌⊎◌, ℕ, ◌≤◌, ◌^◌, ◌==◌, Bool, List, [], ◌∷◌, length, Option, Some, None}
use Rattle.std.specs.Prelude.{MatchResult, Result, position}
use Rattle.std.specs.Prelude.{MatchOption, ◌≡◌, if◌then◌else◌}
use Rattle.std.specs.List.{slice_split}
use Rattle.std.specs.Option.{option_or, option_map}
use Rattle.index_parts.specs.Id.{id_bytes, id_kind, is_null}
use Rattle.index_parts.specs.declared.hash.Kind.{Kind}
use Rattle.index_parts.specs.declared.hash.Kind.TheVariants as hashes
use Rattle.index_parts.specs.declared.hash.ObjectId.{ObjectId}
use Rattle.index_parts.specs.Mode.{named_kind}
use Rattle.index_parts.specs.NameCheck.{refusal_as}
use Rattle.index_parts.specs.declared.object.tree.EntryKind.{EntryKind}
use Rattle.index_parts.specs.declared.object.tree.EntryKind.TheVariants as kinds
use Rattle.entry_list.specs.declared.Pathless.{Pathless}
use Rattle.entry_edit.specs.declared.error.Error.{Error}
use Rattle.entry_edit.specs.declared.error.Error.TheVariants as errors

-- a check of names: the number with which it rejects one
abbrev pub Check : Type 0
Check = List ℕ → Bool → Option ℕ

-- the path is empty, or has a NUL
abbrev pub path_fault : List ℕ → Option Error
path_fault path =
    if length path == 0 then Some errors.EmptyPath else option_map (λ at. errors.Nul at) (position (λ b. b == 0) path)

-- the id is of another hash algorithm, or null
abbrev pub kind_fault : Kind → Kind → Option Error
kind_fault hashes.Sha1 hashes.Sha1 = None
kind_fault hashes.Sha1 hashes.Sha256 = Some (errors.OtherKind hashes.Sha1 hashes.Sha256)
kind_fault hashes.Sha256 hashes.Sha1 = Some (errors.OtherKind hashes.Sha256 hashes.Sha1)
kind_fault hashes.Sha256 hashes.Sha256 = None

abbrev pub id_fault : Kind → ObjectId → Option Error
id_fault kind id =
    option_or (kind_fault kind (id_kind id)) (if is_null (id_bytes id) then Some errors.NullId else None)

-- a name is empty, or rejected
abbrev pub name_fault : Check → EntryKind → List ℕ → Option Error
name_fault check kind name =
    if length name == 0 then Some errors.EmptyName
    else option_map (λ number. errors.Name number) (refusal_as check name kind)

-- the type of what has a name: for the last name that of the path, for the others a directory
abbrev pub kind_at : EntryKind → List (List ℕ) → EntryKind
kind_at kind [] = kind
kind_at kind (name ∷ names) = kinds.Tree

abbrev pub names_fault : Check → EntryKind → List (List ℕ) → Option Error
names_fault check kind [] = None
names_fault check kind (name ∷ names) =
    option_or (name_fault check (kind_at kind names) name) (names_fault check kind names)

-- the names of a path
abbrev pub names_of : List ℕ → List (List ℕ)
names_of path = slice_split (λ b. b == 47) path

-- The mode is none of the five, or that of a complete directory; or else the error of the id, or of the names of the
-- path.
abbrev pub fault_as : Check → Kind → Pathless → List ℕ → Option EntryKind → Option Error
fault_as check kind entry path None = Some (errors.Mode entry.mode)
fault_as check kind entry path (Some kinds.Tree) = Some errors.WholeDirectory
fault_as check kind entry path (Some what) =
    option_or (id_fault kind entry.id) (names_fault check what (names_of path))

-- the error of an entry that is staged at a path, if there is one
unfoldable pub staged_entry_fault : Check → Kind → Pathless → List ℕ → Option Error
staged_entry_fault check kind entry path =
    option_or (path_fault path) (fault_as check kind entry path (named_kind entry.mode.0))

-- there is no memory, or no room in a storage of `len` bytes
abbrev pub IsWant : ℕ → List ℕ → Error → Type 0
IsWant len path errors.Memory = Unit {0}
IsWant len path (errors.PathTooLong n) = (n ≡ length path) × ((2 ^ 48 ≤ len) ⊎ (2 ^ 32 ≤ length path))
IsWant len path error = ⊥

-- it is the error, or if there is none, a lack of room or memory
abbrev pub IsReason : Option Error → ℕ → List ℕ → Error → Type 0
IsReason fault len path error = MatchOption fault (IsWant len path error) (λ f. error ≡ f)

-- there is no error, or the result is the error
abbrev pub AnswersFault : {T E : Type 0} → Option E → Result T E → Type 0
AnswersFault fault r = MatchResult r (λ _. fault ≡ None) (λ e. fault ≡ Some e)

-- there is no error; or the result is the error, or if there is none, a lack of room or memory
abbrev pub EditCause : {T : Type 0} → Option Error → ℕ → List ℕ → Result T Error → Type 0
EditCause fault len path r = MatchResult r (λ _. fault ≡ None) (IsReason fault len path)
