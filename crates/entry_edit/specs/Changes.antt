-- Several changes of a list of records, one after another, and why one of them isn't made (the library's own; the terms
-- of git-update-index, "--index-info" and "--force-remove").
use Rattle.std.specs.Prelude.{◌≡◌, ℕ, ◌+◌, ◌^◌, ◌&&◌, Bool, false, List, [], ◌∷◌, length, Option, Some, None, nat_lt}
use Rattle.std.specs.Prelude.{MatchOption, MatchResult, Result, if◌then◌else◌}
use Rattle.std.specs.List.{Contains, list_any}
use Rattle.std.specs.Option.{option_or, option_map}
use Rattle.index_parts.specs.declared.hash.Kind.{Kind}
use Rattle.entry_list.specs.Order.{IsStrictlyOrdered}
use Rattle.entry_list.specs.Record.{Record, with_path}
use Rattle.entry_lookup.specs.Range.{is_at}
use Rattle.entry_edit.specs.Edits.{LieApart, is_displaced, staged, unstaged}
use Rattle.entry_edit.specs.Refusals.{Check, staged_entry_fault}
use Rattle.entry_edit.specs.declared.change.Change.{Change}
use Rattle.entry_edit.specs.declared.change.Change.TheVariants as changes
use Rattle.entry_edit.specs.declared.change.ApplyError.{ApplyError}
use Rattle.entry_edit.specs.declared.change.ApplyError.TheVariants as refusals
use Rattle.entry_edit.specs.declared.error.Error.{Error}
use Rattle.entry_edit.specs.declared.error.Error.TheVariants as errors

-- the path of a change
abbrev pub change_path : Change → List ℕ
change_path (changes.Stage entry path) = path.now
change_path (changes.Unstage path) = path.now

-- the list after a change
abbrev pub applied_one : Change → List Record → List Record
applied_one (changes.Stage entry path) rs = staged (with_path path.now entry) rs
applied_one (changes.Unstage path) rs = unstaged path.now rs

-- the list after changes, made one after another
unfoldable pub applied : List Change → List Record → List Record
applied [] rs = rs
applied (c ∷ cs) rs = applied cs (applied_one c rs)

-- the change removes the record
abbrev pub takes_out : Change → Record → Bool
takes_out (changes.Stage entry path) r = is_displaced (with_path path.now entry) r
takes_out (changes.Unstage path) r = is_at path.now r

-- The list after the changes. Path and stage strictly increase again. None is a file where another needs a directory,
-- if none was. A record that no change removes is still there.
pub record IsAppliedTo (cs : List Change) (old now : List Record) : Type 0 where
  pub is : now ≡ applied cs old
  pub ordered : IsStrictlyOrdered now
  pub apart : LieApart old → LieApart now
  pub others : (r : Record) → Contains old r → list_any (λ c. takes_out c r) cs ≡ false → Contains now r

-- the number of bytes that a change can add to the storage of paths
abbrev pub added_len : Change → ℕ
added_len (changes.Stage entry path) = length path.now
added_len (changes.Unstage path) = 0

-- the error if a path doesn't fit after `len` bytes
abbrev pub room_fault : ℕ → List ℕ → Option Error
room_fault len path =
    if nat_lt len (2 ^ 48) && nat_lt (length path) (2 ^ 32) then None else Some (errors.PathTooLong (length path))

-- the error of a change, or that its path doesn't fit after `len` bytes; a path may always be removed
abbrev pub change_fault : Check → Kind → ℕ → Change → Option Error
change_fault check kind len (changes.Stage entry path) =
    option_or (staged_entry_fault check kind entry path.now) (room_fault len path.now)
change_fault check kind len (changes.Unstage path) = None

-- The first change that is rejected, counted from `at`. Each path that is staged is added to a storage of `len` bytes.
unfoldable pub refusal_from : Check → Kind → ℕ → ℕ → List Change → Option ApplyError
refusal_from check kind len at [] = None
refusal_from check kind len at (c ∷ cs) =
    option_or (option_map (λ e. refusals.Refused at e) (change_fault check kind len c))
    (refusal_from check kind (len + added_len c) (at + 1) cs)

-- the first change that is rejected, over a storage of `len` bytes
abbrev pub first_rejection : Check → Kind → ℕ → List Change → Option ApplyError
first_rejection check kind len cs = refusal_from check kind len 0 cs

-- the error is the first rejection, or if there is none, out of memory
abbrev pub IsApplyReason : Option ApplyError → ApplyError → Type 0
IsApplyReason refusal error = MatchOption refusal (error ≡ refusals.Memory) (λ r. error ≡ r)

-- no change is rejected; or the error is the first rejection, or if there is none, out of memory
abbrev pub RejectionCause : {T : Type 0} → Option ApplyError → Result T ApplyError → Type 0
RejectionCause refusal r = MatchResult r (λ _. refusal ≡ None) (IsApplyReason refusal)
