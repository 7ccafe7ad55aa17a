-- Entries whose sides can be recorded in resolve-undo so that they can be written (gitformat-index, "Resolve undo").
use Rattle.std.specs.Prelude.{◌≡◌, ◌≢◌, List, All, IfSome}
use Rattle.index_parts.specs.Id.{id_kind}
use Rattle.index_parts.specs.declared.hash.Kind.{Kind}
use Rattle.entry_list.specs.Record.{IsSized, Record, with_path}
use Rattle.ext_encode.specs.ResolveUndoImage.{AreSpellablePaths}
use Rattle.entry_edit.specs.declared.change.Change.{Change}
use Rattle.entry_edit.specs.declared.change.Change.TheVariants as changes
use Rattle.index_edit.specs.Undone.{undo_paths}
use Rattle.index_edit.specs.declared.kept.Kept.{Kept}

-- no NUL is in the path, the id is of the hash algorithm, and all numbers fit their bits
pub record IsRecordable (kind : Kind) (r : Record) : Type 0 where
  pub path : All (λ b. b ≢ 0) r.path
  pub id : id_kind r.id ≡ kind
  pub sized : IsSized r

-- a property of the entry that a change stages
abbrev pub StagesSuch : (Record → Type 0) → Change → Type 0
StagesSuch P (changes.Stage entry path) = P (with_path path.now entry)
StagesSuch P (changes.Unstage path) = Unit {0}

-- the sides of the entry that a change stages can be recorded
abbrev pub StagesRecordable : Kind → Change → Type 0
StagesRecordable kind c = StagesSuch (IsRecordable kind) c

-- Resolve-undo can be encoded for a hash algorithm after the changes. The premises are that it could be before, and
-- that the sides of the records and of the staged entries can be.
abbrev pub StaysSpellable : List Change → List Record → Kept → Kept → Type 0
StaysSpellable cs rs old now =
    (kind : Kind) → All (IsRecordable kind) rs → All (StagesRecordable kind) cs
    → IfSome (undo_paths old.undo) (AreSpellablePaths kind) → IfSome (undo_paths now.undo) (AreSpellablePaths kind)
