-- What one extension adds to the result of those before it, and the result of the loop over them (gitformat-index,
-- "Extensions"). Public clauses cite none of these.
use Rattle.std.specs.Prelude.{◌≡◌, ℕ, ◌+◌, ◌==◌, ◌||◌, true, nat_eq, List, codes, Some, Option, Ok, Err, MatchBool}
use Rattle.std.specs.Cmp.Lexicographic.{pointwise}
use Rattle.index_parts.specs.declared.hash.Kind.{Kind}
use Rattle.index_extensions.specs.ExtensionValue.{IsRead}
use Rattle.ext_small.specs.FsMonitor.{IsMonitor}
use Rattle.ext_small.specs.ResolveUndo.{IsResolveUndo}
use Rattle.ext_tree.specs.Tree.{IsTree}
use Rattle.index_extensions.specs.Walk.{Item, IsWalk, left_of}
use Rattle.index_parts.specs.Id.{id_len}
use Rattle.entry_fields.specs.declared.entry.stat.FileTime.{FileTime}
use Rattle.ext_untracked.specs.Untracked.{IsCache}
use Rattle.index_model.specs.Answer.{Answer, TrailerLength, IsVerified, trailer_checksum, answer_contents}
use Rattle.index_model.specs.DecodeErrors.{extension_fault}
use Rattle.entry_list.specs.Record.{Record}
use Rattle.entry_list.specs.declared.Version.{Version}
use Rattle.index_model.specs.declared.decode.Options.{Options}
use Rattle.ext_split.specs.Link.{HasLink, IsLink}
use Rattle.index_model.specs.Outcome.{Outcome, ExtensionFault, IsFault, AreSound, IsFirstFault, IsOutcome}
use Rattle.index_model.specs.declared.error.Error.{Error}
use Rattle.index_model.specs.declared.error.Error.TheVariants as errors

-- the value of a content with this name; the value is unchanged for another name
abbrev pub ReplacesExtension : {A : Type 0} → List ℕ → (List ℕ → A → Type 0) → List ℕ → List ℕ → Option A → Option A
    → Type 0
ReplacesExtension name Is signature content old new =
    MatchBool (pointwise nat_eq signature name) (IsRead Is content new) (new ≡ old)

-- what an extension with this signature and content changes
pub record AddsExtension (kind : Kind) (limit : Option ℕ) (signature content : List ℕ) (old new : Outcome) : Type 0
  where
    pub tree : ReplacesExtension (codes "TREE") (IsTree kind limit) signature content old.tree new.tree
    pub link : ReplacesExtension (codes "link") (IsLink kind) signature content old.link new.link
    pub whole_link : pointwise nat_eq signature (codes "link") ≡ true → HasLink kind content
    pub resolve_undo : ReplacesExtension (codes "REUC") (IsResolveUndo kind) signature content old.resolve_undo
        new.resolve_undo
    pub untracked : ReplacesExtension (codes "UNTR") (IsCache kind limit) signature content old.untracked new.untracked
    pub fs_monitor : ReplacesExtension (codes "FSMN") IsMonitor signature content old.fs_monitor new.fs_monitor
    pub sparse : new.sparse ≡ (old.sparse || pointwise nat_eq signature (codes "sdir"))
    pub had_end_marker : new.had_end_marker ≡ (old.had_end_marker || pointwise nat_eq signature (codes "EOIE"))
    pub had_offset_table : new.had_offset_table ≡ (old.had_offset_table || pointwise nat_eq signature (codes "IEOT"))

-- the bytes are complete extensions without an error, with this result, and a tail of which `count` bytes are left
pub record IsGathered (kind : Kind) (limit : Option ℕ) (bytes : List ℕ) (o : Outcome) (count : ℕ) : Type 0 where
  pub items : List Item
  pub tail : List ℕ
  pub is_walk : IsWalk bytes items tail
  pub sound : AreSound kind items
  pub is_outcome : IsOutcome kind limit items o
  pub counted : count ≡ left_of tail

-- the answer by an outcome, the number of bytes that are left before the trailer, and the trailer
abbrev pub IsTaken : Kind → FileTime → Options → Version → List Record → Outcome → ℕ → List ℕ → Answer → Type 0
IsTaken kind time options version rs o count trailer a =
    MatchBool (count == 0)
    (IsVerified options.expected_checksum (trailer_checksum kind trailer)
    (Ok (answer_contents kind time version rs o, trailer_checksum kind trailer)) a)
    (a ≡ Err (TrailerLength (id_len kind) (count + id_len kind)))

-- among the extensions in these bytes this is the first error
pub record HasExtensionFault (kind : Kind) (bytes : List ℕ) (fault : ExtensionFault) : Type 0 where
  pub items : List Item
  pub tail : List ℕ
  pub is_walk : IsWalk bytes items tail
  pub is_first : IsFirstFault kind items fault

-- the cause of an error of one extension: its error, or an allocation failure
abbrev pub ExtensionItemCause : Kind → Item → Error → Type 0
ExtensionItemCause kind i (errors.Extension e) =
    (fault : ExtensionFault) × (extension_fault e ≡ Some fault) × IsFault kind i fault
ExtensionItemCause kind i errors.Memory = Unit {0}
ExtensionItemCause kind i e = ⊥

-- the cause of an error of the loop over the extensions: the first error, or an allocation failure
abbrev pub ExtensionCause : Kind → List ℕ → Error → Type 0
ExtensionCause kind bytes (errors.Extension e) =
    (fault : ExtensionFault) × (extension_fault e ≡ Some fault) × HasExtensionFault kind bytes fault
ExtensionCause kind bytes errors.Memory = Unit {0}
ExtensionCause kind bytes e = ⊥
