-- An index as a value, without its representation in memory (gitformat-index).
use Rattle.std.specs.Prelude.{◌≡◌, ℕ, Bool, List, All, IfSome, length}
use Rattle.index_parts.specs.Id.{id_kind}
use Rattle.index_parts.specs.declared.hash.Kind.{Kind}
use Rattle.entry_fields.specs.declared.entry.stat.FileTime.{FileTime}
use Rattle.entry_list.specs.Record.{Record, IsPlaced, records_in}
use Rattle.entry_list.specs.declared.Version.{Version}
use Rattle.entry_list.specs.declared.Entry.{Entry}
use Rattle.ext_small.specs.ResolveUndo.{PathIdsAreOf}
use Rattle.ext_tree.specs.Tree.{NodeIdsAreOf}
use Rattle.ext_untracked.specs.Untracked.{CacheIdsAreOf}
use Rattle.index_model.specs.Outcome.{Outcome, outcome_of}
use Rattle.index_model.specs.declared.Parts.{Parts}

-- An index as a value. `fit` is true if the extensions describe these records, and not those of a list before an edit.
pub record Contents : Type 0 where
  pub kind : Kind
  pub time : FileTime
  pub version : Version
  pub records : List Record
  pub extensions : Outcome
  pub fit : Bool

-- each id in the extensions that are present is of this hash algorithm
abbrev pub ExtensionIdsAreOf : Kind → Outcome → Type 0
ExtensionIdsAreOf kind o =
    IfSome o.tree (NodeIdsAreOf kind) × IfSome o.link (λ l. id_kind l.shared ≡ kind)
    × IfSome o.resolve_undo (PathIdsAreOf kind) × IfSome o.untracked (CacheIdsAreOf kind)

-- ---- the value of parts in memory

abbrev pub parts_entries : Parts → List Entry
parts_entries p = p.entries.items

abbrev pub parts_storage : Parts → List ℕ
parts_storage p = p.path_backing.items

abbrev pub parts_records : Parts → List Record
parts_records p = records_in (parts_storage p) (parts_entries p)

abbrev pub parts_contents : Parts → Contents
parts_contents p = record {
  kind = p.object_hash;
  time = p.timestamp;
  version = p.version;
  records = parts_records p;
  extensions = outcome_of p.extensions;
  fit = p.extensions_fit;
}

-- each entry's path is inside the storage
abbrev pub PartsInStorage : Parts → Type 0
PartsInStorage p = All (IsPlaced (length (parts_storage p))) (parts_entries p)
