-- The value of an outline: an index whose entries are counted and not stored (the library's own).
use Rattle.std.specs.Prelude.{◌≡◌, ◌||◌, ℕ, Bool, List, length, None, Ok}
use Rattle.entry_list.specs.Entries.{AreEntries}
use Rattle.entry_list.specs.Record.{Record}
use Rattle.index_model.specs.Answer.{Answer}
use Rattle.index_model.specs.Contents.{Contents, ExtensionIdsAreOf}
use Rattle.index_model.specs.DecodeErrors.{DecodeCause}
use Rattle.index_model.specs.Outcome.{outcome_of}
use Rattle.index_model.specs.declared.error.Error.{Error}
use Rattle.index_model.specs.declared.extension.Outcome.{Outcome}
use Rattle.index_parts.specs.declared.hash.Kind.{Kind}
use Rattle.index_decode.specs.ReadParts.{IsAnswerBehind}
use Rattle.index_decode.specs.declared.decode.ReadAs.{ReadAs}
use Rattle.file_windows.specs.Passed.{paths_len}
use Rattle.index_state.specs.declared.outline.Outline.{Outline}

-- the value that has these records, and everything else as in an outline
abbrev pub outlined_value : Outline → List Record → Contents
outlined_value o rs = record {
  kind = o.object_hash;
  time = o.timestamp;
  version = o.version;
  records = rs;
  extensions = outcome_of o.extensions;
  fit = o.extensions_fit;
}

-- The outline has everything of a value except its records. It has their number, the total length of their paths in
-- bytes, and the bytes at whose start they are encoded as entries.
pub record Outlines (v : Contents) (o : Outline) : Type 0 where
  pub value : v ≡ outlined_value o v.records
  pub count : o.count ≡ length v.records
  pub path_bytes : o.path_bytes ≡ paths_len v.records
  pub after : List ℕ
  pub entries : AreEntries v.version v.kind None o.entries.now v.records after

-- the ids in its extensions are of this hash algorithm
abbrev pub OutlineIdsAreOf : Kind → Outline → Type 0
OutlineIdsAreOf kind o = ExtensionIdsAreOf kind (outcome_of o.extensions)

-- ---- the results of the steps

-- the extensions, marked as those of a sparse index if they were before or `sparse` is set
abbrev pub marked : Outcome → Bool → Outcome
marked o sparse = record o { is_sparse = o.is_sparse || sparse }

-- the error represents an error that is such an answer
abbrev pub IsFaultBy : (Answer → Type 0) → Error → Type 0
IsFaultBy P e = DecodeCause e P

-- the bytes after a header with this count are read as a value, and this is its outline
abbrev pub IsOutlineBehind : ReadAs → ℕ → List ℕ → Outline → Type 0
IsOutlineBehind r count bytes o =
    (v : Contents) × Outlines v o × IsAnswerBehind r count bytes (Ok (v, o.checksum))
