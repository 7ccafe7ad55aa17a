-- What is preserved of an index that a table is written over (gitformat-index, "Cache tree", "Sparse Directory
-- Entries").
use Rattle.std.specs.Prelude.{◌≡◌, ℕ, ◌⊎◌, ◌^◌, ◌<◌, false, List, length, Option, Some, None, Result}
use Rattle.std.specs.Prelude.{IfErr, IfOk}
use Rattle.gix_index.specs.Contents.{Contents}
use Rattle.gix_index.specs.EntryImage.{is_removed, written}
use Rattle.gix_index.specs.Edits.{edited, with_cached_tree, without_tree}
use Rattle.gix_index.specs.FileFaults.ReadError.{Error as ReadError}
use Rattle.gix_index.specs.Kind.{Kind}
use Rattle.gix_index.specs.Record.{Record}
use Rattle.gix_index.specs.Refusals.{AreFit, AreRefused, Refusal}
use Rattle.gix_index.specs.Staged.{merged_in}
use Rattle.gix_index.specs.Tree.{Node}
use Rattle.gix_index.specs.TreeIds.{AreRight, any_name}
use Rattle.gix_index.specs.WriteExtensions.TheVariants as extensions
use Rattle.gix_index.specs.WriteOptions.{Options}
use Rattle.capi_table.specs.Fitting.{IsFitTable, IsUnfitTable}
use Rattle.capi_table.specs.Reading.{FailsSo, IsReadSo, LacksMemory}
use Rattle.capi_table.specs.Table.{records_of, spelled}
use Rattle.capi_table.specs.Writing.{HasImage, IfLacksRoom, IfTableRejected, IfUnwritten, PassesLimit, PassesRoom}
use Rattle.capi_table.specs.Writing.{PutsWith}
use Rattle.capi_table.specs.Writing.{options_with}
use Rattle.capi_table.specs.declared.over.CachedTree.{CachedTree}
use Rattle.capi_table.specs.declared.over.CachedTree.TheVariants.{Absent, Kept, LeftOut}
use Rattle.capi_table.specs.declared.over.Replacement.{Replacement}
use Rattle.capi_table.specs.declared.row.Row.{Row}
use Rattle.capi_table.specs.declared.write.Fault.{Fault}
use Rattle.capi_table.specs.declared.write.Format.{Format}

-- ---- the cache tree

-- The tree matches what the value's records give. No merged record has an error, and each node with a count has the id
-- and the count of the entries below its directory.
pub record IsRightTree (v : Contents) (t : Node) : Type 0 where
  pub few : length (merged_in v.records) < 2 ^ 31
  pub fit : AreFit any_name v.kind (merged_in v.records)
  pub right : AreRight v.kind v.records t

-- the merged records have an error, for which they have no trees; or some node isn't right
abbrev pub IsWrongTree : Contents → Node → Type 0
IsWrongTree v t =
    ((fault : Refusal) × AreRefused any_name v.kind (merged_in v.records) fault) ⊎ (AreRight v.kind v.records t → ⊥)

abbrev pub KeepsThis : Option Node → Contents → CachedTree → Contents → Type 0
KeepsThis None v tree kept = (tree ≡ Absent) × (kept ≡ v)
KeepsThis (Some t) v tree kept =
    ((tree ≡ Kept) × (kept ≡ with_cached_tree v t) × IsRightTree v t)
    ⊎ ((tree ≡ LeftOut) × (kept ≡ without_tree v) × IsWrongTree v t)

-- the value has no cache tree; or it is preserved, as it matches what the records give; or it is left out, as it
-- doesn't
abbrev pub KeepsTree : Contents → CachedTree → Contents → Type 0
KeepsTree v tree kept = KeepsThis v.extensions.tree v tree kept

-- ---- what is written

-- the options with which a format requests to write over an index: with all extensions that fit
abbrev pub full_options : Format → Options
full_options f = options_with extensions.Kept f

-- the row isn't left out of a file, and spells this record
pub record SpellsThis (paths : List ℕ) (row : Row) (r : Record) : Type 0 where
  pub stays : is_removed row.flags ≡ false
  pub is : spelled paths row ≡ r

-- none of the rows is left out of a file, and they spell these records
pub record AreRowEntries (rs : List Record) (paths : List ℕ) (rows : List Row) : Type 0 where
  pub stay : written (records_of paths rows) ≡ records_of paths rows
  pub are : records_of paths rows ≡ rs

-- the value's records are replaced by those of the rows that are written, which the extensions aren't known to fit
abbrev pub HasRowsInstead : Contents → List ℕ → List Row → Contents → Type 0
HasRowsInstead before paths rows v = v ≡ edited before (written (records_of paths rows))

-- Rows that are the entries of a value leave it as it is. Otherwise the value's records are replaced by those of the
-- rows that are written, which the extensions aren't known to fit.
abbrev pub Replaces : Contents → List ℕ → List Row → Contents → Type 0
Replaces before paths rows v =
    (AreRowEntries before.records paths rows × (v ≡ before))
    ⊎ ((AreRowEntries before.records paths rows → ⊥) × HasRowsInstead before paths rows v)

-- The table can be written, and a predicate holds of the value that it gives in place of another. Its records are those
-- of the rows that are written, and it has the other value's cache tree or none.
pub record TakesPlaceOf (kind : Kind) (paths : List ℕ) (rows : List Row) (tree : CachedTree) (P : Contents → Type 0)
    (before : Contents) : Type 0 where
  pub value : Contents
  pub replaced : Contents
  pub is_replaced : Replaces before paths rows replaced
  pub table : IsFitTable kind before.extensions.sparse paths rows
  pub kept : KeepsTree replaced tree value
  pub holds : P value

-- the bytes are read as a value, and a predicate holds of the one that the table gives in place of it
abbrev pub WritesOver : Kind → List ℕ → List ℕ → List Row → CachedTree → (Contents → Type 0) → Type 0
WritesOver kind bytes paths rows tree P = IsReadSo false kind bytes (TakesPlaceOf kind paths rows tree P)

-- ---- why nothing is written

-- the bytes of the index are read, and the table has this error by itself, before the cache tree is considered
pub record IsUnfitOver (kind : Kind) (bytes paths : List ℕ) (rows : List Row) (tree : CachedTree) (fault : Fault)
    : Type 0 where
  pub read : IsReadSo false kind bytes (λ before. IsUnfitTable kind before.extensions.sparse paths rows fault)
  pub absent : tree ≡ Absent

-- the first error of a table that isn't written over the index of these bytes
abbrev pub IsUnwrittenOver : Format → List ℕ → List ℕ → List Row → CachedTree → Fault → Type 0
IsUnwrittenOver f bytes paths rows tree fault =
    IsUnfitOver f.kind bytes paths rows tree fault
    ⊎ WritesOver f.kind bytes paths rows tree (PassesLimit (full_options f) fault)

-- ---- what calls return

-- what is returned if a table replaces a value
abbrev pub PutsInPlace : Format → List ℕ → List Row → Contents → List ℕ → List ℕ → Replacement → Type 0
PutsInPlace f paths rows before old new over =
    PutsWith (λ P. TakesPlaceOf f.kind paths rows over.tree P before) (full_options f)
    (λ fault. TakesPlaceOf f.kind paths rows over.tree (PassesLimit (full_options f) fault) before) old new
    over.written

-- What is returned if a table is to be written into a room over the index of these bytes. Ok: what became of it, and of
-- the cache tree. Err: why the bytes aren't read. If nothing is written, the room is as it was.
pub record WritesOverIndex (f : Format) (bytes paths : List ℕ) (rows : List Row) (old new : List ℕ)
    (r : Result Replacement ReadError) : Type 0 where
  pub done : IfOk r (λ over. IfOk over.written
      (λ told. WritesOver f.kind bytes paths rows over.tree (HasImage (full_options f) told old new)))
  pub refused : IfOk r (λ over. IfTableRejected over.written (IsUnwrittenOver f bytes paths rows over.tree))
  pub memory : IfOk r (λ over. IfUnwritten over.written (LacksMemory None false f.kind bytes))
  pub no_room : IfOk r (λ over. IfLacksRoom over.written
      (λ told. WritesOver f.kind bytes paths rows over.tree (PassesRoom (full_options f) told old)))
  pub unread : IfErr r (FailsSo None false f.kind bytes)
  pub room : IfErr r (λ _. new ≡ old)
  pub kept : IfOk r (λ over. IfErr over.written (λ _. new ≡ old))
