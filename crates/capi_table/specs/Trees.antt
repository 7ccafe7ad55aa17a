-- The trees of a table's rows in a caller's rooms (the library's own; git-write-tree defines trees).
use Rattle.std.specs.Prelude.{◌≡◌, ℕ, ◌+◌, ◌≤◌, ◌<◌, ◌^◌, ◌⊎◌, true, List, [], ◌∷◌, ◌++◌, length, drop}
use Rattle.std.specs.Prelude.{flat_map, Result, Ok, Err}
use Rattle.gix_index.specs.EntryImage.{written}
use Rattle.gix_index.specs.Kind.{Kind}
use Rattle.gix_index.specs.ObjectId.{ObjectId}
use Rattle.gix_index.specs.Record.{Record}
use Rattle.gix_index.specs.Refusals.{AreFit}
use Rattle.gix_index.specs.Staged.{staged_in}
use Rattle.gix_index.specs.TreeDirectory.{IsTreeOf, DirectoryItems, objects}
use Rattle.entry_info.specs.Names as names
use Rattle.capi_table.specs.Fitting.{IsFitTable}
use Rattle.capi_table.specs.Table.{padded_id, records_of}
use Rattle.capi_table.specs.declared.row.Row.{Row}
use Rattle.capi_table.specs.declared.write.Fault.{Fault}
use Rattle.capi_table.specs.declared.trees.Counts.{Counts}
use Rattle.capi_table.specs.declared.trees.Tree.{Tree}
use Rattle.capi_table.specs.declared.trees.Unmade.{Unmade}
use Rattle.capi_table.specs.declared.trees.Unmade.TheVariants.{NoRoom, Refused, Memory}

-- ---- which trees

-- the objects of trees, each with its id and its bytes
abbrev pub Objects : Type 0
Objects = List (ObjectId × List ℕ)

-- the records that the rows spell, except those that are marked REMOVE
abbrev pub records_left : List ℕ → List Row → List Record
records_left paths rows = written (records_of paths rows)

-- The table is in order, and no record of it has an error, by the names that git allows in a path. A predicate holds of
-- the objects of the one tree of names that the records make.
pub record MakesTrees (kind : Kind) (paths : List ℕ) (rows : List Row) (P : Objects → Type 0) : Type 0 where
  pub table : IsFitTable kind true paths rows
  pub fit : AreFit names.name_rejection kind (records_left paths rows)
  pub few : length (records_left paths rows) < 2 ^ 31
  pub items : DirectoryItems
  pub is_tree : IsTreeOf kind (staged_in (records_left paths rows)) items
  pub holds : P (objects kind items)

-- ---- what is returned

-- the concatenated bytes of objects
abbrev pub object_bytes : Objects → List ℕ
object_bytes os = flat_map (λ o. o.1) os

-- the rows of objects whose bytes are concatenated, beginning at the position `start`
abbrev pub rows_from : ℕ → Objects → List Tree
rows_from start [] = []
rows_from start (o ∷ os) =
    record { id = padded_id o.0; start = start; len = length o.1 } ∷ rows_from (start + length o.1) os

-- the number of objects, and the number of bytes that they have together
abbrev pub object_counts : Objects → Counts
object_counts os = record { trees = length os; bytes = length (object_bytes os) }

-- The rooms, before and after, begin with the objects' rows and bytes; what follows is as it was.
pub record HoldTrees (told : Counts) (trees filled : List Tree) (bytes left : List ℕ) (os : Objects) : Type 0 where
  pub told_is : told ≡ object_counts os
  pub trees_fit : told.trees ≤ length trees
  pub bytes_fit : told.bytes ≤ length bytes
  pub filled_is : filled ≡ rows_from 0 os ++ drop told.trees trees
  pub left_is : left ≡ object_bytes os ++ drop told.bytes bytes

-- there are more objects than one room has rows, or they have more bytes than the other
pub record PassRoom (told : Counts) (trees : List Tree) (bytes : List ℕ) (os : Objects) : Type 0 where
  pub told_is : told ≡ object_counts os
  pub small : (length trees < told.trees) ⊎ (length bytes < told.bytes)

-- ---- why there are none

-- a predicate holds of the counts, if there is no room
abbrev pub IfNoTreeRoom : Result Counts Unmade → (Counts → Type 0) → Type 0
IfNoTreeRoom (Ok told) P = Unit {0}
IfNoTreeRoom (Err (NoRoom told)) P = P told
IfNoTreeRoom (Err (Refused fault)) P = Unit {0}
IfNoTreeRoom (Err Memory) P = Unit {0}

-- a predicate holds of the error, if the table has no trees
abbrev pub IfTreesRejected : Result Counts Unmade → (Fault → Type 0) → Type 0
IfTreesRejected (Ok told) P = Unit {0}
IfTreesRejected (Err (NoRoom told)) P = Unit {0}
IfTreesRejected (Err (Refused fault)) P = P fault
IfTreesRejected (Err Memory) P = Unit {0}

-- a statement holds, if memory runs out
abbrev pub IfUnmade : Result Counts Unmade → Type 0 → Type 0
IfUnmade (Ok told) P = Unit {0}
IfUnmade (Err (NoRoom told)) P = Unit {0}
IfUnmade (Err (Refused fault)) P = Unit {0}
IfUnmade (Err Memory) P = P
