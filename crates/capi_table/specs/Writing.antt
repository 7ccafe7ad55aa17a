-- What a call that writes a table leaves in the caller's room, and why it fails (the library's own).
use Rattle.std.specs.Prelude.{◌≡◌, ℕ, ◌≤◌, ◌<◌, ◌⊎◌, false, List, ◌++◌, length, drop, Result, Ok, Err}
use Rattle.std.specs.Prelude.{IfErr, IfOk}
use Rattle.gix_index.specs.Contents.{Contents}
use Rattle.gix_index.specs.EntryImage.{written}
use Rattle.gix_index.specs.Image.{image, image_version}
use Rattle.gix_index.specs.Kind.{Kind}
use Rattle.gix_index.specs.Outcome.{no_extension}
use Rattle.gix_index.specs.WriteError.{Error as WriteError}
use Rattle.gix_index.specs.WriteError.TheVariants as errors
use Rattle.gix_index.specs.WriteError.TheVariants.{NulInPath, TooLarge, TooManyEntries}
use Rattle.gix_index.specs.WriteExtensions.{Extensions}
use Rattle.gix_index.specs.WriteExtensions.TheVariants as extensions
use Rattle.gix_index.specs.WriteOptions.{Options}
use Rattle.gix_index.specs.Writing.{RefusedWith}
use Rattle.capi_table.specs.Fitting.{IsFitTable, IsUnfitTable}
use Rattle.capi_table.specs.Table.{records_of}
use Rattle.capi_table.specs.declared.row.Row.{Row}
use Rattle.capi_table.specs.declared.write.Fault.{Fault}
use Rattle.capi_table.specs.declared.write.Fault.TheVariants as faults
use Rattle.capi_table.specs.declared.write.Format.{Format}
use Rattle.capi_table.specs.declared.write.Image.{Image}
use Rattle.capi_table.specs.declared.write.Unwritten.{Unwritten}
use Rattle.capi_table.specs.declared.write.Unwritten.TheVariants.{NoRoom, Refused, Memory}

-- ---- the value

-- the options with which a format requests to write, with these extensions
abbrev pub options_with : Extensions → Format → Options
options_with e f = record { extensions = e; version = f.version; skip_hash = f.skip_hash }

-- the options with which a format requests to write without extensions
abbrev pub plain_options : Format → Options
plain_options f = options_with extensions.None f

-- a value with the records of the rows that aren't marked REMOVE, ids of the hash algorithm and no extension
pub record IsSpelledBy (kind : Kind) (paths : List ℕ) (rows : List Row) (v : Contents) : Type 0 where
  pub kind_is : v.kind ≡ kind
  pub records_are : v.records ≡ written (records_of paths rows)
  pub bare : v.extensions ≡ no_extension

-- The table is in order, and a predicate holds of the value that it spells.
pub record Spells (kind : Kind) (paths : List ℕ) (rows : List Row) (P : Contents → Type 0) : Type 0 where
  pub value : Contents
  pub table : IsFitTable kind false paths rows
  pub spelled : IsSpelledBy kind paths rows value
  pub holds : P value

-- ---- what is written

-- the number of bytes of the value's image, and its version
abbrev pub image_sizes : Options → Contents → Image
image_sizes options v = record { bytes = length (image v options); version = image_version v options }

-- The room, before and after, begins with the value's image; what follows is as it was.
pub record HasImage (options : Options) (told : Image) (room left : List ℕ) (v : Contents) : Type 0 where
  pub told_is : told ≡ image_sizes options v
  pub fits : told.bytes ≤ length room
  pub left_is : left ≡ image v options ++ drop told.bytes room

-- the value's image has more bytes than the room
pub record PassesRoom (options : Options) (told : Image) (room : List ℕ) (v : Contents) : Type 0 where
  pub told_is : told ≡ image_sizes options v
  pub small : length room < told.bytes

-- a file can't count the value's entries, or its offsets can't reach its bytes
abbrev pub PassesLimit : Options → Fault → Contents → Type 0
PassesLimit options fault v =
    ((fault ≡ faults.Count) × RefusedWith v options TooManyEntries)
    ⊎ ((fault ≡ faults.Length) × RefusedWith v options TooLarge)

-- a file can't hold the value, or a path has a NUL, which version 4 can't hold; then no row is named
abbrev pub IsUnwritable : Options → Fault → Contents → Type 0
IsUnwritable options fault v =
    PassesLimit options fault v ⊎ ((fault ≡ faults.Row 0) × RefusedWith v options NulInPath)

-- ---- why nothing is written

-- the first error of a table that isn't written
abbrev pub IsUnwritten : Format → List ℕ → List Row → Fault → Type 0
IsUnwritten f paths rows fault =
    IsUnfitTable f.kind false paths rows fault ⊎ Spells f.kind paths rows (PassesLimit (plain_options f) fault)

-- a predicate holds of the sizes of the image, if there is no room
abbrev pub IfLacksRoom : Result Image Unwritten → (Image → Type 0) → Type 0
IfLacksRoom (Ok told) P = Unit {0}
IfLacksRoom (Err (NoRoom told)) P = P told
IfLacksRoom (Err (Refused fault)) P = Unit {0}
IfLacksRoom (Err Memory) P = Unit {0}

-- a predicate holds of the error, if a file can't hold the table
abbrev pub IfTableRejected : Result Image Unwritten → (Fault → Type 0) → Type 0
IfTableRejected (Ok told) P = Unit {0}
IfTableRejected (Err (NoRoom told)) P = Unit {0}
IfTableRejected (Err (Refused fault)) P = P fault
IfTableRejected (Err Memory) P = Unit {0}

-- a statement holds, if memory runs out
abbrev pub IfUnwritten : Result Image Unwritten → Type 0 → Type 0
IfUnwritten (Ok told) P = Unit {0}
IfUnwritten (Err (NoRoom told)) P = Unit {0}
IfUnwritten (Err (Refused fault)) P = Unit {0}
IfUnwritten (Err Memory) P = P

-- ---- what calls return

-- What is returned if a value is to be written into a room, if there is one. Ok: the sizes of its image, which the room
-- has. Err: these sizes, as the room is too small; or the error; or that memory ran out. After an error the room is as
-- it was.
pub record PutsWith (Value : (Contents → Type 0) → Type 0) (options : Options) (Refuses : Fault → Type 0)
    (old new : List ℕ) (r : Result Image Unwritten) : Type 0 where
  pub done : IfOk r (λ told. Value (HasImage options told old new))
  pub refused : IfTableRejected r Refuses
  pub no_room : IfLacksRoom r (λ told. Value (PassesRoom options told old))
  pub room : IfErr r (λ _. new ≡ old)

-- the result of writing this value
abbrev pub PutsValue : Contents → Options → List ℕ → List ℕ → Result Image Unwritten → Type 0
PutsValue v options old new r = PutsWith (λ P. P v) options (λ fault. IsUnwritable options fault v) old new r

-- the result of writing the value that a table spells
abbrev pub WritesTable : Format → List ℕ → List Row → List ℕ → List ℕ → Result Image Unwritten → Type 0
WritesTable f paths rows old new r =
    PutsWith (Spells f.kind paths rows) (plain_options f) (IsUnwritten f paths rows) old new r

-- why an error of writing prevents a table from being written; an error of the writer means that memory ran out
abbrev pub unwritten_reason : WriteError → Unwritten
unwritten_reason errors.TooManyEntries = Refused faults.Count
unwritten_reason errors.NulInPath = Refused (faults.Row 0)
unwritten_reason errors.TooLarge = Refused faults.Length
unwritten_reason (errors.Io e) = Memory
