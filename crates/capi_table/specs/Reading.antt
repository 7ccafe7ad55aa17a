-- What a call that reads an index states about the bytes, and leaves in the caller's table (the library's own).
use Rattle.std.specs.Prelude.{◌≡◌, ℕ, ◌<◌, ◌⊎◌, pos, Bool, List, length, Option, None, Ok, Err, Result}
use Rattle.std.specs.Option.{option_map}
use Rattle.gix_index.specs.Answer.{Answer, Fault}
use Rattle.gix_index.specs.Checked.{IsFileAnswer}
use Rattle.gix_index.specs.Contents.{Contents}
use Rattle.gix_index.specs.DecodeErrors.{IsEarly}
use Rattle.gix_index.specs.DecodeOptions.{Options}
use Rattle.gix_index.specs.FileFaults.ReadError.{Error as ReadError}
use Rattle.gix_index.specs.FileFaults.ReadError.TheVariants as reads
use Rattle.gix_index.specs.FileTime.{FileTime}
use Rattle.gix_index.specs.Intact.{IsIntact}
use Rattle.gix_index.specs.Kind.{Kind}
use Rattle.gix_index.specs.Link.{LinkValue}
use Rattle.gix_index.specs.ObjectId.{ObjectId}
use Rattle.gix_index.specs.Outlined.Passed.{paths_len}
use Rattle.gix_index.specs.Stat.{seconds_of, nanoseconds_of}
use Rattle.capi_table.specs.Faults.{TableReadCause}
use Rattle.capi_table.specs.Table.{FillsRecords}
use Rattle.capi_table.specs.declared.fault.Failure.{Failure}
use Rattle.capi_table.specs.declared.fault.Whose.TheVariants.{Own}
use Rattle.capi_table.specs.declared.read.Sizes.{Sizes}
use Rattle.capi_table.specs.declared.read.Unread.{Unread}
use Rattle.capi_table.specs.declared.read.Unread.TheVariants.{NoRoom, Failed}
use Rattle.capi_table.specs.declared.row.Row.{Row}

-- ---- what bytes are read as

-- no limit; the trailer must be the id `expected`, if there is one, unless it is null
abbrev pub table_options : Option ObjectId → Options
table_options expected =
    record {
      thread_limit = None;
      min_extension_block_in_bytes_for_threading = 0;
      expected_checksum = expected;
      alloc_limit_bytes = None;
    }

-- The answer to these bytes at the beginning of 1970. Their checksum is compared, unless that is skipped.
pub record BytesEndAs (expected : Option ObjectId) (skip : Bool) (kind : Kind) (bytes : List ℕ) (answer : Answer)
    : Type 0 where
  pub time : FileTime
  pub seconds : seconds_of time ≡ pos 0
  pub nanoseconds : nanoseconds_of time ≡ 0
  pub is : IsFileAnswer skip kind time (table_options expected) bytes answer

-- the answer to these bytes at the beginning of 1970, with any trailer
abbrev pub BytesReadAs : Bool → Kind → List ℕ → Answer → Type 0
BytesReadAs skip kind bytes answer = BytesEndAs None skip kind bytes answer

-- the bytes are read as a value of which a predicate holds
pub record IsReadSo (skip : Bool) (kind : Kind) (bytes : List ℕ) (P : Contents → Type 0) : Type 0 where
  pub value : Contents
  pub checksum : Option ObjectId
  pub read : BytesReadAs skip kind bytes (Ok (value, checksum))
  pub holds : P value

-- ---- tables

-- the id of the shared index, if there is a link
abbrev pub link_id : Option LinkValue → Option ObjectId
link_id link = option_map (λ (l : LinkValue). l.shared) link

-- what a table of a value needs: as many rows as it has records, and as many bytes as their paths have together
abbrev pub sizes_of : Contents → Sizes
sizes_of v =
    record {
      entries = length v.records;
      path_bytes = paths_len v.records;
      version = v.version;
      link = link_id v.extensions.link;
    }

-- what a table of a value needs, with these counts
abbrev pub sizes_with : Contents → (entries path_bytes : ℕ) → Sizes
sizes_with v entries path_bytes = record (sizes_of v) { entries = entries; path_bytes = path_bytes }

-- these are the sizes of a value, of which a predicate holds
pub record HasSizes (sizes : Sizes) (P : Contents → Type 0) (v : Contents) : Type 0 where
  pub sizes_are : sizes ≡ sizes_of v
  pub holds : P v

-- the table has the value's records
abbrev pub Fills : Contents → List Row → List Row → List ℕ → List ℕ → Type 0
Fills v rows filled paths spelling = FillsRecords v.records rows filled paths spelling

-- there are fewer rows or bytes for paths than the value needs
abbrev pub IsTooSmall : Contents → List Row → List ℕ → Type 0
IsTooSmall v rows paths = (length rows < length v.records) ⊎ (length paths < paths_len v.records)

-- ---- why a table isn't filled

-- a predicate holds of the sizes, if there is no room
abbrev pub IfNoRoom : Result Sizes Unread → (Sizes → Type 0) → Type 0
IfNoRoom (Ok sizes) P = Unit {0}
IfNoRoom (Err (NoRoom sizes)) P = P sizes
IfNoRoom (Err (Failed failure)) P = Unit {0}

-- a predicate holds of why the bytes aren't read, if they aren't
abbrev pub IfFailed : Result Sizes Unread → (Failure → Type 0) → Type 0
IfFailed (Ok sizes) P = Unit {0}
IfFailed (Err (NoRoom sizes)) P = Unit {0}
IfFailed (Err (Failed failure)) P = P failure

-- What holds of bytes if memory runs out. They are intact. Their first error at the beginning of 1970, if they have
-- one, isn't one that is found before any memory is requested.
pub record LacksMemory (expected : Option ObjectId) (skip : Bool) (kind : Kind) (bytes : List ℕ) : Type 0 where
  pub intact : IsIntact skip kind bytes
  pub time : FileTime
  pub seconds : seconds_of time ≡ pos 0
  pub nanoseconds : nanoseconds_of time ≡ 0
  pub late : (fault : Fault) → IsEarly fault
      → IsFileAnswer skip kind time (table_options expected) bytes (Err fault) → ⊥

-- what an error states about bytes: it is their first error, or memory ran out while they were read
pub record FailsSo (expected : Option ObjectId) (skip : Bool) (kind : Kind) (bytes : List ℕ) (e : ReadError)
    : Type 0 where
  pub fault : TableReadCause e (BytesEndAs expected skip kind bytes)
  pub memory : e ≡ reads.Memory → LacksMemory expected skip kind bytes

-- what a failure states about the index's own bytes: it is their first error, or memory ran out while they were read
pub record FailsOwn (skip : Bool) (kind : Kind) (bytes : List ℕ) (failure : Failure) : Type 0 where
  pub whose : failure.whose ≡ Own
  pub says : FailsSo None skip kind bytes failure.error

-- memory ran out, for the index's own bytes
pub record IsWantOfMemory (failure : Failure) : Type 0 where
  pub whose : failure.whose ≡ Own
  pub error : failure.error ≡ reads.Memory
