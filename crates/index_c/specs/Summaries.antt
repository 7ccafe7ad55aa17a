-- What a call that reads an index reports in addition to its status (the library's own; c/gix_index.h has it field by
-- field).
use Rattle.std.specs.Prelude.{◌≡◌, ℕ, ◌≤◌, Bool, List, length, drop, replicate, Option, Some, None, Result, Ok, Err}
use Rattle.gix_index.specs.Answer.{Fault}
use Rattle.gix_index.specs.Contents.{Contents}
use Rattle.gix_index.specs.EntryImage.{version_code}
use Rattle.gix_index.specs.Kind.{Kind}
use Rattle.gix_index.specs.ObjectId.{ObjectId}
use Rattle.index_c.specs.Numbers.{IsNumbered, fault_number, fault_place, read_status, whose_number}
use Rattle.index_c.specs.declared.number.TheConstants.{OWN}
use Rattle.index_c.specs.declared.status.TheConstants.{DONE, NO_ROOM}
use Rattle.index_c.specs.declared.summary.Summary.{Summary}
use Rattle.index_c.specs.declared.summary.TheConstants.{LINKED, UNLINKED}
use Rattle.capi_table.specs.Reading.{BytesReadAs, LacksMemory, sizes_of}
use Rattle.capi_table.specs.Table.{padded_id}
use Rattle.capi_table.specs.declared.fault.Failure.{Failure}
use Rattle.capi_table.specs.declared.read.Sizes.{Sizes}
use Rattle.capi_table.specs.declared.read.Unread.{Unread}
use Rattle.capi_table.specs.declared.read.Unread.TheVariants.{NoRoom, Failed}

-- ---- nothing

abbrev pub blank : Summary
blank =
    record {
      entries = 0;
      path_bytes = 0;
      text_bytes = 0;
      fault_place = 0;
      fault = 0;
      version = 0;
      has_link = UNLINKED;
      of_shared = OWN;
      shared_id = replicate 32 0;
    }

-- ---- an index that is read

abbrev pub link_number : Option ObjectId → ℕ
link_number None = UNLINKED
link_number (Some id) = LINKED

-- the id of the shared index, followed by zeros if it is of SHA-1; zeros if there is no link
abbrev pub shared_id_bytes : Option ObjectId → List ℕ
shared_id_bytes None = replicate 32 0
shared_id_bytes (Some id) = padded_id id

-- the summary of sizes
abbrev pub size_summary : Sizes → Summary
size_summary sizes =
    record blank {
      entries = sizes.entries;
      path_bytes = sizes.path_bytes;
      version = version_code sizes.version;
      has_link = link_number sizes.link;
      shared_id = shared_id_bytes sizes.link;
    }

-- The summary of a value, of which a predicate holds. A table of the value needs as many bytes for paths as its paths
-- have together.
pub record IsSummaryWith (s : Summary) (P : Contents → Type 0) (v : Contents) : Type 0 where
  pub told : s ≡ size_summary (sizes_of v)
  pub holds : P v

-- ---- errors

-- the summary of an error
abbrev pub error_summary : (number place of_shared text_bytes : ℕ) → Summary
error_summary number place of_shared text_bytes =
    record blank { text_bytes = text_bytes; fault_place = place; fault = number; of_shared = of_shared }

-- the summary has an error, whether it is the shared index's, and the length of the text
abbrev pub RejectionCodes : Fault → ℕ → Summary → Type 0
RejectionCodes fault of_shared s = s ≡ error_summary (fault_number fault) (fault_place fault) of_shared s.text_bytes

-- the summary has that memory ran out, whether it did for the shared index, and the length of the text
abbrev pub MemoryCodes : ℕ → Summary → Type 0
MemoryCodes of_shared s = s ≡ error_summary 0 0 of_shared s.text_bytes

-- this is the first error in the bytes, and the summary has its number and its index
pub record IsRefusedIndex (skip : Bool) (kind : Kind) (bytes : List ℕ) (s : Summary) : Type 0 where
  pub fault : Fault
  pub read : BytesReadAs skip kind bytes (Err fault)
  pub tells : RejectionCodes fault OWN s

-- memory ran out while the bytes were read, and the summary reports that
pub record IsUnread (skip : Bool) (kind : Kind) (bytes : List ℕ) (s : Summary) : Type 0 where
  pub lacks : LacksMemory None skip kind bytes
  pub tells : MemoryCodes OWN s

-- only the first bytes of the room for a text were written
pub record HasText (len : ℕ) (room text : List ℕ) : Type 0 where
  pub fits : len ≤ length room
  pub behind : drop len text ≡ drop len room

-- ---- what calls report

-- the status and the summary of a failure
pub record FailureCodes (failure : Failure) (status : ℕ) (s : Summary) : Type 0 where
  pub status_is : status ≡ read_status failure.error
  pub numbered : IsNumbered failure.error s.fault s.fault_place
  pub told : s ≡ error_summary s.fault s.fault_place (whose_number failure.whose) s.text_bytes

-- the status and the summary of reading bytes into a table
abbrev pub ReadCodes : Result Sizes Unread → ℕ → Summary → Type 0
ReadCodes (Ok sizes) status s = (status ≡ DONE) × (s ≡ size_summary sizes)
ReadCodes (Err (NoRoom sizes)) status s = (status ≡ NO_ROOM) × (s ≡ size_summary sizes)
ReadCodes (Err (Failed failure)) status s = FailureCodes failure status s
