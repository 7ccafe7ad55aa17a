-- What a call that writes a table reports in addition to its status (the library's own; c/gix_index.h has it field by
-- field).
use Rattle.std.specs.Prelude.{◌≡◌, ◌≢◌, ℕ, ◌≤◌, ◌⊎◌, false, List, None, Some, IsSomeAnd, Result, Ok, Err}
use Rattle.gix_index.specs.Answer.{Fault}
use Rattle.gix_index.specs.EntryImage.{version_code}
use Rattle.gix_index.specs.FileFaults.ReadError.{Error as ReadError}
use Rattle.gix_index.specs.Kind.{Kind}
use Rattle.index_c.specs.Numbers.{IsNumbered, choice_numbered, fault_number, fault_place, kind_numbered, read_status}
use Rattle.index_c.specs.Numbers.{table_number, table_place, tree_number}
use Rattle.index_c.specs.declared.number.TheConstants.{NO_TREE, OWN}
use Rattle.index_c.specs.declared.status.TheConstants.{DONE, MEMORY, NO_ROOM, REFUSED, WRONG_NUMBER}
use Rattle.index_c.specs.declared.write.Form.{Form}
use Rattle.index_c.specs.declared.write.Written.{Written}
use Rattle.capi_table.specs.Overwriting.{IsUnwrittenOver}
use Rattle.capi_table.specs.Reading.{BytesReadAs}
use Rattle.capi_table.specs.declared.over.CachedTree.{CachedTree}
use Rattle.capi_table.specs.declared.over.CachedTree.TheVariants.{Absent}
use Rattle.capi_table.specs.declared.over.Replacement.{Replacement}
use Rattle.capi_table.specs.declared.row.Row.{Row}
use Rattle.capi_table.specs.declared.write.Fault.{Fault as TableFault}
use Rattle.capi_table.specs.declared.write.Format.{Format}
use Rattle.capi_table.specs.declared.write.Image.{Image}
use Rattle.capi_table.specs.declared.write.Unwritten.{Unwritten}
use Rattle.capi_table.specs.declared.write.Unwritten.TheVariants.{NoRoom, Refused, Memory}

-- ---- what is requested

-- the form requests a format, of which a predicate holds
abbrev pub IsAsked : Form → (Format → Type 0) → Type 0
IsAsked f P =
    IsSomeAnd (kind_numbered f.kind) (λ kind. IsSomeAnd (choice_numbered f.version)
    (λ version. P (record { kind = kind; version = version; skip_hash = f.skip_hash })))

-- the form requests this format
pub record Asks (f : Form) (format : Format) : Type 0 where
  pub kind_is : Some format.kind ≡ kind_numbered f.kind
  pub version_is : Some format.version ≡ choice_numbered f.version
  pub skip_is : format.skip_hash ≡ f.skip_hash

-- one of the form's numbers is invalid
abbrev pub HasWrongNumber : Form → Type 0
HasWrongNumber f = (kind_numbered f.kind ≡ None) ⊎ (choice_numbered f.version ≡ None)

-- ---- an image

-- the report of an image and of the cache tree
abbrev pub image_report : Image → CachedTree → Written
image_report image tree = record {
  bytes = image.bytes;
  fault_place = 0;
  fault = 0;
  version = version_code image.version;
  tree = tree_number tree;
  of_shared = OWN;
}

-- the image that is reported, of which a predicate holds
pub record IsImageReported (told : Written) (tree : CachedTree) (P : Image → Type 0) : Type 0 where
  pub image : Image
  pub told_is : told ≡ image_report image tree
  pub holds : P image

-- what became of a cache tree is reported, and the image, and a predicate holds of both
abbrev pub IsImageReportedOver : Written → (CachedTree → Image → Type 0) → Type 0
IsImageReportedOver told P = (tree : CachedTree) × IsImageReported told tree (P tree)

-- ---- why nothing is written

-- the report of an error with an index, and of the cache tree
abbrev pub write_error_report : (number place : ℕ) → CachedTree → Written
write_error_report number place tree =
    record {
      bytes = 0;
      fault_place = place;
      fault = number;
      version = 0;
      tree = tree_number tree;
      of_shared = OWN;
    }

-- the table's error that is reported, of which a predicate holds
pub record IsWriteErrorReported (told : Written) (tree : CachedTree) (P : TableFault → Type 0) : Type 0 where
  pub fault : TableFault
  pub told_is : told ≡ write_error_report (table_number fault) (table_place fault) tree
  pub holds : P fault

-- this is the first error in the bytes of the index; its number and index are reported, and no cache tree
pub record IsRefusedBefore (kind : Kind) (bytes : List ℕ) (told : Written) : Type 0 where
  pub fault : Fault
  pub read : BytesReadAs false kind bytes (Err fault)
  pub number : told.fault ≡ fault_number fault
  pub place : told.fault_place ≡ fault_place fault
  pub tree : told.tree ≡ NO_TREE
  pub whose : told.of_shared ≡ OWN

-- the first error of the bytes of the index, or of the table that isn't written over it, and what became of the tree
abbrev pub IsRefusedOver : Format → List ℕ → List ℕ → List Row → Written → Type 0
IsRefusedOver f bytes paths rows told =
    IsRefusedBefore f.kind bytes told
    ⊎ ((tree : CachedTree) × IsWriteErrorReported told tree (IsUnwrittenOver f bytes paths rows tree))

-- The fields that are blank with a status. The error is blank with each status except `REFUSED`. The image's bytes and
-- version are blank with each except `DONE` and `NO_ROOM`. The cache tree is blank with `WRONG_NUMBER`. Whether the
-- error is the shared index's is blank with each except `REFUSED` and `MEMORY`.
pub record LeavesBlank (status : ℕ) (told : Written) : Type 0 where
  pub fault : status ≢ REFUSED → (told.fault ≡ 0) × (told.fault_place ≡ 0)
  pub image : status ≢ DONE → status ≢ NO_ROOM → (told.bytes ≡ 0) × (told.version ≡ 0)
  pub tree : status ≡ WRONG_NUMBER → told.tree ≡ NO_TREE
  pub whose : status ≢ REFUSED → status ≢ MEMORY → told.of_shared ≡ OWN

-- ---- what calls report

-- The status is at most a number, and a predicate holds of it and of the report. The fields that a status doesn't use
-- are blank.
pub record WrittenCodes (most : ℕ) (Told : ℕ → Written → Type 0) (status : ℕ) (said : Written) : Type 0 where
  pub at_most : status ≤ most
  pub told : Told status said
  pub blank : LeavesBlank status said

-- a report as in `WrittenCodes`, without a cache tree
pub record NoTreeCodes (most : ℕ) (Told : ℕ → Written → Type 0) (status : ℕ) (said : Written) : Type 0 where
  pub written : WrittenCodes most Told status said
  pub tree : said.tree ≡ NO_TREE

-- a number of the caller's is invalid, and nothing else is reported
pub record WrongNumberCodes (status : ℕ) (said : Written) : Type 0 where
  pub status_is : status ≡ WRONG_NUMBER
  pub tree : said.tree ≡ NO_TREE
  pub blank : LeavesBlank status said

-- the report of the result of writing a table
abbrev pub TableCodes : Result Image Unwritten → CachedTree → ℕ → Written → Type 0
TableCodes (Ok image) tree status told = (status ≡ DONE) × (told ≡ image_report image tree)
TableCodes (Err (NoRoom image)) tree status told = (status ≡ NO_ROOM) × (told ≡ image_report image tree)
TableCodes (Err (Refused fault)) tree status told =
    (status ≡ REFUSED) × (told ≡ write_error_report (table_number fault) (table_place fault) tree)
TableCodes (Err Memory) tree status told = (status ≡ MEMORY) × (told ≡ write_error_report 0 0 tree)

-- the report of why the bytes of the index aren't read
pub record UnreadCodes (e : ReadError) (status : ℕ) (told : Written) : Type 0 where
  pub status_is : status ≡ read_status e
  pub numbered : IsNumbered e told.fault told.fault_place
  pub told_is : told ≡ write_error_report told.fault told.fault_place Absent

-- the report of the result of writing a table over an index
abbrev pub ReplaceCodes : Result Replacement ReadError → ℕ → Written → Type 0
ReplaceCodes (Ok over) status told = TableCodes over.written over.tree status told
ReplaceCodes (Err e) status told = UnreadCodes e status told
