-- The numbers that a caller in C passes or receives for values (the library's own; c/gix_index.h lists them).
use Rattle.std.specs.Prelude.{◌≡◌, ℕ, nat_eq, Option, Some, None, MatchOption, if◌then◌else◌}
use Rattle.gix_index.specs.Answer.{Fault, Header, OutOfMemory, NoEntry, Extension, TrailerLength, Verify}
use Rattle.gix_index.specs.ExtensionError.{Extension as ExtensionError}
use Rattle.gix_index.specs.ExtensionError.TheVariants as extensions
use Rattle.gix_index.specs.FileFaults.ReadError.{Error as ReadError}
use Rattle.gix_index.specs.FileFaults.ReadError.TheVariants as reads
use Rattle.gix_index.specs.Header.{Corrupt, UnsupportedVersion}
use Rattle.gix_index.specs.HeaderError.{Header as HeaderError}
use Rattle.gix_index.specs.HeaderError.TheVariants as headers
use Rattle.gix_index.specs.Kind.{Kind}
use Rattle.gix_index.specs.Kind.TheVariants as kinds
use Rattle.gix_index.specs.Outcome.{Unimplemented, Link}
use Rattle.gix_index.specs.VersionChoice.{VersionChoice}
use Rattle.gix_index.specs.VersionChoice.TheVariants as choices
use Rattle.index_c.specs.declared.fault.TheConstants.{BELOW, COUNT, DIGEST, DISK, ENTRY, EXTENSION, HEADER}
use Rattle.index_c.specs.declared.fault.TheConstants.{LENGTH, LIMIT, LINK, MODE, NAME, ORDER, ROW}
use Rattle.index_c.specs.declared.fault.TheConstants.{TRAILER, UNMERGED, VERSION}
use Rattle.index_c.specs.declared.number.TheConstants.{NO_TREE, OF_SHARED, OWN, TREE_KEPT, TREE_LEFT_OUT}
use Rattle.index_c.specs.declared.status.TheConstants.{MEMORY, REFUSED}
use Rattle.capi_table.specs.Faults.{decode_fault}
use Rattle.capi_table.specs.declared.fault.Whose.{Whose}
use Rattle.capi_table.specs.declared.fault.Whose.TheVariants.{Own, Shared}
use Rattle.capi_table.specs.declared.over.CachedTree.{CachedTree}
use Rattle.capi_table.specs.declared.over.CachedTree.TheVariants as trees
use Rattle.capi_table.specs.declared.row.TheConstants.{SHA1, SHA256}
use Rattle.capi_table.specs.declared.write.Fault.{Fault as TableFault}
use Rattle.capi_table.specs.declared.write.Fault.TheVariants as tables

-- ---- what is requested

abbrev pub kind_numbered : ℕ → Option Kind
kind_numbered n = if nat_eq n SHA1 then Some kinds.Sha1 else (if nat_eq n SHA256 then Some kinds.Sha256 else None)

-- The version that a number requests. 2 and 3 both request the smaller of these two that has the flags.
abbrev pub choice_numbered : ℕ → Option VersionChoice
choice_numbered n =
    if nat_eq n 2 then Some choices.Smallest
    else (if nat_eq n 3 then Some choices.Smallest else (if nat_eq n 4 then Some choices.V4 else None))

-- ---- what is reported

abbrev pub whose_number : Whose → ℕ
whose_number Own = OWN
whose_number Shared = OF_SHARED

abbrev pub tree_number : CachedTree → ℕ
tree_number trees.Absent = NO_TREE
tree_number trees.Kept = TREE_KEPT
tree_number trees.LeftOut = TREE_LEFT_OUT

-- ---- errors of bytes

abbrev pub fault_number : Fault → ℕ
fault_number (Header (Corrupt text)) = HEADER
fault_number (Header (UnsupportedVersion n)) = VERSION
fault_number OutOfMemory = LIMIT
fault_number (NoEntry i) = ENTRY
fault_number (Extension (Unimplemented signature)) = EXTENSION
fault_number (Extension (Link fault)) = LINK
fault_number (TrailerLength expected actual) = TRAILER
fault_number (Verify actual expected) = DIGEST

-- the index of the entry that can't be read; 0 for any other error
abbrev pub fault_place : Fault → ℕ
fault_place (Header fault) = 0
fault_place OutOfMemory = 0
fault_place (NoEntry i) = i
fault_place (Extension fault) = 0
fault_place (TrailerLength expected actual) = 0
fault_place (Verify actual expected) = 0

-- an error has this number and this index
pub record HasNumber (fault : Fault) (number place : ℕ) : Type 0 where
  pub number_is : number ≡ fault_number fault
  pub place_is : place ≡ fault_place fault

-- ---- errors of reading

abbrev pub header_number : HeaderError → ℕ
header_number (headers.Corrupt text) = HEADER
header_number (headers.UnsupportedVersion n) = VERSION

abbrev pub extension_number : ExtensionError → ℕ
extension_number (extensions.MandatoryUnimplemented signature) = EXTENSION
extension_number (extensions.Link e) = LINK

-- the status of an error of reading
abbrev pub read_status : ReadError → ℕ
read_status (reads.Io e) = REFUSED
read_status (reads.Decode e) = REFUSED
read_status (reads.LinkExtension e) = REFUSED
read_status reads.Memory = MEMORY

-- an error of reading has this number and this index
abbrev pub IsNumbered : ReadError → ℕ → ℕ → Type 0
IsNumbered (reads.Io e) number place = (number ≡ DISK) × (place ≡ 0)
IsNumbered (reads.Decode e) number place =
    MatchOption (decode_fault e) (Unit {0}) (λ fault. HasNumber fault number place)
IsNumbered (reads.LinkExtension e) number place = (number ≡ LINK) × (place ≡ 0)
IsNumbered reads.Memory number place = (number ≡ 0) × (place ≡ 0)

-- ---- errors of a table

abbrev pub table_number : TableFault → ℕ
table_number (tables.Row place) = ROW
table_number (tables.Mode place) = MODE
table_number (tables.Order place) = ORDER
table_number (tables.Name place) = NAME
table_number (tables.Unmerged place) = UNMERGED
table_number (tables.Below place) = BELOW
table_number tables.Count = COUNT
table_number tables.Length = LENGTH

-- the index of the row that the error names, or 0
abbrev pub table_place : TableFault → ℕ
table_place (tables.Row place) = place
table_place (tables.Mode place) = place
table_place (tables.Order place) = place
table_place (tables.Name place) = place
table_place (tables.Unmerged place) = place
table_place (tables.Below place) = place
table_place tables.Count = 0
table_place tables.Length = 0
