-- What a call that changes an index reports in addition to its status (the library's own; c/gix_index.h has it field by
-- field).
use Rattle.std.specs.Prelude.{ℕ, ◌⊎◌, false, List, Result, Ok, Err}
use Rattle.gix_index.specs.Kind.{Kind}
use Rattle.index_c.specs.Joined.{AreRefusedBoth}
use Rattle.index_c.specs.Summaries.{FailureCodes, error_summary}
use Rattle.index_c.specs.Written.{IsWriteErrorReported, TableCodes}
use Rattle.index_c.specs.declared.summary.Summary.{Summary}
use Rattle.index_c.specs.declared.write.Written.{Written}
use Rattle.capi_table.specs.Refusing.{IsUnupdated}
use Rattle.capi_table.specs.declared.fault.Failure.{Failure}
use Rattle.capi_table.specs.declared.over.CachedTree.TheVariants.{Absent}
use Rattle.capi_table.specs.declared.row.Row.{Row}
use Rattle.capi_table.specs.declared.write.Image.{Image}
use Rattle.capi_table.specs.declared.write.Unwritten.{Unwritten}

-- what a call that reads the bytes reports for the same error, except the text
abbrev pub as_read : Written → Summary
as_read told = error_summary told.fault told.fault_place told.of_shared 0

-- The first error of the bytes, of those of the shared index, or of the link between the two. Or it is that of what the
-- rows make of both.
abbrev pub IsRefusedUpdate : Kind → List ℕ → List ℕ → List ℕ → List Row → Written → Type 0
IsRefusedUpdate kind bytes shared paths rows told =
    AreRefusedBoth false kind bytes shared (as_read told)
    ⊎ IsWriteErrorReported told Absent (IsUnupdated kind bytes shared paths rows)

-- the report of why the bytes of the index, or of its shared index, aren't read
abbrev pub SharedFailureCodes : Failure → ℕ → Written → Type 0
SharedFailureCodes failure status told = FailureCodes failure status (as_read told)

-- the report of the result of changing an index
abbrev pub UpdateCodes : Result (Result Image Unwritten) Failure → ℕ → Written → Type 0
UpdateCodes (Ok written) status told = TableCodes written Absent status told
UpdateCodes (Err failure) status told = SharedFailureCodes failure status told
