-- What a call that gives trees reports in addition to its status (the library's own; c/gix_index.h has it field by
-- field).
use Rattle.std.specs.Prelude.{◌≡◌, ℕ, Result, Ok, Err}
use Rattle.index_c.specs.declared.trees.Given.{Given}
use Rattle.index_c.specs.Numbers.{table_number, table_place}
use Rattle.index_c.specs.declared.status.TheConstants.{DONE, MEMORY, NO_ROOM, REFUSED}
use Rattle.capi_table.specs.declared.write.Fault.{Fault}
use Rattle.capi_table.specs.declared.trees.Counts.{Counts}
use Rattle.capi_table.specs.declared.trees.Unmade.{Unmade}
use Rattle.capi_table.specs.declared.trees.Unmade.TheVariants.{NoRoom, Refused, Memory}

-- the report of these numbers of trees and bytes
abbrev pub counts_report : Counts → Given
counts_report counts = record { trees = counts.trees; bytes = counts.bytes; fault_place = 0; fault = 0 }

-- the report of an error with an index
abbrev pub error_report : (number place : ℕ) → Given
error_report number place = record { trees = 0; bytes = 0; fault_place = place; fault = number }

abbrev pub empty_report : Given
empty_report = error_report 0 0

-- the counts that are reported, of which a predicate holds
pub record AreCountsReported (told : Given) (P : Counts → Type 0) : Type 0 where
  pub counts : Counts
  pub told_is : told ≡ counts_report counts
  pub holds : P counts

-- the error that is reported, of which a predicate holds
pub record IsErrorReported (told : Given) (P : Fault → Type 0) : Type 0 where
  pub fault : Fault
  pub told_is : told ≡ error_report (table_number fault) (table_place fault)
  pub holds : P fault

-- the report of the result of writing trees
abbrev pub TreesCodes : Result Counts Unmade → ℕ → Given → Type 0
TreesCodes (Ok counts) status told = (status ≡ DONE) × (told ≡ counts_report counts)
TreesCodes (Err (NoRoom counts)) status told = (status ≡ NO_ROOM) × (told ≡ counts_report counts)
TreesCodes (Err (Refused fault)) status told =
    (status ≡ REFUSED) × (told ≡ error_report (table_number fault) (table_place fault))
TreesCodes (Err Memory) status told = (status ≡ MEMORY) × (told ≡ empty_report)
