-- What the calls that write an index or its trees return, and what they leave (the library's own; c/gix_index.h has it
-- status by status).
use Rattle.std.specs.Prelude.{◌≡◌, ◌≢◌, ℕ, List, None, true, false}
use Rattle.index_c.specs.Giving.{AreCountsReported, empty_report}
use Rattle.index_c.specs.Giving.{IsErrorReported as IsFaultOfTrees}
use Rattle.index_c.specs.Updated.{IsRefusedUpdate, as_read}
use Rattle.index_c.specs.Written.{HasWrongNumber, IsAsked, IsWriteErrorReported, IsImageReported, IsImageReportedOver}
use Rattle.index_c.specs.Written.{IsRefusedOver}
use Rattle.index_c.specs.Written.{LeavesBlank}
use Rattle.index_c.specs.declared.trees.Given.{Given}
use Rattle.index_c.specs.declared.write.Form.{Form}
use Rattle.index_c.specs.declared.write.Written.{Written}
use Rattle.index_c.specs.Joined.{LackMemory}
use Rattle.index_c.specs.Statuses.{StatusCause, KindStatusCause}
use Rattle.index_c.specs.declared.number.TheConstants.{NO_TREE, OWN}
use Rattle.index_c.specs.declared.status.TheConstants.{DONE, WRONG_NUMBER}
use Rattle.capi_table.specs.Fitting.{IsFitTable}
use Rattle.capi_table.specs.Overwriting.{WritesOver, full_options}
use Rattle.capi_table.specs.Reading.{LacksMemory}
use Rattle.capi_table.specs.Updating.{HasKeptImage, PassesRoomKept, UpdatesTable}
use Rattle.capi_table.specs.Writing.{HasImage, IsUnwritten, PassesRoom, Spells, plain_options}
use Rattle.capi_table.specs.declared.over.CachedTree.TheVariants.{Absent}
use Rattle.capi_table.specs.declared.row.Row.{Row}
use Rattle.capi_table.specs.declared.write.Format.{Format}
use Rattle.capi_table.specs.Blaming.{HasNoTrees}
use Rattle.capi_table.specs.Trees.{HoldTrees, MakesTrees, PassRoom}
use Rattle.capi_table.specs.declared.trees.Tree.{Tree}

-- what each status states about the format that a form requests
abbrev pub FormatStatusCause : Form → (Done Refused Lacks Passes : Format → Type 0) → ℕ → Type 0
FormatStatusCause form Done Refused Lacks Passes status =
    StatusCause (IsAsked form) (HasWrongNumber form) Done Refused Lacks Passes status

-- ---- an index

-- What is returned if a table is to be written into a room. With DONE the room has the image. With NO_ROOM it is too
-- small for the image, which is reported. With `REFUSED` the error is reported. With each status except DONE the room
-- is as it was.
pub record WritesForm (form : Form) (paths : List ℕ) (rows : List Row) (old new : List ℕ) (said : Written)
    (status : ℕ) : Type 0 where
  pub says : FormatStatusCause form
      (λ format. IsImageReported said Absent
      (λ image. Spells format.kind paths rows (HasImage (plain_options format) image old new)))
      (λ format. IsWriteErrorReported said Absent (IsUnwritten format paths rows))
      (λ format. IsFitTable format.kind false paths rows)
      (λ format. IsImageReported said Absent
      (λ image. Spells format.kind paths rows (PassesRoom (plain_options format) image old))) status
  pub tree : said.tree ≡ NO_TREE
  pub whose : said.of_shared ≡ OWN
  pub blank : LeavesBlank status said
  pub bytes : status ≢ DONE → new ≡ old

-- What is returned if a table is to be written into a room over the index of these bytes, by status as in `WritesForm`.
-- What became of the index's cache tree is reported.
pub record WritesInPlace (form : Form) (index paths : List ℕ) (rows : List Row) (old new : List ℕ) (said : Written)
    (status : ℕ) : Type 0 where
  pub says : FormatStatusCause form
      (λ format. IsImageReportedOver said
      (λ tree image. WritesOver format.kind index paths rows tree (HasImage (full_options format) image old new)))
      (λ format. IsRefusedOver format index paths rows said)
      (λ format. LacksMemory None false format.kind index)
      (λ format. IsImageReportedOver said
      (λ tree image. WritesOver format.kind index paths rows tree (PassesRoom (full_options format) image old)))
      status
  pub whose : said.of_shared ≡ OWN
  pub blank : LeavesBlank status said
  pub bytes : status ≢ DONE → new ≡ old

-- What is returned if changes of the index of these bytes, joined to the shared index, are to be written into a room.
-- It is by status as in `WritesForm`.
pub record Changes (number : ℕ) (index shared paths : List ℕ) (rows : List Row) (old new : List ℕ) (said : Written)
    (status : ℕ) : Type 0 where
  pub says : KindStatusCause number
      (λ k. IsImageReported said Absent (λ image. UpdatesTable k index shared paths rows (HasKeptImage image old new)))
      (λ k. IsRefusedUpdate k index shared paths rows said)
      (λ k. LackMemory false k index shared (as_read said))
      (λ k. IsImageReported said Absent (λ image. UpdatesTable k index shared paths rows (PassesRoomKept image old)))
      status
  pub tree : said.tree ≡ NO_TREE
  pub blank : LeavesBlank status said
  pub bytes : status ≢ DONE → new ≡ old

-- ---- trees

-- What is returned if the trees of a table are to be put into rooms. With DONE the rooms have them. With NO_ROOM one is
-- too small, and the counts are reported. With `REFUSED` the error is reported. With each status except DONE both rooms
-- are as they were.
pub record GivesTrees (number : ℕ) (paths : List ℕ) (rows : List Row) (old new : List Tree) (before after : List ℕ)
    (given : Given) (status : ℕ) : Type 0 where
  pub says : KindStatusCause number
      (λ k. AreCountsReported given (λ counts. MakesTrees k paths rows (HoldTrees counts old new before after)))
      (λ k. IsFaultOfTrees given (HasNoTrees k paths rows))
      (λ k. IsFitTable k true paths rows × (given ≡ empty_report))
      (λ k. AreCountsReported given (λ counts. MakesTrees k paths rows (PassRoom counts old before))) status
  pub untold : status ≡ WRONG_NUMBER → given ≡ empty_report
  pub trees : status ≢ DONE → new ≡ old
  pub bytes : status ≢ DONE → after ≡ before
