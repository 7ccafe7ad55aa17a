-- What the calls that read and check an index return, and what they leave (the library's own; c/gix_index.h has it
-- status by status).
use Rattle.std.specs.Prelude.{◌≡◌, ◌≢◌, ◌≤◌, ◌↔◌, ◌⊎◌, ℕ, Bool, List, None, Result, IfErr, IfOk, IsSomeAnd}
use Rattle.gix_index.specs.Contents.{Contents}
use Rattle.gix_index.specs.Kind.{Kind}
use Rattle.index_c.specs.Checking.{AreSoundBoth, AreUnsoundBoth, IsCheckResult, IsSoundSummary, IsUnsoundIndex}
use Rattle.index_c.specs.declared.check.Found.{Found}
use Rattle.index_c.specs.Joined.{AreRefusedBoth, LackMemory}
use Rattle.index_c.specs.Numbers.{kind_numbered}
use Rattle.index_c.specs.Statuses.{KindStatusCause}
use Rattle.index_c.specs.Summaries.{HasText, IsRefusedIndex, IsSummaryWith, IsUnread, blank}
use Rattle.index_c.specs.declared.status.TheConstants.{DONE, MEMORY, REFUSED, WRONG_NUMBER}
use Rattle.index_c.specs.declared.summary.Summary.{Summary}
use Rattle.capi_table.specs.Joining.{AreReadSo, FailBoth}
use Rattle.capi_table.specs.Reading.{FailsOwn, Fills, IsReadSo, IsTooSmall}
use Rattle.capi_table.specs.declared.fault.Failure.{Failure}
use Rattle.capi_table.specs.declared.row.Row.{Row}

-- ---- reading

-- What is returned if a value is to be read into a table. With DONE the table has it, and with NO_ROOM it is too small
-- for it; the summary is that of the value. With each status except DONE the table is as it was. With WRONG_NUMBER
-- nothing is reported. Only the first bytes of the room for a text were written.
pub record ReadsWith (number : ℕ) (Read : Kind → (Contents → Type 0) → Type 0) (Refused Lacks : Kind → Type 0)
    (s : Summary) (old new : List Row) (before after room said : List ℕ) (status : ℕ) : Type 0 where
  pub says : KindStatusCause number (λ k. Read k (IsSummaryWith s (λ v. Fills v old new before after))) Refused Lacks
      (λ k. Read k (IsSummaryWith s (λ v. IsTooSmall v old before))) status
  pub untold : status ≡ WRONG_NUMBER → s ≡ blank
  pub rows : status ≢ DONE → new ≡ old
  pub paths : status ≢ DONE → after ≡ before
  pub text : HasText s.text_bytes room said

-- the result of reading these bytes into a table
abbrev pub ReadsTable : ℕ → Bool → List ℕ → Summary → List Row → List Row → (before after room said : List ℕ) → ℕ
    → Type 0
ReadsTable number skip bytes s old new before after room said status =
    ReadsWith number (λ k. IsReadSo skip k bytes) (λ k. IsRefusedIndex skip k bytes s) (λ k. IsUnread skip k bytes s) s
    old new before after room said status

-- the result of reading these bytes into a table, with those of the shared index
abbrev pub ReadsSplit : ℕ → Bool → List ℕ → List ℕ → Summary → List Row → List Row
    → (before after room said : List ℕ) → ℕ → Type 0
ReadsSplit number skip bytes shared s old new before after room said status =
    ReadsWith number (λ k. AreReadSo skip k bytes shared) (λ k. AreRefusedBoth skip k bytes shared s)
    (λ k. LackMemory skip k bytes shared s) s old new before after room said status

-- ---- checking

-- what a check finds of a value, if there is one, or why there is none
pub record FindsWith (Value : (Contents → Type 0) → Type 0) (Fails : Failure → Type 0) (r : Result Found Failure)
    : Type 0 where
  pub found : IfOk r (λ found. Value (IsCheckResult found))
  pub failed : IfErr r Fails

-- the result of a check of what these bytes are read as
abbrev pub FindsOfIndex : Bool → Kind → List ℕ → Result Found Failure → Type 0
FindsOfIndex skip kind bytes r = FindsWith (IsReadSo skip kind bytes) (FailsOwn skip kind bytes) r

-- the result of a check of what these bytes are read as with those of the shared index
abbrev pub FindsOfBoth : Bool → Kind → List ℕ → List ℕ → Result Found Failure → Type 0
FindsOfBoth skip kind bytes shared r =
    FindsWith (AreReadSo skip kind bytes shared) (FailBoth skip kind bytes shared) r

-- What is returned by a check of bytes, with a hash algorithm that is requested by its number, by status. No status is
-- about room. With WRONG_NUMBER nothing is reported.
pub record ChecksWith (number : ℕ) (Done Refused Lacks : Kind → Type 0) (s : Summary) (before after : List ℕ)
    (status : ℕ) : Type 0 where
  pub status_is : (status ≤ MEMORY) ⊎ (status ≡ WRONG_NUMBER)
  pub done : status ≡ DONE → IsSomeAnd (kind_numbered number) Done
  pub refused : status ≡ REFUSED → IsSomeAnd (kind_numbered number) Refused
  pub memory : status ≡ MEMORY → IsSomeAnd (kind_numbered number) Lacks
  pub wrong_number : (status ≡ WRONG_NUMBER) ↔ (kind_numbered number ≡ None)
  pub untold : status ≡ WRONG_NUMBER → s ≡ blank
  pub text : HasText s.text_bytes before after

-- the result of a check of these bytes, by status
abbrev pub ChecksIndexBytes : ℕ → Bool → List ℕ → Summary → List ℕ → List ℕ → ℕ → Type 0
ChecksIndexBytes number skip bytes s before after status =
    ChecksWith number (λ k. IsSoundSummary skip k bytes s)
    (λ k. IsRefusedIndex skip k bytes s ⊎ IsUnsoundIndex skip k bytes s) (λ k. IsUnread skip k bytes s) s before after
    status

-- the result of a check of these bytes and those of the shared index, by status
abbrev pub ChecksSplit : ℕ → Bool → List ℕ → List ℕ → Summary → List ℕ → List ℕ → ℕ → Type 0
ChecksSplit number skip bytes shared s before after status =
    ChecksWith number (λ k. AreSoundBoth skip k bytes shared s)
    (λ k. AreRefusedBoth skip k bytes shared s ⊎ AreUnsoundBoth skip k bytes shared s)
    (λ k. LackMemory skip k bytes shared s) s before after status
