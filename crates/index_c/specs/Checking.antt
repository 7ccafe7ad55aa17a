-- What a call that checks an index, alone or with its shared index, reports about the bytes (gitformat-index, "Index
-- entries are sorted in ascending order", "Cache tree").
use Rattle.std.specs.Prelude.{◌≡◌, ℕ, ◌⊎◌, Bool, List, length, Option, Some, None, Result, Ok, Err, IfSome, MatchOption}
use Rattle.gix_index.specs.Contents.{Contents}
use Rattle.gix_index.specs.Kind.{Kind}
use Rattle.gix_index.specs.Order.{IsStrictlyOrdered}
use Rattle.gix_index.specs.OrderError.{Error as OrderError}
use Rattle.gix_index.specs.OrderError.TheVariants as orders
use Rattle.gix_index.specs.Sorted.{IsFirstFall}
use Rattle.gix_index.specs.SoundState.{AreSoundExtensions}
use Rattle.gix_index.specs.TreeError.{Error as TreeError}
use Rattle.gix_index.specs.TreeError.TheVariants as trees
use Rattle.index_c.specs.Summaries.{FailureCodes, MemoryCodes, size_summary}
use Rattle.index_c.specs.declared.check.Flaw.{Flaw}
use Rattle.index_c.specs.declared.check.Flaw.TheVariants as flaws
use Rattle.index_c.specs.declared.check.Found.{Found}
use Rattle.index_c.specs.declared.fault.TheConstants.{CACHED_TREE, ORDER}
use Rattle.index_c.specs.declared.number.TheConstants.{OWN}
use Rattle.index_c.specs.declared.status.TheConstants.{DONE, MEMORY, REFUSED}
use Rattle.index_c.specs.declared.summary.Summary.{Summary}
use Rattle.capi_table.specs.Joining.{AreReadSo}
use Rattle.capi_table.specs.Reading.{IsReadSo, sizes_of}
use Rattle.capi_table.specs.declared.fault.Failure.{Failure}
use Rattle.capi_table.specs.declared.read.Sizes.{Sizes}

-- ---- values

-- The entries strictly increase by path, then by stage. The cache tree, if there is one, is consistent, and no node of
-- it counts more entries than there are.
pub record IsSoundValue (v : Contents) : Type 0 where
  pub ordered : IsStrictlyOrdered v.records
  pub tree : AreSoundExtensions (length v.records) v.extensions.tree

-- the entry at the index is the first that isn't above the one before it
pub record IsOutOfOrder (v : Contents) (number place : ℕ) : Type 0 where
  pub number_is : number ≡ ORDER
  pub fall : IsFirstFall v.records (Some place)

-- the entries are in order, and the cache tree is inconsistent or doesn't match them
pub record HasUnsoundTree (v : Contents) (number place : ℕ) : Type 0 where
  pub number_is : number ≡ CACHED_TREE
  pub place_is : place ≡ 0
  pub ordered : IsStrictlyOrdered v.records
  pub unsound : AreSoundExtensions (length v.records) v.extensions.tree → ⊥

-- the number and the index of the first error of a value that isn't valid
abbrev pub HasCheckFault : Contents → ℕ → ℕ → Type 0
HasCheckFault v number place = IsOutOfOrder v number place ⊎ HasUnsoundTree v number place

-- the sizes of a value that is checked, with no bytes for paths
abbrev pub checked_sizes : Contents → Sizes
checked_sizes v = record (sizes_of v) { path_bytes = 0 }

-- the value is valid, and the summary is that of it
pub record IsFoundSound (s : Summary) (v : Contents) : Type 0 where
  pub told : s ≡ size_summary (checked_sizes v)
  pub sound : IsSoundValue v

-- the summary of sizes with an error, and with the length of the text
abbrev pub unsound_summary : Sizes → (number place text_bytes : ℕ) → Summary
unsound_summary sizes number place text_bytes =
    record (size_summary sizes) { text_bytes = text_bytes; fault_place = place; fault = number }

-- The value isn't valid. The summary is that of it, and has the number and the index of its first error.
pub record IsFoundUnsound (s : Summary) (v : Contents) : Type 0 where
  pub told : s ≡ unsound_summary (checked_sizes v) s.fault s.fault_place s.text_bytes
  pub fault : HasCheckFault v s.fault s.fault_place

-- ---- errors

-- the index of the entry that is out of order; none if memory ran out
abbrev pub order_place : OrderError → Option ℕ
order_place (orders.OutOfOrder index path stage previous_path previous_stage) = Some index
order_place orders.Memory = None

-- an error of the cache tree has the index 0; running out of memory has none
abbrev pub tree_place : TreeError → Option ℕ
tree_place (trees.RootWithName name) = Some 0
tree_place (trees.EntriesCount actual expected) = Some 0
tree_place trees.EntriesCountOverflow = Some 0
tree_place (trees.OutOfOrder parent current previous) = Some 0
tree_place (trees.TreeNodeNotFound id) = Some 0
tree_place (trees.MissingTreeDirectory parent id name) = Some 0
tree_place (trees.TreeNodeChildcountMismatch id expected actual) = Some 0
tree_place (trees.EntriesCountExceedsIndex name actual expected) = Some 0
tree_place trees.Memory = None

abbrev pub flaw_number : Flaw → ℕ
flaw_number (flaws.Order e) = ORDER
flaw_number (flaws.CachedTree e) = CACHED_TREE

abbrev pub flaw_place : Flaw → Option ℕ
flaw_place (flaws.Order e) = order_place e
flaw_place (flaws.CachedTree e) = tree_place e

-- ---- what is found

-- a value is valid, or has a flaw, which is named if memory suffices
abbrev pub IsJudged : Result (Unit {0}) Flaw → Contents → Type 0
IsJudged (Ok done) v = IsSoundValue v
IsJudged (Err flaw) v = IfSome (flaw_place flaw) (λ place. HasCheckFault v (flaw_number flaw) place)

-- what a check finds of a value
pub record IsCheckResult (found : Found) (v : Contents) : Type 0 where
  pub sizes_are : found.sizes ≡ checked_sizes v
  pub judged : IsJudged found.judged v

-- ---- what calls report

-- the report of a flaw of a value of these sizes; if memory was too short to name it, only that
abbrev pub FlawCodes : Flaw → Sizes → ℕ → Summary → Type 0
FlawCodes flaw sizes status s =
    MatchOption (flaw_place flaw) ((status ≡ MEMORY) × MemoryCodes OWN s)
    (λ place. (status ≡ REFUSED) × (s ≡ unsound_summary sizes (flaw_number flaw) place s.text_bytes))

abbrev pub FoundCodes : Result (Unit {0}) Flaw → Sizes → ℕ → Summary → Type 0
FoundCodes (Ok done) sizes status s = (status ≡ DONE) × (s ≡ size_summary sizes)
FoundCodes (Err flaw) sizes status s = FlawCodes flaw sizes status s

-- the report of the result of a check
abbrev pub CheckCodes : Result Found Failure → ℕ → Summary → Type 0
CheckCodes (Ok found) status s = FoundCodes found.judged found.sizes status s
CheckCodes (Err failure) status s = FailureCodes failure status s

-- ---- an index alone

-- the bytes are read as a value that is valid, and the summary is that of it
abbrev pub IsSoundSummary : Bool → Kind → List ℕ → Summary → Type 0
IsSoundSummary skip kind bytes s = IsReadSo skip kind bytes (IsFoundSound s)

-- the bytes are read as a value that isn't valid, and the summary is that of it and of its first error
abbrev pub IsUnsoundIndex : Bool → Kind → List ℕ → Summary → Type 0
IsUnsoundIndex skip kind bytes s = IsReadSo skip kind bytes (IsFoundUnsound s)

-- ---- an index with its shared index

-- the bytes and those of the shared index are read as a value that is valid, and the summary is that of it
abbrev pub AreSoundBoth : Bool → Kind → List ℕ → List ℕ → Summary → Type 0
AreSoundBoth skip kind bytes shared s = AreReadSo skip kind bytes shared (IsFoundSound s)

-- The bytes and those of the shared index are read as a value that isn't valid. The summary is that of it and of its
-- first error.
abbrev pub AreUnsoundBoth : Bool → Kind → List ℕ → List ℕ → Summary → Type 0
AreUnsoundBoth skip kind bytes shared s = AreReadSo skip kind bytes shared (IsFoundUnsound s)
