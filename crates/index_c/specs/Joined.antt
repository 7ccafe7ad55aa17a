-- What a call that reads a split index with its shared index reports about the bytes of both (gitformat-index, "Split
-- index").
use Rattle.std.specs.Prelude.{◌≡◌, ℕ, ◌⊎◌, Bool, List, Option, Some, None, Err}
use Rattle.gix_index.specs.Answer.{Fault}
use Rattle.gix_index.specs.Contents.{Contents}
use Rattle.gix_index.specs.Dissolve.{IsDissolveFault}
use Rattle.gix_index.specs.Edits.{without_link}
use Rattle.gix_index.specs.Kind.{Kind}
use Rattle.gix_index.specs.Link.{LinkFault, LinkValue}
use Rattle.gix_index.specs.ObjectId.{ObjectId}
use Rattle.index_c.specs.Summaries.{IsRefusedIndex, MemoryCodes, RejectionCodes, error_summary}
use Rattle.index_c.specs.declared.fault.TheConstants.{LINK}
use Rattle.index_c.specs.declared.number.TheConstants.{OF_SHARED, OWN}
use Rattle.index_c.specs.declared.summary.Summary.{Summary}
use Rattle.capi_table.specs.Joining.{LinksTo, SharedReadsAs}
use Rattle.capi_table.specs.Reading.{BytesEndAs, IsReadSo, LacksMemory}

-- ---- errors

-- this is the first error in the bytes of the shared index
pub record IsSharedRefused (skip : Bool) (kind : Kind) (link : LinkValue) (shared : List ℕ) (s : Summary) : Type 0 where
  pub fault : Fault
  pub read : BytesEndAs (Some link.shared) skip kind shared (Err fault)
  pub tells : RejectionCodes fault OF_SHARED s

-- The shared index is read, and this is the first error of the link between it and `split`, a value without a link.
pub record IsLinkRefused (skip : Bool) (kind : Kind) (link : LinkValue) (shared : List ℕ) (split : Contents)
    (s : Summary) : Type 0 where
  pub index : Contents
  pub checksum : Option ObjectId
  pub read : SharedReadsAs skip kind link shared index checksum
  pub fault : LinkFault
  pub is_fault : IsDissolveFault link index split fault
  pub tells : s ≡ error_summary LINK 0 OWN s.text_bytes

-- `split` links to a shared index that is rejected, or that can't be joined to it
abbrev pub IsJoinRefused : Bool → Kind → List ℕ → Summary → Contents → Type 0
IsJoinRefused skip kind shared s split =
    (link : LinkValue) × LinksTo split link
    × (IsSharedRefused skip kind link shared s ⊎ IsLinkRefused skip kind link shared (without_link split) s)

-- the summary has the first error of the bytes, of those of the shared index, or of the link between the two
abbrev pub AreRefusedBoth : Bool → Kind → List ℕ → List ℕ → Summary → Type 0
AreRefusedBoth skip kind bytes shared s =
    IsRefusedIndex skip kind bytes s ⊎ IsReadSo skip kind bytes (IsJoinRefused skip kind shared s)

-- ---- out of memory

-- `split` links to a shared index, and this is what holds of that one's bytes if memory runs out
abbrev pub LacksForShared : Bool → Kind → List ℕ → Contents → Type 0
LacksForShared skip kind shared split =
    (link : LinkValue) × LinksTo split link × LacksMemory (Some link.shared) skip kind shared

-- What holds of the bytes of both if memory runs out. Of the index's own bytes, the same holds as if they were read
-- alone. If the summary is about the shared index, the bytes are read as a value that links to it. The same then holds
-- of the shared bytes.
pub record LackMemory (skip : Bool) (kind : Kind) (bytes shared : List ℕ) (s : Summary) : Type 0 where
  pub own : LacksMemory None skip kind bytes
  pub whose : MemoryCodes OWN s
      ⊎ (MemoryCodes OF_SHARED s × IsReadSo skip kind bytes (LacksForShared skip kind shared))
