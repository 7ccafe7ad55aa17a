-- What a call that reads a split index with its shared index states about the bytes of both (gitformat-index, "Split
-- index").
use Rattle.std.specs.Prelude.{◌≡◌, ℕ, ◌⊎◌, Bool, List, Option, Some, Ok}
use Rattle.gix_index.specs.Contents.{Contents}
use Rattle.gix_index.specs.Dissolve.{IsDissolved, DissolveCause}
use Rattle.gix_index.specs.Edits.{without_link}
use Rattle.gix_index.specs.FileFaults.ReadErrors.{link_error_of}
use Rattle.gix_index.specs.Kind.{Kind}
use Rattle.gix_index.specs.Link.{LinkValue}
use Rattle.gix_index.specs.LinkError.{Error as LinkError}
use Rattle.gix_index.specs.Linked.{IsFollowed as IsFollowedLink, IsUnfollowed}
use Rattle.gix_index.specs.ObjectId.{ObjectId}
use Rattle.capi_table.specs.Reading.{BytesEndAs, FailsOwn, FailsSo, IsReadSo}
use Rattle.capi_table.specs.declared.fault.Failure.{Failure}
use Rattle.capi_table.specs.declared.fault.Whose.TheVariants.{Own, Shared}

-- ---- the value of both

-- the value has a link, whose id isn't null
abbrev pub LinksTo : Contents → LinkValue → Type 0
LinksTo split link = IsFollowedLink split.extensions.link link

-- the bytes of the shared index are read as this value; their trailer must be the link's id, unless it is null
abbrev pub SharedReadsAs : Bool → Kind → LinkValue → List ℕ → Contents → Option ObjectId → Type 0
SharedReadsAs skip kind link bytes v checksum = BytesEndAs (Some link.shared) skip kind bytes (Ok (v, checksum))

-- The shared index is read. Dissolving the link between it and a value without a link gives a value, of which a
-- predicate holds.
pub record IsJoinedBy (skip : Bool) (kind : Kind) (link : LinkValue) (shared : List ℕ) (P : Contents → Type 0)
    (split : Contents) : Type 0 where
  pub index : Contents
  pub checksum : Option ObjectId
  pub read : SharedReadsAs skip kind link shared index checksum
  pub value : Contents
  pub dissolved : IsDissolved link index split value
  pub holds : P value

-- There is no link to follow, and a predicate holds of the value without it. Or there is one, and a predicate holds of
-- the value after joining.
abbrev pub IsJoinedIfLinked : Bool → Kind → List ℕ → (Contents → Type 0) → Contents → Type 0
IsJoinedIfLinked skip kind shared P split =
    (IsUnfollowed split.extensions.link × P (without_link split))
    ⊎ ((link : LinkValue) × LinksTo split link × IsJoinedBy skip kind link shared P (without_link split))

-- the bytes and those of the shared index are read as a value of which a predicate holds
abbrev pub AreReadSo : Bool → Kind → List ℕ → List ℕ → (Contents → Type 0) → Type 0
AreReadSo skip kind bytes shared P = IsReadSo skip kind bytes (IsJoinedIfLinked skip kind shared P)

-- ---- why there is none

-- the bytes of the shared index aren't read
pub record FailsShared (skip : Bool) (kind : Kind) (link : LinkValue) (shared : List ℕ) (failure : Failure)
    : Type 0 where
  pub whose : failure.whose ≡ Shared
  pub says : FailsSo (Some link.shared) skip kind shared failure.error

-- the shared index is read, and dissolving the link between it and `split`, a value without a link, gives an error
pub record FailsLink (skip : Bool) (kind : Kind) (link : LinkValue) (shared : List ℕ) (split : Contents)
    (failure : Failure) : Type 0 where
  pub index : Contents
  pub checksum : Option ObjectId
  pub read : SharedReadsAs skip kind link shared index checksum
  pub error : LinkError
  pub says : DissolveCause error link index split
  pub whose : failure.whose ≡ Own
  pub is : failure.error ≡ link_error_of error

-- the bytes of the shared index, or the link to it, are why `split`, a value without a link, isn't joined to it
abbrev pub FailsJoined : Bool → Kind → LinkValue → List ℕ → Contents → Failure → Type 0
FailsJoined skip kind link shared split failure =
    FailsShared skip kind link shared failure ⊎ FailsLink skip kind link shared split failure

-- the value links to a shared index, and can't be joined to it
abbrev pub FailsFollowed : Bool → Kind → List ℕ → Failure → Contents → Type 0
FailsFollowed skip kind shared failure split =
    (link : LinkValue) × LinksTo split link × FailsJoined skip kind link shared (without_link split) failure

-- the bytes aren't read, or those of the shared index, or both can't be joined
abbrev pub FailBoth : Bool → Kind → List ℕ → List ℕ → Failure → Type 0
FailBoth skip kind bytes shared failure =
    FailsOwn skip kind bytes failure ⊎ IsReadSo skip kind bytes (FailsFollowed skip kind shared failure)
