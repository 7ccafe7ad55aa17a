-- The state of a split index after its link is dissolved (gitformat-index, "Split index").
use Rattle.std.specs.Prelude.{◌≡◌, List, ℕ, true, codes, Option, Some, None, IsSome, IfSome, Result, IfErr, IsOk, OnOk, OnErr}
use Rattle.ext_split.specs.Merge.{IsMerge, IsMergeFault}
use Rattle.ext_split.specs.declared.link.decode.Error.{Error}
use Rattle.ext_split.specs.Link.{BitmapPair, LinkFault, Corrupt, LinkValue, link_fault}
use Rattle.entry_list.specs.Record.{IdsAreOf}
use Rattle.index_parts.specs.declared.hash.Kind.{Kind}
use Rattle.index_state.specs.Edits.{IsUnchanged}
use Rattle.index_model.specs.Contents.{Contents}
use Rattle.index_state.specs.State.{PathsInStorage, contents, entries_of}
use Rattle.index_model.specs.Storable.{IsStorable}
use Rattle.index_state.specs.declared.State.{State}

-- The records are those of the shared index and its own, merged by the bitmaps. The extensions match them. Everything
-- else is unchanged.
pub record IsMerged (b : BitmapPair) (shared old new : Contents) : Type 0 where
  pub is : IsMerge b.delete.words b.replace.words shared.records old.records new.records
  pub others : new ≡ record old { records = new.records; fit = true }

-- without bitmaps nothing changes
abbrev pub MergesBy : Option BitmapPair → Contents → Contents → Contents → Type 0
MergesBy None shared old new = new ≡ old
MergesBy (Some b) shared old new = IsMerged b shared old new

-- the shared index has no link of its own, and the split one is merged into it
pub record IsDissolved (l : LinkValue) (shared old new : Contents) : Type 0 where
  pub alone : shared.extensions.link ≡ None
  pub merged : MergesBy l.bitmaps shared old new

-- the first error of a link between two indexes: the shared one has a link too, or a bitmap doesn't match them
pub data IsDissolveFault (l : LinkValue) (shared split : Contents) (fault : LinkFault) : Type 0 where
  nested : IsSome shared.extensions.link → fault ≡ Corrupt (codes "shared index has a link of its own")
      → IsDissolveFault l shared split fault
  broken : (b : BitmapPair) (text : List ℕ) → shared.extensions.link ≡ None → l.bitmaps ≡ Some b
      → IsMergeFault b.delete.words b.replace.words shared.records split.records text → fault ≡ Corrupt text
      → IsDissolveFault l shared split fault

-- an error represents the first error of the link; an allocation failure implies nothing
abbrev pub DissolveCause : Error → LinkValue → Contents → Contents → Type 0
DissolveCause e l shared split = IfSome (link_fault e) (IsDissolveFault l shared split)

-- The split index after it was merged by a link and a shared index. An `Ok` means that both are merged. An error
-- represents the first error, and nothing is changed. The split index's paths are appended to those of the shared one,
-- which are unchanged if each is inside its storage.
pub record Dissolves (l : LinkValue) (shared old new : State) (r : Result (Unit {0}) Error) : Type 0 where
  pub dissolved : OnOk r (PathsInStorage shared → IsDissolved l (contents shared) (contents old) (contents new))
  pub without_bitmaps : l.bitmaps ≡ None → IsUnchanged old new
  pub no_memory : l.bitmaps ≡ None → (contents shared).extensions.link ≡ None → IsOk r
  pub placed : PathsInStorage old → PathsInStorage shared → PathsInStorage new
  pub ids : PathsInStorage shared → (kind : Kind) → IdsAreOf kind (entries_of old) → IdsAreOf kind (entries_of shared)
      → IdsAreOf kind (entries_of new)
  pub storable : PathsInStorage shared → IsStorable (contents old) → IsStorable (contents shared)
      → (contents shared).kind ≡ (contents old).kind → IsStorable (contents new)
  pub fault : IfErr r (λ e. DissolveCause e l (contents shared) (contents old))
  pub unchanged : OnErr r (IsUnchanged old new)
