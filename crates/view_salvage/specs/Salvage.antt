-- What is saved of a file that may be damaged: the entries that git works with, of the front of its entries. They
-- are merged with those of its shared index if that is possible (gitformat-index, "Split index", "Index entries are
-- sorted in ascending order").
use Rattle.std.specs.Prelude.{◌≡◌, Bool, true, false, List, length, Option, Some, None, IsSome, ◌⊎◌}
use Rattle.std.specs.Option.{option_map}
use Rattle.gix_index.specs.Contents.{Contents}
use Rattle.gix_index.specs.Dissolve.{IsDissolved, IsDissolveFault}
use Rattle.gix_index.specs.Edits.{with_records}
use Rattle.gix_index.specs.Id.{id_bytes, is_null}
use Rattle.gix_index.specs.Link.{LinkFault, LinkValue, link_of}
use Rattle.gix_index.specs.Record.{Record}
use Rattle.gix_index.specs.Sorted.{IsOrdered}
use Rattle.gix_index.specs.State.{PathsInStorage, contents, records}
use Rattle.gix_index.specs.StateType.{State}
use Rattle.gix_index.specs.Storable.{IsStorable}
use Rattle.view_salvage.specs.Choice.{IsKept, IsFirstUnfitOrNone, named_of}
use Rattle.view_salvage.specs.declared.chosen.Keep.{Keep}
use Rattle.view_salvage.specs.declared.chosen.Keep.TheVariants.{All}
use Rattle.view_salvage.specs.declared.remains.Remains.{Remains}
use Rattle.view_salvage.specs.declared.salvage.Salvaged.{Salvaged}
use Rattle.view_salvage.specs.declared.salvage.SharedEntries.{SharedEntries}
use Rattle.view_salvage.specs.declared.salvage.SharedEntries.TheVariants as fates

-- ---- with the shared index

-- This link was read, and names a shared index.
abbrev pub IsWanted : Option LinkValue → LinkValue → Type 0
IsWanted link l = (link ≡ Some l) × (is_null (id_bytes l.shared) ≡ false)

-- The entries from which those to save are selected, and what was done with those of the shared index. If one is wanted
-- and given, and the link can be dissolved, they are merged from its entries and the file's own. If one is missing, the
-- two don't match, or none is wanted, they are the file's own. A link may be found and not read.
pub data IsCompleted (link : Option LinkValue) (found : Bool) (shared : Option Contents) (own all : List Record)
    (fate : SharedEntries) : Type 0 where
  unlinked : link ≡ None → found ≡ false → all ≡ own → fate ≡ fates.Unlinked
      → IsCompleted link found shared own all fate
  unshared : (l : LinkValue) → link ≡ Some l → is_null (id_bytes l.shared) ≡ true → all ≡ own
      → fate ≡ fates.Unlinked → IsCompleted link found shared own all fate
  unread : link ≡ None → found ≡ true → all ≡ own → fate ≡ fates.Missing → IsCompleted link found shared own all fate
  absent : (l : LinkValue) → IsWanted link l → shared ≡ None → all ≡ own → fate ≡ fates.Missing
      → IsCompleted link found shared own all fate
  unfit : (l : LinkValue) (s v : Contents) (fault : LinkFault) → IsWanted link l → shared ≡ Some s
      → IsDissolveFault l s (with_records v own) fault → all ≡ own → fate ≡ fates.Missing
      → IsCompleted link found shared own all fate
  merged : (l : LinkValue) (s v : Contents) → IsWanted link l → shared ≡ Some s
      → IsDissolved l s (with_records v own) (with_records v all) → fate ≡ fates.Merged
      → IsCompleted link found shared own all fate

-- ---- when memory is allocated

-- A shared index is wanted and given, and is merged by the bitmaps of the link, because it has no link of its own.
pub record MergesByBitmaps (link : Option LinkValue) (shared : Option Contents) : Type 0 where
  pub l : LinkValue
  pub s : Contents
  pub wanted : IsWanted link l
  pub given : shared ≡ Some s
  pub bitmaps : IsSome l.bitmaps
  pub alone : s.extensions.link ≡ None

-- Entries are merged by bitmaps; or all that git works with are selected, and those of the file aren't in order.
abbrev pub MergesOrSorts : Keep → Remains → Option Contents → Type 0
MergesOrSorts keep r shared =
    MergesByBitmaps (option_map link_of r.link) shared ⊎ ((keep ≡ All) × (IsOrdered (records r.front) → ⊥))

-- ---- the result

-- A shared index has the hash algorithm of the split one, and a file can store it.
pub record CanBeShared (split shared : State) : Type 0 where
  pub same_kind : (contents shared).kind ≡ (contents split).kind
  pub placed : PathsInStorage shared
  pub storable : IsStorable (contents shared)

-- The entries that are checked. If those of the shared index are missing, they are those with a path, because each of
-- the others replaces an entry of the shared index.
abbrev pub looked_at : SharedEntries → List Record → List Record
looked_at fates.Missing all = named_of all
looked_at fates.Unlinked all = all
looked_at fates.Merged all = all

-- What remains of a file is merged with the shared index if one is given, and the saved entries are selected. The other
-- facts about the result.
pub record SalvagesRemains (keep : Keep) (r : Remains) (shared : Option Contents) (s : Salvaged) : Type 0 where
  pub all : List Record
  pub completed : IsCompleted (option_map link_of r.link) r.has_link shared (records r.front) all s.shared
  pub first : IsFirstUnfitOrNone (contents r.front).kind (looked_at s.shared all) s.first
  pub kept : IsKept keep (contents r.front).kind (looked_at s.shared all) s.first (records s.state)
  pub version : s.version ≡ r.version
  pub declared : s.declared ≡ r.declared
  pub read : s.read ≡ length (records r.front)
  pub fault : s.fault ≡ r.fault
