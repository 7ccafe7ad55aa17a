-- The results of the steps of saving entries (the library's own). Public clauses cite none of these.
use Rattle.std.specs.Prelude.{◌≡◌, ◌≢◌, ◌≤◌, ◌<◌, ◌-◌, ℕ, List, [], Bool, Option, Some, None, All, length, take, slice_index_or}
use Rattle.std.specs.List.{HoldsAt}
use Rattle.std.specs.declared.cmp.Ordering.TheVariants.{Less}
use Rattle.gix_index.specs.Contents.{Contents}
use Rattle.gix_index.specs.Edits.{empty_contents, refit}
use Rattle.gix_index.specs.EntryType.{Entry}
use Rattle.gix_index.specs.FileTime.{FileTime}
use Rattle.gix_index.specs.Kind.{Kind}
use Rattle.gix_index.specs.Link.{LinkValue}
use Rattle.gix_index.specs.Order.{record_cmp}
use Rattle.gix_index.specs.Record.{IsPlaced, Record, records_in}
use Rattle.gix_index.specs.Sorted.{IsFall, IsOrdered}
use Rattle.gix_index.specs.State.{PathsInStorage, contents, records}
use Rattle.gix_index.specs.StateType.{State}
use Rattle.gix_index.specs.Storable.{IsStorable}
use Rattle.view_salvage.specs.Remains.{IsPlainIndex, with_mark}
use Rattle.view_salvage.specs.Accepted.{record_fault}
use Rattle.view_salvage.specs.Choice.{IsSortedSelection}
use Rattle.view_salvage.specs.Salvage.{IsCompleted}
use Rattle.view_salvage.specs.declared.salvage.Completed.{Completed}

-- An index with only these entries, which may be marked as sparse. A file can store it.
pub record IsIndexOf (kind : Kind) (rs : List Record) (s : State) : Type 0 where
  pub time : FileTime
  pub sparse : Bool
  pub fit : Bool
  pub is : contents s ≡ with_mark (refit (empty_contents kind time) rs fit) sparse
  pub placed : PathsInStorage s
  pub storable : IsStorable (contents s)

-- If the old state is an index of its entries, so is the new one, with the hash algorithm of the old one.
abbrev pub StaysIndex : State → State → Type 0
StaysIndex old new = IsIndexOf (contents old).kind (records old) old → IsIndexOf (contents old).kind (records new) new

-- An index of the entries of a file became one of the entries from which to select, with the same hash algorithm.
pub record Completes (link : Option LinkValue) (found : Bool) (shared : Option Contents) (own : State) (c : Completed)
    : Type 0 where
  pub is : IsCompleted link found shared (records own) (records c.state) c.shared
  pub same_kind : (contents c.state).kind ≡ (contents own).kind
  pub index : IsPlainIndex own → IsIndexOf (contents own).kind (records c.state) c.state

-- Completion with a link that was read and a shared index that is given, whether or not a link was found.
abbrev pub CompletesWith : LinkValue → Contents → State → Completed → Type 0
CompletesWith link shared own c = (found : Bool) → Completes (Some link) found (Some shared) own c

-- If entries are in order, those to save are left.
abbrev pub LeavesFirsts : List ℕ → List Entry → List Entry → Type 0
LeavesFirsts storage old new = IsOrdered (records_in storage old)
    → IsSortedSelection (records_in storage old) (records_in storage new)

-- If the paths of the old entries are in a storage, so are those of the new ones.
abbrev pub KeepPlaced : List ℕ → List Entry → List Entry → Type 0
KeepPlaced storage old new = All (IsPlaced (length storage)) old → All (IsPlaced (length storage)) new

-- The record at index `place` has a path, and is greater than the last of the first `kept` ones.
abbrev pub IsAbove : List Record → ℕ → ℕ → Type 0
IsAbove rs kept place = (d : Record) → ((slice_index_or rs place d).path ≢ [])
    × (0 < kept → record_cmp (slice_index_or rs (kept - 1) d) (slice_index_or rs place d) ≡ Less)

-- Git works with the record at an index, and it is greater than the one before it.
abbrev pub IsFitAt : Kind → List Record → ℕ → Type 0
IsFitAt kind rs place = HoldsAt (λ r. record_fault kind r ≡ None) rs place × (IsFall rs place → ⊥)

-- The first `kept` records of the list are those to save of the records before index `place`. Those after them are
-- unchanged.
pub record AreKept (rs : List Record) (place : ℕ) (now : List Record) (kept : ℕ) : Type 0 where
  pub few : kept ≤ place
  pub same_length : length now ≡ length rs
  pub saved : IsSortedSelection (take place rs) (take kept now)
  pub behind : (k : ℕ) (d : Record) → place ≤ k → slice_index_or now k d ≡ slice_index_or rs k d
