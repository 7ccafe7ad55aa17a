-- The objects in a store, and the list that is read from them (git-read-tree).
use Rattle.std.specs.Prelude.{◌≡◌, ◌≢◌, ℕ, ◌≤◌, List, All, Bool, not, Option, Some, None, Result, Ok, filter, map}
use Rattle.std.specs.Prelude.{length}
use Rattle.index_parts.specs.Mode.{mode_of_kind}
use Rattle.index_parts.specs.NameCheck.{refusal_as}
use Rattle.index_parts.specs.Object.{Found, object}
use Rattle.index_parts.specs.declared.hash.Kind.{Kind}
use Rattle.index_parts.specs.declared.hash.ObjectId.{ObjectId}
use Rattle.index_parts.specs.declared.object.Kind.TheVariants as objects
use Rattle.index_parts.specs.declared.object.tree.EntryKind.TheVariants as kinds
use Rattle.entry_list.specs.Record.{Record}
use Rattle.tree_decode.specs.Leaves.{AreLeaves, LeavesFault, zero_stat}
use Rattle.tree_encode.specs.Directory as D
use Rattle.tree_encode.specs.Objects.{Taken, with_objects}
use Rattle.tree_encode.specs.Refusals.{AreFit, NameCheck}
use Rattle.tree_encode.specs.Staged.{Staged, staged_in}

-- A store has each of these trees by its id. If two of them had the same id and different bytes, no store would.
abbrev pub HoldsTrees : (ObjectId → Found) → List (ObjectId × List ℕ) → Type 0
HoldsTrees find written = All (λ o. find o.0 ≡ object objects.Tree o.1) written

-- the items that are in trees: all except intent-to-add entries
abbrev pub standing : List Staged → List Staged
standing ss = filter (λ s. not s.later) ss

-- the record that is listed for a leaf of a tree: its path, its id, and the mode of its `kind`
abbrev pub leaf_record : Staged → Record
leaf_record s = record { path = s.path; stat = zero_stat; id = s.id; flags = 0; mode = mode_of_kind s.kind }

-- ---- the names in a directory, by a check

-- the check accepts each name in the directory, with the type of its item, and each name below it
abbrev mutual
  pub ItemPasses : NameCheck → D.DirectoryItem → Type 0
  ItemPasses check (D.leaf name k id later) = refusal_as check name k ≡ None
  ItemPasses check (D.directory name items) = (refusal_as check name kinds.Tree ≡ None) × NamesPass check items

  pub NamesPass : NameCheck → D.DirectoryItems → Type 0
  NamesPass check D.no_more = Unit {0}
  NamesPass check (D.next x xs) = ItemPasses check x × NamesPass check xs

-- a check that accepts records also accepts each name in their directory
abbrev pub FitNamesPass : Type 0
FitNamesPass =
    (check : NameCheck) (kind : Kind) (rs : List Record) (items : D.DirectoryItems) → AreFit check kind rs
    → D.IsTreeOf kind (staged_in rs) items → NamesPass check items

-- ---- written and listed again

-- The list that is read from the root is that of the items in trees, under four premises. A store has the trees that
-- are written of a list, each by its id. No leaf represents a complete directory. The check accepts each name in them.
-- As many trees may be read as were written.
abbrev pub ReadsBack : Type 0
ReadsBack =
    (find : ObjectId → Found) (check : NameCheck) (kind : Kind) (staged : List Staged) (items : D.DirectoryItems) (most
    : ℕ)
    → D.IsTreeOf kind staged items → All (λ s. s.kind ≢ kinds.Tree) staged → HoldsTrees find (D.objects kind items)
    → NamesPass check items → length (D.objects kind items) ≤ most
    → AreLeaves find check (D.items_id kind items) most (Ok (map leaf_record (standing staged)))

-- The list that is read from the root is that of the records that were written. The records are valid for the check
-- with which they are listed. The store has each tree that it has taken: these and others before.
abbrev pub StoredReadBack : Type 0
StoredReadBack =
    (find : ObjectId → Found) (check : NameCheck) (kind : Kind) (rs : List Record) (items : D.DirectoryItems) (most : ℕ)
    (before : Taken) (taken : List (ObjectId × List ℕ))
    → AreFit check kind rs → D.IsTreeOf kind (staged_in rs) items → All (λ s. s.kind ≢ kinds.Tree) (staged_in rs)
    → with_objects before (D.objects kind items) ≡ Some taken → HoldsTrees find taken
    → length (D.objects kind items) ≤ most
    → AreLeaves find check (D.items_id kind items) most (Ok (map leaf_record (standing (staged_in rs))))

-- a list has at most one directory
abbrev pub HasOneTree : Type 0
HasOneTree =
    (kind : Kind) (staged : List Staged) (x y : D.DirectoryItems) → D.IsTreeOf kind staged x
    → D.IsTreeOf kind staged y → x ≡ y

-- ---- the list that is read from a root

-- there are leaves or a first error, for all objects in a store, all results of a check, and each limit on objects
abbrev pub AllHaveListing : Type 0
AllHaveListing =
    (find : ObjectId → Found) (check : List ℕ → Bool → Option ℕ) (root : ObjectId) (most : ℕ)
    → (a : Result (List Record) LeavesFault) × AreLeaves find check root most a

-- there is at most one such answer
abbrev pub AllHaveOneListing : Type 0
AllHaveOneListing =
    (find : ObjectId → Found) (check : List ℕ → Bool → Option ℕ) (root : ObjectId) (most : ℕ)
    (a b : Result (List Record) LeavesFault) → AreLeaves find check root most a → AreLeaves find check root most b
    → a ≡ b
