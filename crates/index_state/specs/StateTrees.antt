-- A state that is made from a tree, and the trees that are made from a state ("Pro Git", "Git Objects"; git-write-tree;
-- gitformat-index, "Cache tree").
use Rattle.std.specs.Prelude.{◌≡◌, ℕ, ◌<◌, ◌^◌, [], Option, Some, Ok, Err, IfSome, MatchOption, flat_map, length}
use Rattle.index_parts.specs.Id.{id_kind}
use Rattle.index_parts.specs.declared.hash.ObjectId.{ObjectId}
use Rattle.entry_fields.specs.declared.entry.stat.FileTime.{FileTime}
use Rattle.index_parts.specs.Object.{Found}
use Rattle.ext_tree.specs.Tree.{node_of}
use Rattle.ext_tree.specs.declared.Tree.{Tree}
use Rattle.entry_list.specs.Order.{IsStrictlyOrdered}
use Rattle.entry_list.specs.TreeOrder.{AreGitOrdered}
use Rattle.index_model.specs.Storable.{IsStorable}
use Rattle.tree_decode.specs.Leaves.{AreLeaves, LeavesCause}
use Rattle.tree_decode.specs.declared.error.Error.{Error as ReadingError}
use Rattle.tree_encode.specs.Cached.{IsCached}
use Rattle.tree_encode.specs.Directory.{HoldsFirst, IsTreeOf, DirectoryItems, objects}
use Rattle.tree_encode.specs.Objects.{Taken, with_objects}
use Rattle.tree_encode.specs.Refusals.{AreFit, AreRefused, NameCheck, TreesFaultCause}
use Rattle.tree_encode.specs.Staged.{merged_in, staged_in}
use Rattle.tree_encode.specs.TreeIds.{AreRight, TreeIdsCause, any_name}
use Rattle.tree_encode.specs.declared.error.Error.{Error as WritingError}
use Rattle.tree_encode.specs.declared.tree_ids.Error.{Error as IdsError}
use Rattle.index_state.specs.Edits.{empty_contents, with_records}
use Rattle.index_state.specs.State.{PathsInStorage, contents, records, storage_of}
use Rattle.index_state.specs.declared.State.{State}

-- ---- a state from a tree

-- The records are the leaves of the tree, read with at most `most` objects, and there is nothing else. They strictly
-- increase if the trees have git's order.
pub record IsOfTree (found : ObjectId → Found) (check : NameCheck) (tree : ObjectId) (most : ℕ) (time : FileTime) (s : State)
    : Type 0 where
  pub leaves : AreLeaves found check tree most (Ok (records s))
  pub others : contents s ≡ with_records (empty_contents (id_kind tree) time) (records s)
  pub storage : storage_of s ≡ flat_map (λ r. r.path) (records s)
  pub placed : PathsInStorage s
  pub storable : IsStorable (contents s)
  pub ordered : AreGitOrdered found (id_kind tree) tree → IsStrictlyOrdered (records s)

-- the error is the reason for which the tree has no leaves
abbrev pub ReadTreeCause : (ObjectId → Found) → NameCheck → ObjectId → ℕ → ReadingError → Type 0
ReadTreeCause found check tree most e = LeavesCause e (λ f. AreLeaves found check tree most (Err f))

-- ---- trees from a state

-- a sink holds the objects of the entries after what it held before, and this is the cache tree for them
abbrev pub StoresTrees : State → Taken → Taken → Tree → Type 0
StoresTrees s old new t =
    (items : DirectoryItems) × IsTreeOf (contents s).kind (staged_in (records s)) items
    × IsCached (contents s).kind [] items (node_of t) × (new ≡ with_objects old (objects (contents s).kind items))

-- the sink holds the first objects, and never the root
abbrev pub StoresFirst : State → Taken → Taken → Type 0
StoresFirst s old new = HoldsFirst (contents s).kind (staged_in (records s)) old new

-- The error is one of the sink, or the reason for which the entries have no trees. In the latter case nothing else has
-- changed.
abbrev pub WriteTreesCause : NameCheck → State → Option ℕ → Type 0 → WritingError → Type 0
WriteTreesCause check s fault same e =
    TreesFaultCause e (λ n. fault ≡ Some n) (λ f. AreRefused check (contents s).kind (records s) f × same)

-- ---- the cache tree of a state, if it has one, compared with its entries

abbrev pub HasRightIds : State → Type 0
HasRightIds s = IfSome (contents s).extensions.tree (AreRight (contents s).kind (records s))

abbrev pub HasFitEntries : State → Type 0
HasFitEntries s =
    IfSome (contents s).extensions.tree (λ _. AreFit any_name (contents s).kind (merged_in (records s)))

abbrev pub HasFewEntries : State → Type 0
HasFewEntries s = IfSome (contents s).extensions.tree (λ _. length (merged_in (records s)) < 2 ^ 31)

-- there is a cache tree, and the error is the first difference
abbrev pub TreeIdsErrorCause : State → IdsError → Type 0
TreeIdsErrorCause s e =
    MatchOption (contents s).extensions.tree ⊥ (λ t. TreeIdsCause (contents s).kind (records s) t e)
