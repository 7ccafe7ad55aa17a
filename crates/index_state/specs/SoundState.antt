-- The errors for entries that aren't in order, and for an inconsistent cache tree (gitformat-index, "Index entries are
-- sorted in ascending order", "Cache tree").
use Rattle.std.specs.Prelude.{◌≡◌, ℕ, ◌-◌, List, length, slice_index_or, Option, Some, None, IfSome, Result, Ok, Err, IsOk}
use Rattle.bstr.specs.Owned.{bstring_bytes}
use Rattle.entry_fields.specs.Flags.{stage_of}
use Rattle.ext_tree.specs.Agreement.{Trees, Agrees, AreStoredTrees}
use Rattle.ext_tree.specs.Sound.{IsSoundTree, CountsAtMost}
use Rattle.ext_tree.specs.Tree.{Node}
use Rattle.index_extensions.specs.ExtensionValue.{option_or}
use Rattle.ext_tree.specs.TreeFaults.{TreeFault, first_fault, excess_in, NodeOrMemoryCause, NodeCause}
use Rattle.ext_tree.specs.declared.verify.Error.{Error as TreeError}
use Rattle.entry_list.specs.Order.{IsStrictlyOrdered}
use Rattle.entry_list.specs.Record.{Record}
use Rattle.entry_list.specs.Sorted.{IsFirstFall}
use Rattle.index_parts.specs.Object.{Found}
use Rattle.index_parts.specs.declared.hash.ObjectId.{ObjectId}
use Rattle.index_state.specs.State.{contents, entries_of}
use Rattle.index_state.specs.declared.State.{State}
use Rattle.index_state.specs.declared.verify.entries.Error.{Error}
use Rattle.index_state.specs.declared.verify.entries.Error.TheVariants.{OutOfOrder, Memory}

-- the error has this index, and the paths and stages of two records: the one before it, and its own
abbrev pub NamesBoth : ℕ → Record → Record → Error → Type 0
NamesBoth place previous current (OutOfOrder index path stage previous_path previous_stage) =
    (index ≡ place) × (bstring_bytes path ≡ current.path) × (stage ≡ stage_of current.flags)
    × (bstring_bytes previous_path ≡ previous.path) × (previous_stage ≡ stage_of previous.flags)
NamesBoth place previous current Memory = ⊥

-- The error names the first index at which the records don't increase, with its record and the one before it. An
-- allocation failure occurs only if there is such an index.
abbrev pub OrderCause : List Record → Error → Type 0
OrderCause rs (OutOfOrder index path stage previous_path previous_stage) =
    IsFirstFall rs (Some index)
    × ((d : Record)
    → NamesBoth index (slice_index_or rs (index - 1) d) (slice_index_or rs index d)
    (OutOfOrder index path stage previous_path previous_stage))
OrderCause rs Memory = IsStrictlyOrdered rs → ⊥

-- ---- extensions

-- the cache tree, if there is one, is consistent, and no node of it counts more than `entries`
abbrev pub AreSoundExtensions : ℕ → Option Node → Type 0
AreSoundExtensions entries tree = IfSome tree (λ t. IsSoundTree t × CountsAtMost entries t)

-- the first error of the tree, with a store's trees if these are read, or else the first node in preorder that counts
-- more than `entries`
abbrev pub extensions_fault : ℕ → Option Trees → Option Node → Option TreeFault
extensions_fault entries looked None = None
extensions_fault entries looked (Some t) = option_or (first_fault looked t) (excess_in entries t)

-- The result if a store's trees are read. `Ok`: the cache tree agrees with them too. An error is the first one, or an
-- allocation failure for an object. Without a cache tree there is no error.
abbrev pub JudgesExtensions : ℕ → Trees → Option Node → Result (Unit {0}) TreeError → Type 0
JudgesExtensions entries trees None r = IsOk r
JudgesExtensions entries trees (Some t) (Ok u) = AreSoundExtensions entries (Some t) × Agrees trees t
JudgesExtensions entries trees (Some t) (Err e) = NodeOrMemoryCause e (extensions_fault entries (Some trees) (Some t))

-- the cache tree of a state, if there is one, is consistent, and no node of it counts more entries than the state has
abbrev pub HasSoundTree : State → Type 0
HasSoundTree s = AreSoundExtensions (length (entries_of s)) (contents s).extensions.tree

abbrev pub TreeCheckCause : State → TreeError → Type 0
TreeCheckCause s e = NodeCause e (extensions_fault (length (entries_of s)) None (contents s).extensions.tree)

abbrev pub JudgesTree : (ObjectId → Found) → State → Result (Unit {0}) TreeError → Type 0
JudgesTree found s r =
    (trees : Trees) × AreStoredTrees found trees
    × JudgesExtensions (length (entries_of s)) trees (contents s).extensions.tree r
