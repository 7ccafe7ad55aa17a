-- The contracts of the calls that list the leaves of a tree (the library's own).
use Rattle.std.specs.Prelude.{◌≡◌, ℕ, ◌++◌, [], ◌∷◌, List, Bool, Option, Result, Ok, Err, IfErr, IfOk, flat_map, take}
use Rattle.entry_list.specs.Held.{Held}
use Rattle.entry_list.specs.Order.{IsStrictlyOrdered}
use Rattle.entry_list.specs.TreeOrder.{AreGitOrdered}
use Rattle.index_parts.specs.Object.{Found}
use Rattle.index_parts.specs.declared.object.tree.EntryKind.{EntryKind}
use Rattle.index_parts.specs.Id.{id_kind}
use Rattle.index_parts.specs.declared.hash.Kind.{Kind}
use Rattle.index_parts.specs.declared.hash.ObjectId.{ObjectId}
use Rattle.tree_decode.specs.Leaves.{AreLeaves, LeavesCause}
use Rattle.tree_decode.specs.LeafSteps.{IsRefusedName, ListsFault, WalkHasFault, last_leaf, listed_records}
use Rattle.tree_decode.specs.declared.error.Error.{Error}
use Rattle.tree_decode.specs.declared.walk.Listed.{Listed}
use Rattle.tree_decode.specs.declared.walk.Walk.{Walk}

-- The leaves of a tree, with their paths one after another, or the first error, if at most `most` objects may be read.
-- The leaves strictly increase if all reachable trees are in git's order.
pub record GivesLeaves (find : ObjectId → Found) (check : List ℕ → Bool → Option ℕ) (tree : ObjectId) (most : ℕ)
    (result : Result Held Error) : Type 0 where
  pub leaves : IfOk result (λ l. AreLeaves find check tree most (Ok l.records))
  pub packed : IfOk result (λ l. l.storage ≡ flat_map (λ r. r.path) l.records)
  pub ordered : IfOk result (λ l. AreGitOrdered find (id_kind tree) tree → IsStrictlyOrdered l.records)
  pub fault : IfErr result (λ e. LeavesCause e (λ f. AreLeaves find check tree most (Err f)))

-- ---- steps

-- a leaf with the current path is appended
abbrev pub PushesLeaf : ObjectId → EntryKind → Listed → Listed → Type 0
PushesLeaf id kind old new = listed_records new ≡ listed_records old ++ last_leaf old.path.items id kind ∷ []

-- the first `len` bytes of the path are unchanged
abbrev pub KeepsPrefix : ℕ → Listed → Listed → Type 0
KeepsPrefix len old new = take len new.path.items ≡ take len old.path.items

-- ---- what an error implies

-- the last name of a path is rejected
abbrev pub RejectedNameCause : (List ℕ → Bool → Option ℕ) → List ℕ → List ℕ → EntryKind → Error → Type 0
RejectedNameCause check path name kind e = LeavesCause e (IsRefusedName check path name kind)

-- the error of these bytes, whose names follow the first `len` bytes of the path
abbrev pub TreeCause : (List ℕ → Bool → Option ℕ) → Kind → ℕ → Listed → List ℕ → Error → Type 0
TreeCause check kind len listed bytes e = LeavesCause e (ListsFault check kind listed (take len listed.path.items)
    bytes)

-- the error of a traversal
abbrev pub WalkCause : (List ℕ → Bool → Option ℕ) → Kind → Walk → Error → Type 0
WalkCause check kind walk e = LeavesCause e (WalkHasFault check kind walk)
