-- What the loops of a walk over trees have done so far.
use Rattle.std.specs.Prelude.{◌≡◌, ℕ, List, [], ◌++◌, Bool, Option, Ok}
use Rattle.index_parts.specs.Object.{Found}
use Rattle.index_parts.specs.declared.hash.Kind.{Kind}
use Rattle.index_parts.specs.declared.hash.ObjectId.{ObjectId}
use Rattle.tree_decode.specs.Leaves.{LeavesAnswer, Yields, with_leaves, whole_tree}
use Rattle.tree_decode.specs.LeafSteps.{EntriesComeTo, IsSomeTree, IsSoundWalk, WalkComesTo, listed_records}
use Rattle.tree_decode.specs.declared.walk.Listed.{Listed}
use Rattle.tree_decode.specs.declared.walk.Walk.{Walk}

-- Some of these bytes are listed. What those that are left come to is what all come to.
pub record IsListing (check : List ℕ → Bool → Option ℕ) (kind : Kind) (old now : Listed)
    (prefix bytes left : List ℕ) : Type 0 where
  pub passed : List ℕ
  pub parts : bytes ≡ passed ++ left
  pub whole : IsSomeTree kind left
  pub leads : (find : ObjectId → Found) (n : ℕ) (r : LeavesAnswer)
      → EntriesComeTo find check kind (Ok (listed_records now, n)) prefix left r
      → EntriesComeTo find check kind (Ok (listed_records old, n)) prefix bytes r

-- A traversal from a tree reaches the tree with this id, with a number of objects that may still be read. The listing
-- of that tree and of the others is the listing of the first.
pub record IsUnderWay (find : ObjectId → Found) (check : List ℕ → Bool → Option ℕ) (kind : Kind) (root : ObjectId)
    (most n : ℕ) (w : Walk) (next : ObjectId) : Type 0 where
  pub sound : IsSoundWalk kind w
  pub leads : (x r : LeavesAnswer) → Yields find check kind n (whole_tree w.listed.path.items next) x
      → WalkComesTo find check kind w (with_leaves (listed_records w.listed) x) r
      → Yields find check kind most (whole_tree [] root) r
