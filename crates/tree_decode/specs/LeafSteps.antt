-- The effects of the steps of a traversal of trees ("Pro Git", "Git Objects"). Public clauses cite none of these.
use Rattle.std.specs.Prelude.{◌≡◌, ℕ, ◌≤◌, List, [], ◌∷◌, ◌++◌, Bool, Option, Some, None, Ok, Err, flat_map, take, drop}
use Rattle.std.specs.Prelude.{length}
use Rattle.index_parts.specs.Mode.{mode_of_kind}
use Rattle.index_parts.specs.Object.{Found}
use Rattle.index_parts.specs.TreeObject.{TreeEntry, IsTreeObject}
use Rattle.index_parts.specs.declared.hash.Kind.{Kind}
use Rattle.index_parts.specs.declared.hash.ObjectId.{ObjectId}
use Rattle.index_parts.specs.declared.object.tree.EntryKind.{EntryKind}
use Rattle.entry_list.specs.Record.{Record}
use Rattle.index_parts.specs.NameCheck.{refusal_as}
use Rattle.tree_decode.specs.Leaves.{LeavesAnswer, LeavesFault, InvalidComponent, Yields, zero_stat, with_leaves}
use Rattle.tree_decode.specs.Leaves.{some_entries, whole_tree}
use Rattle.tree_decode.specs.declared.walk.Level.{Level}
use Rattle.tree_decode.specs.declared.walk.Listed.{Listed}
use Rattle.tree_decode.specs.declared.walk.Next.{Next}
use Rattle.tree_decode.specs.declared.walk.Walk.{Walk}

-- bytes are a tree's object
abbrev pub IsSomeTree : Kind → List ℕ → Type 0
IsSomeTree kind bytes = (es : List TreeEntry) × IsTreeObject kind bytes es

-- ---- what is listed

abbrev pub listed_records : Listed → List Record
listed_records l = l.leaves.records

-- the storage is exactly all paths, one after another
abbrev pub IsPacked : Listed → Type 0
IsPacked l = l.leaves.storage ≡ flat_map (λ r. r.path) (listed_records l)

-- a leaf with this path
abbrev pub last_leaf : List ℕ → ObjectId → EntryKind → Record
last_leaf path id kind = record { path = path; stat = zero_stat; id = id; flags = 0; mode = mode_of_kind kind }

-- the error of a rejected name, with the path that ends with it
abbrev pub IsRefusedName : (List ℕ → Bool → Option ℕ) → List ℕ → List ℕ → EntryKind → LeavesFault → Type 0
IsRefusedName check path name kind f =
    (number : ℕ) × (refusal_as check name kind ≡ Some number) × (f ≡ InvalidComponent path number)

-- ---- what is still to be listed

-- The listing of the leaves so far, followed by the entries that bytes contain. An error so far is unchanged.
abbrev pub EntriesComeTo : (ObjectId → Found) → (List ℕ → Bool → Option ℕ) → Kind → LeavesAnswer → List ℕ → List ℕ
    → LeavesAnswer → Type 0
EntriesComeTo find check kind (Ok x) prefix bytes r =
    (es : List TreeEntry) × (more : LeavesAnswer) × IsTreeObject kind bytes es
    × Yields find check kind x.1 (some_entries prefix es) more × (r ≡ with_leaves x.0 more)
EntriesComeTo find check kind (Err f) prefix bytes r = r ≡ Err f

-- the bytes of a tree that haven't been listed
abbrev pub unlisted : Level → List ℕ
unlisted l = drop l.at l.bytes.items

-- the listing of the leaves so far, followed by the open trees, of which the last is listed first
abbrev pub LevelsComeTo : (ObjectId → Found) → (List ℕ → Bool → Option ℕ) → Kind → List ℕ → LeavesAnswer → List Level
    → LeavesAnswer → Type 0
LevelsComeTo find check kind path so_far [] r = r ≡ so_far
LevelsComeTo find check kind path so_far (l ∷ ls) r =
    (inner : LeavesAnswer) × LevelsComeTo find check kind path so_far ls inner
    × EntriesComeTo find check kind inner (take l.prefix_len path) (unlisted l) r

-- a tree was read completely, and its unlisted bytes are a tree too
pub record IsReadLevel (kind : Kind) (l : Level) : Type 0 where
  pub inside : l.at ≤ length l.bytes.items
  pub whole : IsSomeTree kind (unlisted l)

-- The open trees are valid, and the lengths of their prefixes don't decrease, from a first length up to a last one.
abbrev pub Rise : Kind → ℕ → List Level → ℕ → Type 0
Rise kind low [] high = low ≤ high
Rise kind low (l ∷ ls) high = (low ≤ l.prefix_len) × IsReadLevel kind l × Rise kind l.prefix_len ls high

-- ---- steps over the entries of a tree

-- after these bytes everything is listed
abbrev pub ListsAll : (List ℕ → Bool → Option ℕ) → Kind → Listed → Listed → List ℕ → List ℕ → Type 0
ListsAll check kind old new prefix bytes =
    (find : ObjectId → Found) (n : ℕ)
    → EntriesComeTo find check kind (Ok (listed_records old, n)) prefix bytes (Ok (listed_records new, n))

-- The listing reaches an entry of a tree, which is read next. As many of these bytes are left after it as `next` has.
-- The listing of that tree and of the rest is the listing of all.
pub record ListsUpTo (check : List ℕ → Bool → Option ℕ) (kind : Kind) (old new : Listed) (prefix bytes : List ℕ)
    (next : Next) : Type 0 where
  pub passed : List ℕ
  pub rest : List ℕ
  pub parts : bytes ≡ passed ++ rest
  pub left : next.left ≡ length rest
  pub whole : IsSomeTree kind rest
  pub leads : (find : ObjectId → Found) (n : ℕ) (x r : LeavesAnswer)
      → Yields find check kind n (whole_tree new.path.items next.id) x
      → EntriesComeTo find check kind (with_leaves (listed_records new) x) prefix rest r
      → EntriesComeTo find check kind (Ok (listed_records old, n)) prefix bytes r

abbrev pub ListsOn : (List ℕ → Bool → Option ℕ) → Kind → Listed → Listed → List ℕ → List ℕ → Option Next → Type 0
ListsOn check kind old new prefix bytes None = ListsAll check kind old new prefix bytes
ListsOn check kind old new prefix bytes (Some next) = ListsUpTo check kind old new prefix bytes next

-- the error of these bytes
abbrev pub ListsFault : (List ℕ → Bool → Option ℕ) → Kind → Listed → List ℕ → List ℕ → LeavesFault → Type 0
ListsFault check kind old prefix bytes f =
    (find : ObjectId → Found) (n : ℕ) → EntriesComeTo find check kind (Ok (listed_records old, n)) prefix bytes (Err f)

-- ---- steps from one tree that is read to the next

-- the listing of the leaves so far, followed by the open trees of a traversal
abbrev pub WalkComesTo : (ObjectId → Found) → (List ℕ → Bool → Option ℕ) → Kind → Walk → LeavesAnswer → LeavesAnswer
    → Type 0
WalkComesTo find check kind w so_far r = LevelsComeTo find check kind w.listed.path.items so_far w.levels.items r

-- the storage and the open trees of a traversal are valid
pub record IsSoundWalk (kind : Kind) (w : Walk) : Type 0 where
  pub packed : IsPacked w.listed
  pub rise : Rise kind 0 w.levels.items (length w.listed.path.items)

-- a traversal reaches the end
abbrev pub Ends : (List ℕ → Bool → Option ℕ) → Kind → Walk → Walk → Type 0
Ends check kind old new =
    (find : ObjectId → Found) (n : ℕ)
    → WalkComesTo find check kind old (Ok (listed_records old.listed, n)) (Ok (listed_records new.listed, n))

-- A traversal reaches the tree with this id. The listing of that tree and of the rest is the listing of all.
pub record Reaches (check : List ℕ → Bool → Option ℕ) (kind : Kind) (old new : Walk) (id : ObjectId) : Type 0 where
  pub sound : IsSoundWalk kind new
  pub leads : (find : ObjectId → Found) (n : ℕ) (x r : LeavesAnswer)
      → Yields find check kind n (whole_tree new.listed.path.items id) x
      → WalkComesTo find check kind new (with_leaves (listed_records new.listed) x) r
      → WalkComesTo find check kind old (Ok (listed_records old.listed, n)) r

abbrev pub EndsOrReaches : (List ℕ → Bool → Option ℕ) → Kind → Walk → Walk → Option ObjectId → Type 0
EndsOrReaches check kind old new None = Ends check kind old new
EndsOrReaches check kind old new (Some id) = Reaches check kind old new id

-- the error of a traversal
abbrev pub WalkHasFault : (List ℕ → Bool → Option ℕ) → Kind → Walk → LeavesFault → Type 0
WalkHasFault check kind old f =
    (find : ObjectId → Found) (n : ℕ) → WalkComesTo find check kind old (Ok (listed_records old.listed, n)) (Err f)

-- a tree is opened: its names follow the path
pub record BeginsTree (old new : Walk) (object : List ℕ) : Type 0 where
  pub level : Level
  pub levels : new.levels.items ≡ old.levels.items ++ level ∷ []
  pub listed : new.listed ≡ old.listed
  pub prefix_len : level.prefix_len ≡ length old.listed.path.items
  pub inside : level.at ≤ length level.bytes.items
  pub bytes : unlisted level ≡ object
