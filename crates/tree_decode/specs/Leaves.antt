-- The leaves of a tree in preorder, or the first error, over the objects of a store ("Pro Git", "Git Objects", on tree
-- objects).
use Rattle.std.specs.Prelude.{◌≡◌, ◌≢◌, ℕ, suc, List, [], ◌∷◌, ◌++◌, Bool, Option, Some, None, Result, Ok, Err}
use Rattle.bstr.specs.Owned.{bstring_bytes}
use Rattle.index_parts.specs.Id.{id_kind}
use Rattle.index_parts.specs.Mode.{mode_of_kind}
use Rattle.index_parts.specs.NameCheck.{refusal_as}
use Rattle.index_parts.specs.Object.{Found, absent, object, fault}
use Rattle.index_parts.specs.TreeObject.{TreeEntry, IsTreeObject, IsMalformedTree, kind_of_mode}
use Rattle.entry_fields.specs.declared.entry.stat.Stat.{Stat}
use Rattle.index_parts.specs.declared.hash.Kind.{Kind}
use Rattle.index_parts.specs.declared.hash.ObjectId.{ObjectId}
use Rattle.index_parts.specs.declared.object.Kind.{Kind as ObjectKind}
use Rattle.index_parts.specs.declared.object.Kind.TheVariants as objects
use Rattle.index_parts.specs.declared.object.tree.EntryKind.TheVariants as kinds
use Rattle.entry_list.specs.Record.{Record}
use Rattle.tree_decode.specs.declared.error.Error.{Error}
use Rattle.tree_decode.specs.declared.error.Error.TheVariants as errors
use Rattle.tree_decode.specs.declared.error.Traversal.{Traversal}
use Rattle.tree_decode.specs.declared.error.Traversal.TheVariants as traversals

-- the errors for which a tree has no list of leaves
pub data LeavesFault : Type 0 where
  TooManyObjects : LeavesFault
  NotFound : (id : ObjectId) → LeavesFault
  NotATree : (id : ObjectId) → LeavesFault
  Find : (id : ObjectId) (number : ℕ) → LeavesFault
  Malformed : (id : ObjectId) → LeavesFault
  InvalidComponent : (path : List ℕ) (number : ℕ) → LeavesFault

-- ---- a leaf

abbrev pub zero_stat : Stat
zero_stat =
    record {
      mtime = record { secs = 0; nsecs = 0 };
      ctime = record { secs = 0; nsecs = 0 };
      dev = 0;
      ino = 0;
      uid = 0;
      gid = 0;
      size = 0;
    }

-- The record of an entry that isn't a tree: its path after a prefix, its id, and the mode of its kind. Everything else
-- is 0.
abbrev pub leaf_of : List ℕ → TreeEntry → Record
leaf_of prefix e =
    record {
      path = prefix ++ e.name;
      stat = zero_stat;
      id = e.id;
      flags = 0;
      mode = mode_of_kind (kind_of_mode e.mode);
    }

-- ---- the result of a check of names

-- the number with which the check rejects an entry's name, if it does
abbrev pub leaf_rejection : (List ℕ → Bool → Option ℕ) → TreeEntry → Option ℕ
leaf_rejection check e = refusal_as check e.name (kind_of_mode e.mode)

-- ---- the leaves

-- the leaves, and the number of objects that may be read after them; or the first error
abbrev pub LeavesAnswer : Type 0
LeavesAnswer = Result (List Record × ℕ) LeavesFault

-- these leaves, followed by a listing
abbrev pub with_leaves : List Record → LeavesAnswer → LeavesAnswer
with_leaves rs (Ok x) = Ok (rs ++ x.0, x.1)
with_leaves rs (Err f) = Err f

-- A part that is listed: the tree with an id, or some entries of one. The prefix of all its paths is empty or ends in a
-- slash.
pub data Part : Type 0 where
  whole_tree : (prefix : List ℕ) (id : ObjectId) → Part
  some_entries : (prefix : List ℕ) (es : List TreeEntry) → Part

-- the error for an id whose tree can't be read
pub data IsUnreadTree (find : ObjectId → Found) (kind : Kind) (id : ObjectId) : LeavesFault → Type 0 where
  missing : find id ≡ absent → IsUnreadTree find kind id (NotFound id)
  failed : (number : ℕ) → find id ≡ fault number → IsUnreadTree find kind id (Find id number)
  other : (k : ObjectKind) (bytes : List ℕ) → find id ≡ object k bytes → k ≢ objects.Tree
      → IsUnreadTree find kind id (NotATree id)
  malformed : (bytes : List ℕ) → find id ≡ object objects.Tree bytes → IsMalformedTree kind bytes
      → IsUnreadTree find kind id (Malformed id)

-- The listing of a part, if a number of objects may be read. That limit is checked before the store is used. A tree is
-- read completely before its entries are listed. For each entry the name is checked first; then a leaf is listed, or a
-- tree read. Everything below a name comes before the next name.
pub data Yields (find : ObjectId → Found) (check : List ℕ → Bool → Option ℕ) (kind : Kind) : ℕ → Part → LeavesAnswer
    → Type 0 where
  limit : (prefix : List ℕ) (id : ObjectId) → Yields find check kind 0 (whole_tree prefix id) (Err TooManyObjects)
  unread : (n : ℕ) (prefix : List ℕ) (id : ObjectId) (f : LeavesFault) → IsUnreadTree find kind id f
      → Yields find check kind (suc n) (whole_tree prefix id) (Err f)
  opened : (n : ℕ) (prefix : List ℕ) (id : ObjectId) (bytes : List ℕ) (es : List TreeEntry) (r : LeavesAnswer)
      → find id ≡ object objects.Tree bytes → IsTreeObject kind bytes es
      → Yields find check kind n (some_entries prefix es) r → Yields find check kind (suc n) (whole_tree prefix id) r
  ended : (n : ℕ) (prefix : List ℕ) → Yields find check kind n (some_entries prefix []) (Ok ([], n))
  refused : (n : ℕ) (prefix : List ℕ) (e : TreeEntry) (es : List TreeEntry) (number : ℕ)
      → leaf_rejection check e ≡ Some number
      → Yields find check kind n (some_entries prefix (e ∷ es)) (Err (InvalidComponent (prefix ++ e.name) number))
  leaf : (n : ℕ) (prefix : List ℕ) (e : TreeEntry) (es : List TreeEntry) (r : LeavesAnswer)
      → leaf_rejection check e ≡ None
      → kind_of_mode e.mode ≢ kinds.Tree
      → Yields find check kind n (some_entries prefix es) r
      → Yields find check kind n (some_entries prefix (e ∷ es)) (with_leaves (leaf_of prefix e ∷ []) r)
  below : (n left : ℕ) (prefix : List ℕ) (e : TreeEntry) (es : List TreeEntry) (rs : List Record) (r : LeavesAnswer)
      → leaf_rejection check e ≡ None → kind_of_mode e.mode ≡ kinds.Tree
      → Yields find check kind n (whole_tree (prefix ++ e.name ++ 47 ∷ []) e.id) (Ok (rs, left))
      → Yields find check kind left (some_entries prefix es) r
      → Yields find check kind n (some_entries prefix (e ∷ es)) (with_leaves rs r)
  stopped : (n : ℕ) (prefix : List ℕ) (e : TreeEntry) (es : List TreeEntry) (f : LeavesFault)
      → leaf_rejection check e ≡ None → kind_of_mode e.mode ≡ kinds.Tree
      → Yields find check kind n (whole_tree (prefix ++ e.name ++ 47 ∷ []) e.id) (Err f)
      → Yields find check kind n (some_entries prefix (e ∷ es)) (Err f)

-- the leaves of a tree, or the first error, if at most `most` objects may be read
abbrev pub AreLeaves : (ObjectId → Found) → (List ℕ → Bool → Option ℕ) → ObjectId → ℕ → Result (List Record) LeavesFault
    → Type 0
AreLeaves find check root most (Ok rs) =
    (left : ℕ) × Yields find check (id_kind root) most (whole_tree [] root) (Ok (rs, left))
AreLeaves find check root most (Err f) = Yields find check (id_kind root) most (whole_tree [] root) (Err f)

-- ---- errors

abbrev pub traversal_fault : Traversal → LeavesFault
traversal_fault (traversals.NotFound id) = NotFound id
traversal_fault (traversals.NotATree id) = NotATree id
traversal_fault (traversals.Find id number) = Find id number
traversal_fault (traversals.Malformed id) = Malformed id
traversal_fault traversals.TooManyObjects = TooManyObjects

-- what an error implies: its tree error has the property; out of memory implies nothing
abbrev pub LeavesCause : Error → (LeavesFault → Type 0) → Type 0
LeavesCause (errors.InvalidComponent path number) P = P (InvalidComponent (bstring_bytes path) number)
LeavesCause (errors.Traversal e) P = P (traversal_fault e)
LeavesCause errors.Memory P = Unit {0}
