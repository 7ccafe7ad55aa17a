-- Trees in git's order (git-fsck, "treeNotSorted").
use Rattle.std.specs.Prelude.{◌≡◌, ◌≢◌, ℕ, List, [], ◌∷◌, ◌++◌, All, Contains, IsTrue, if◌then◌else◌}
use Rattle.std.specs.List.{AllPairs}
use Rattle.std.specs.declared.cmp.Ordering.TheVariants.{Less}
use Rattle.index_parts.specs.Object.{Found, object}
use Rattle.index_parts.specs.TreeObject.{TreeEntry, IsTreeObject, is_tree_mode}
use Rattle.index_parts.specs.declared.hash.Kind.{Kind}
use Rattle.index_parts.specs.declared.hash.ObjectId.{ObjectId}
use Rattle.index_parts.specs.declared.object.Kind.TheVariants as objects
use Rattle.entry_list.specs.Order.{path_cmp}

-- the bytes by which an entry is sorted: its name, followed by a slash if it is a directory
abbrev pub sorted_name : TreeEntry → List ℕ
sorted_name e = e.name ++ (if is_tree_mode e.mode then 47 ∷ [] else [])

-- names have no slash, and the bytes by which they are sorted strictly increase
pub record IsGitOrdered (es : List TreeEntry) : Type 0 where
  pub components : All (λ e. All (λ b. b ≢ 47) e.name) es
  pub less : AllPairs (λ d e. path_cmp (sorted_name d) (sorted_name e) ≡ Less) es

-- the objects that a traversal of a tree may read: the tree's object, and those of the directories that trees among
-- these objects list
pub data IsReachable (find : ObjectId → Found) (kind : Kind) (root : ObjectId) : ObjectId → Type 0 where
  itself : IsReachable find kind root root
  listed : (id : ObjectId) (bytes : List ℕ) (es : List TreeEntry) (e : TreeEntry) → IsReachable find kind root id
      → find id ≡ object objects.Tree bytes → IsTreeObject kind bytes es
      → Contains es e → IsTrue (is_tree_mode e.mode) → IsReachable find kind root e.id

-- each tree among these objects is in git's order
abbrev pub AreGitOrdered : (ObjectId → Found) → Kind → ObjectId → Type 0
AreGitOrdered find kind root =
    (id : ObjectId) (bytes : List ℕ) (es : List TreeEntry) → IsReachable find kind root id
    → find id ≡ object objects.Tree bytes → IsTreeObject kind bytes es → IsGitOrdered es
