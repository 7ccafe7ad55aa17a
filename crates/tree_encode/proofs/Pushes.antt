-- Items with one more at their end, and the leaves after a prefix.
use Rattle.std.proofs.Common.{◌≡◌, ℕ, List, [], ◌∷◌, ◌++◌, map, refl, sym, ap, ◌∙◌, append_assoc}
use Rattle.std.proofs.lemmas.List.{append-nil, map-append}
use Rattle.index_parts.specs.TreeObject.{TreeEntry}
use Rattle.index_parts.specs.declared.hash.Kind.{Kind}
use Rattle.index_parts.specs.declared.hash.ObjectId.{ObjectId}
use Rattle.index_parts.specs.declared.object.tree.EntryKind.TheVariants as kinds
use Rattle.ext_tree.specs.Tree.{Node}
use Rattle.tree_encode.specs.Cached.{AreItemNodes, AreNodes}
use Rattle.tree_encode.specs.Directory.{DirectoryItem, DirectoryItems, leaf, directory, no_more, next, IsDirectoryItem}
use Rattle.tree_encode.specs.Directory.{AreDirectoryItems, content}
use Rattle.tree_encode.specs.Directory.{directory_item_bytes, entries, entry_of, item_leaves, leaves, item_objects}
use Rattle.tree_encode.specs.Directory.{objects_below, key}
use Rattle.tree_encode.specs.Staged.{Staged}

-- the same with a prefix
abbrev pub under : List ℕ → Staged → Staged
under prefix s = record { path = prefix ++ s.path; kind = s.kind; id = s.id; later = s.later }

abbrev pub push : DirectoryItems → DirectoryItem → DirectoryItems
push no_more x = next x no_more
push (next y ys) x = next y (push ys x)

pub leaves_push : (front : List ℕ) (xs : DirectoryItems) (x : DirectoryItem)
    → leaves front (push xs x) ≡ leaves front xs ++ item_leaves front x
leaves_push front no_more x = append-nil (item_leaves front x)
leaves_push front (next y ys) x = ap (λ (l : List Staged). item_leaves front y ++ l) (leaves_push front ys x)
    ∙ sym (append_assoc (item_leaves front y) (leaves front ys) (item_leaves front x))

pub content_push : (kind : Kind) (xs : DirectoryItems) (x : DirectoryItem)
    → content kind (push xs x) ≡ content kind xs ++ directory_item_bytes kind x
content_push kind no_more x = append-nil (directory_item_bytes kind x)
content_push kind (next y ys) x = ap (λ (l : List ℕ). directory_item_bytes kind y ++ l) (content_push kind ys x)
    ∙ sym (append_assoc (directory_item_bytes kind y) (content kind ys) (directory_item_bytes kind x))

pub objects_push : (kind : Kind) (xs : DirectoryItems) (x : DirectoryItem)
    → objects_below kind (push xs x) ≡ objects_below kind xs ++ item_objects kind x
objects_push kind no_more x = append-nil (item_objects kind x)
objects_push kind (next y ys) x =
    ap (λ (l : List (ObjectId × List ℕ)). item_objects kind y ++ l) (objects_push kind ys x)
    ∙ sym (append_assoc (item_objects kind y) (objects_below kind ys) (item_objects kind x))

pub entries_push : (kind : Kind) (xs : DirectoryItems) (x : DirectoryItem)
    → entries kind (push xs x) ≡ entries kind xs ++ entry_of kind x ∷ []
entries_push kind no_more x = refl
entries_push kind (next y ys) x = ap (λ (l : List TreeEntry). entry_of kind y ∷ l) (entries_push kind ys x)

pub nodes_push : (kind : Kind) (xs : DirectoryItems) (x : DirectoryItem) (ts us : List Node) → AreNodes kind xs ts
    → AreItemNodes kind x us → AreNodes kind (push xs x) (ts ++ us)
nodes_push kind no_more x ts us h i = (us, [], ap (λ (l : List Node). l ++ us) h ∙ sym (append-nil us), i, refl)
nodes_push kind (next y ys) x ts us h i = (
  h.0,
  h.1 ++ us,
  ap (λ (l : List Node). l ++ us) h.2 ∙ append_assoc h.0 h.1 us,
  h.3,
  nodes_push kind ys x h.1 us h.4 i,
)

pub made_push : (kind : Kind) (xs : DirectoryItems) (x : DirectoryItem) → AreDirectoryItems kind xs
    → IsDirectoryItem kind x → AreDirectoryItems kind (push xs x)
made_push kind no_more x h i = (i, tt)
made_push kind (next y ys) x h i = (h.0, made_push kind ys x h.1 i)

-- ---- a front

mutual
  item_under : (f front : List ℕ) (x : DirectoryItem) → item_leaves (f ++ front) x ≡ map (under f) (item_leaves front x)
  item_under f front (leaf name k id later) = ap
      (λ (p : List ℕ). record { path = p; kind = k; id = id; later = later } ∷ []) (append_assoc f front (key name k))
  item_under f front (directory name items) =
      ap (λ (p : List ℕ). leaves p items) (append_assoc f front (key name kinds.Tree))
      ∙ leaves_under f (front ++ key name kinds.Tree) items

  pub leaves_under : (f front : List ℕ) (xs : DirectoryItems) → leaves (f ++ front) xs ≡ map (under f) (leaves front xs)
  leaves_under f front no_more = refl
  leaves_under f front (next x xs) =
      let a : item_leaves (f ++ front) x ≡ map (under f) (item_leaves front x) = item_under f front x in
      let b : leaves (f ++ front) xs ≡ map (under f) (leaves front xs) = leaves_under f front xs in
      rw (a, b) (sym (map-append (under f) (item_leaves front x) (leaves front xs)))
