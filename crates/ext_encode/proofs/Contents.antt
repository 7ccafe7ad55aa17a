-- What the last content of a signature is among extensions that are written, and which signatures are there.
use Rattle.std.proofs.Common.{◌≡◌, ℕ, Bool, true, false, List, [], ◌∷◌, ◌++◌, Option, Some, None, refl, sym, ap, subst}
use Rattle.std.proofs.Common.{◌∙◌}
use Rattle.std.specs.Prelude.{IfSome, codes}
use Rattle.std.specs.Option.{option_map}
use Rattle.index_parts.specs.declared.hash.Kind.{Kind}
use Rattle.ext_tree.specs.TreeImage.{node_bytes, tree_item}
use Rattle.index_extensions.specs.ExtensionValue.{IsValue, content_named, last_content, option_or}
use Rattle.index_extensions.specs.Walk.{Item}
use Rattle.ext_encode.specs.MonitorImage.{monitor_bytes, monitor_item}
use Rattle.ext_encode.specs.ResolveUndoImage.{resolve_undo_bytes, resolve_undo_item}
use Rattle.ext_encode.specs.UntrackedImage.{cache_bytes, cache_item}
use Rattle.ext_encode.specs.Chosen.{Extensions, item_if, items, sparse_items}
use Rattle.ext_encode.specs.Marked.{marked_items, marker_if}

or_none : {A : Type 0} (x : Option A) → option_or x None ≡ x
or_none None = refl
or_none (Some a) = refl

or_apart : {A : Type 0} (x y z : Option A) → option_or (option_or x y) z ≡ option_or x (option_or y z)
or_apart None y z = refl
or_apart (Some a) y z = refl

last_behind : (s : List ℕ) (xs ys : List Item)
    → last_content s (xs ++ ys) ≡ option_or (last_content s ys) (last_content s xs)
last_behind s [] ys = sym (or_none (last_content s ys))
last_behind s (x ∷ xs) ys =
    ap (λ z. option_or z (content_named s x)) (last_behind s xs ys)
    ∙ or_apart (last_content s ys) (last_content s xs) (content_named s x)

-- the last content among the lists of six signatures, one after another
abbrev pub last_of_six : Option (List ℕ) → Option (List ℕ) → Option (List ℕ) → Option (List ℕ) → Option (List ℕ)
    → Option (List ℕ) → Option (List ℕ)
last_of_six t r c m s e = option_or e (option_or (option_or (option_or (option_or s m) c) r) t)

same_six : (t r c m s e u v w x y z : Option (List ℕ)) → t ≡ u → r ≡ v → c ≡ w → m ≡ x → s ≡ y → e ≡ z
    → last_of_six t r c m s e ≡ last_of_six u v w x y z
same_six t r c m s e u v w x y z a b d f g h = rw (a, b, d, f, g, h) refl

pub last_in : (s : List ℕ) (marker : Bool) (kind : Kind) (offset : ℕ) (e : Extensions)
    → last_content s (marked_items marker kind offset e) ≡ last_of_six (last_content s (item_if tree_item e.tree))
    (last_content s (item_if resolve_undo_item e.resolve_undo))
    (last_content s (item_if (cache_item kind) e.untracked)) (last_content s (item_if monitor_item e.fs_monitor))
    (last_content s (sparse_items e.sparse)) (last_content s (marker_if marker kind offset e))
unfolding items
last_in s marker kind offset e =
    let t = item_if tree_item e.tree in
    let r = item_if resolve_undo_item e.resolve_undo in
    let c = item_if (cache_item kind) e.untracked in
    let m = item_if monitor_item e.fs_monitor in
    let l = sparse_items e.sparse in
    let x = last_content s (marker_if marker kind offset e) in
    last_behind s (t ++ (r ++ (c ++ (m ++ l)))) (marker_if marker kind offset e)
    ∙ ap (λ z. option_or x z) (last_behind s t (r ++ (c ++ (m ++ l)))
    ∙ ap (λ z. option_or z (last_content s t)) (last_behind s r (c ++ (m ++ l))
    ∙ ap (λ z. option_or z (last_content s r)) (last_behind s c (m ++ l)
    ∙ ap (λ z. option_or z (last_content s c)) (last_behind s m l))))

-- ---- lists of one signature

none_of : {A : Type 0} (s : List ℕ) (item : A → Item) → ((a : A) → content_named s (item a) ≡ None) → (o : Option A)
    → last_content s (item_if item o) ≡ None
none_of s item h None = refl
none_of s item h (Some a) = h a

some_of : {A : Type 0} (s : List ℕ) (item : A → Item) (bytes : A → List ℕ)
    → ((a : A) → content_named s (item a) ≡ Some (bytes a)) → (o : Option A)
    → last_content s (item_if item o) ≡ option_map bytes o
some_of s item bytes h None = refl
some_of s item bytes h (Some a) = h a

-- the value of a content, which is present if the value is
pub value_of : {A B : Type 0} (Is : List ℕ → B → Type 0) (bytes : A → List ℕ) (f : A → B) (o : Option A)
    (content : Option (List ℕ)) → content ≡ option_map bytes o → IfSome o (λ a. Is (bytes a) (f a))
    → IsValue Is content (option_map f o)
value_of {A} {B} Is bytes f o content h k =
    subst (λ (x : Option (List ℕ)). IsValue Is x (option_map f o)) (sym h) (by o k)
  where
    by : (p : Option A) → IfSome p (λ a. Is (bytes a) (f a)) → IsValue Is (option_map bytes p) (option_map f p)
    by None k = refl
    by (Some a) k = k

tree_less_mark : (b : Bool) → last_content (codes "TREE") (sparse_items b) ≡ None
tree_less_mark true = refl
tree_less_mark false = refl

tree_less_marker : (marker : Bool) (kind : Kind) (offset : ℕ) (e : Extensions)
    → last_content (codes "TREE") (marker_if marker kind offset e) ≡ None
tree_less_marker true kind offset e = refl
tree_less_marker false kind offset e = refl

tree_alone : (x : Option (List ℕ)) → last_of_six x None None None None None ≡ x
tree_alone None = refl
tree_alone (Some bytes) = refl

pub last_tree : (marker : Bool) (kind : Kind) (offset : ℕ) (e : Extensions)
    → last_content (codes "TREE") (marked_items marker kind offset e) ≡ option_map node_bytes e.tree
last_tree marker kind offset e =
    last_in (codes "TREE") marker kind offset e ∙ same_six
    (last_content (codes "TREE") (item_if tree_item e.tree))
    (last_content (codes "TREE") (item_if resolve_undo_item e.resolve_undo))
    (last_content (codes "TREE") (item_if (cache_item kind) e.untracked))
    (last_content (codes "TREE") (item_if monitor_item e.fs_monitor))
    (last_content (codes "TREE") (sparse_items e.sparse))
    (last_content (codes "TREE") (marker_if marker kind offset e)) (option_map node_bytes e.tree) None None None None None
    (some_of (codes "TREE") tree_item node_bytes (λ a. refl) e.tree)
    (none_of (codes "TREE") resolve_undo_item (λ a. refl) e.resolve_undo)
    (none_of (codes "TREE") (cache_item kind) (λ a. refl) e.untracked)
    (none_of (codes "TREE") monitor_item (λ a. refl) e.fs_monitor)
    (tree_less_mark e.sparse) (tree_less_marker marker kind offset e)
    ∙ tree_alone (option_map node_bytes e.tree)

undo_less_mark : (b : Bool) → last_content (codes "REUC") (sparse_items b) ≡ None
undo_less_mark true = refl
undo_less_mark false = refl

undo_less_marker : (marker : Bool) (kind : Kind) (offset : ℕ) (e : Extensions)
    → last_content (codes "REUC") (marker_if marker kind offset e) ≡ None
undo_less_marker true kind offset e = refl
undo_less_marker false kind offset e = refl

undo_alone : (x : Option (List ℕ)) → last_of_six None x None None None None ≡ x
undo_alone None = refl
undo_alone (Some bytes) = refl

pub last_undo : (marker : Bool) (kind : Kind) (offset : ℕ) (e : Extensions)
    → last_content (codes "REUC") (marked_items marker kind offset e) ≡ option_map resolve_undo_bytes e.resolve_undo
last_undo marker kind offset e =
    last_in (codes "REUC") marker kind offset e ∙ same_six
    (last_content (codes "REUC") (item_if tree_item e.tree))
    (last_content (codes "REUC") (item_if resolve_undo_item e.resolve_undo))
    (last_content (codes "REUC") (item_if (cache_item kind) e.untracked))
    (last_content (codes "REUC") (item_if monitor_item e.fs_monitor))
    (last_content (codes "REUC") (sparse_items e.sparse))
    (last_content (codes "REUC") (marker_if marker kind offset e)) None (option_map resolve_undo_bytes e.resolve_undo) None None None None
    (none_of (codes "REUC") tree_item (λ a. refl) e.tree)
    (some_of (codes "REUC") resolve_undo_item resolve_undo_bytes (λ a. refl) e.resolve_undo)
    (none_of (codes "REUC") (cache_item kind) (λ a. refl) e.untracked)
    (none_of (codes "REUC") monitor_item (λ a. refl) e.fs_monitor)
    (undo_less_mark e.sparse) (undo_less_marker marker kind offset e)
    ∙ undo_alone (option_map resolve_undo_bytes e.resolve_undo)

cache_less_mark : (b : Bool) → last_content (codes "UNTR") (sparse_items b) ≡ None
cache_less_mark true = refl
cache_less_mark false = refl

cache_less_marker : (marker : Bool) (kind : Kind) (offset : ℕ) (e : Extensions)
    → last_content (codes "UNTR") (marker_if marker kind offset e) ≡ None
cache_less_marker true kind offset e = refl
cache_less_marker false kind offset e = refl

cache_alone : (x : Option (List ℕ)) → last_of_six None None x None None None ≡ x
cache_alone None = refl
cache_alone (Some bytes) = refl

pub last_cache : (marker : Bool) (kind : Kind) (offset : ℕ) (e : Extensions)
    → last_content (codes "UNTR") (marked_items marker kind offset e) ≡ option_map (cache_bytes kind) e.untracked
last_cache marker kind offset e =
    last_in (codes "UNTR") marker kind offset e ∙ same_six
    (last_content (codes "UNTR") (item_if tree_item e.tree))
    (last_content (codes "UNTR") (item_if resolve_undo_item e.resolve_undo))
    (last_content (codes "UNTR") (item_if (cache_item kind) e.untracked))
    (last_content (codes "UNTR") (item_if monitor_item e.fs_monitor))
    (last_content (codes "UNTR") (sparse_items e.sparse))
    (last_content (codes "UNTR") (marker_if marker kind offset e)) None None (option_map (cache_bytes kind) e.untracked) None None None
    (none_of (codes "UNTR") tree_item (λ a. refl) e.tree)
    (none_of (codes "UNTR") resolve_undo_item (λ a. refl) e.resolve_undo)
    (some_of (codes "UNTR") (cache_item kind) (cache_bytes kind) (λ a. refl) e.untracked)
    (none_of (codes "UNTR") monitor_item (λ a. refl) e.fs_monitor)
    (cache_less_mark e.sparse) (cache_less_marker marker kind offset e)
    ∙ cache_alone (option_map (cache_bytes kind) e.untracked)

monitor_less_mark : (b : Bool) → last_content (codes "FSMN") (sparse_items b) ≡ None
monitor_less_mark true = refl
monitor_less_mark false = refl

monitor_less_marker : (marker : Bool) (kind : Kind) (offset : ℕ) (e : Extensions)
    → last_content (codes "FSMN") (marker_if marker kind offset e) ≡ None
monitor_less_marker true kind offset e = refl
monitor_less_marker false kind offset e = refl

monitor_alone : (x : Option (List ℕ)) → last_of_six None None None x None None ≡ x
monitor_alone None = refl
monitor_alone (Some bytes) = refl

pub last_monitor : (marker : Bool) (kind : Kind) (offset : ℕ) (e : Extensions)
    → last_content (codes "FSMN") (marked_items marker kind offset e) ≡ option_map monitor_bytes e.fs_monitor
last_monitor marker kind offset e =
    last_in (codes "FSMN") marker kind offset e ∙ same_six
    (last_content (codes "FSMN") (item_if tree_item e.tree))
    (last_content (codes "FSMN") (item_if resolve_undo_item e.resolve_undo))
    (last_content (codes "FSMN") (item_if (cache_item kind) e.untracked))
    (last_content (codes "FSMN") (item_if monitor_item e.fs_monitor))
    (last_content (codes "FSMN") (sparse_items e.sparse))
    (last_content (codes "FSMN") (marker_if marker kind offset e)) None None None (option_map monitor_bytes e.fs_monitor) None None
    (none_of (codes "FSMN") tree_item (λ a. refl) e.tree)
    (none_of (codes "FSMN") resolve_undo_item (λ a. refl) e.resolve_undo)
    (none_of (codes "FSMN") (cache_item kind) (λ a. refl) e.untracked)
    (some_of (codes "FSMN") monitor_item monitor_bytes (λ a. refl) e.fs_monitor)
    (monitor_less_mark e.sparse) (monitor_less_marker marker kind offset e)
    ∙ monitor_alone (option_map monitor_bytes e.fs_monitor)

link_less_mark : (b : Bool) → last_content (codes "link") (sparse_items b) ≡ None
link_less_mark true = refl
link_less_mark false = refl

link_less_marker : (marker : Bool) (kind : Kind) (offset : ℕ) (e : Extensions)
    → last_content (codes "link") (marker_if marker kind offset e) ≡ None
link_less_marker true kind offset e = refl
link_less_marker false kind offset e = refl

pub last_link : (marker : Bool) (kind : Kind) (offset : ℕ) (e : Extensions)
    → last_content (codes "link") (marked_items marker kind offset e) ≡ None
last_link marker kind offset e =
    last_in (codes "link") marker kind offset e ∙ same_six
    (last_content (codes "link") (item_if tree_item e.tree))
    (last_content (codes "link") (item_if resolve_undo_item e.resolve_undo))
    (last_content (codes "link") (item_if (cache_item kind) e.untracked))
    (last_content (codes "link") (item_if monitor_item e.fs_monitor))
    (last_content (codes "link") (sparse_items e.sparse))
    (last_content (codes "link") (marker_if marker kind offset e)) None None None None None None
    (none_of (codes "link") tree_item (λ a. refl) e.tree)
    (none_of (codes "link") resolve_undo_item (λ a. refl) e.resolve_undo)
    (none_of (codes "link") (cache_item kind) (λ a. refl) e.untracked)
    (none_of (codes "link") monitor_item (λ a. refl) e.fs_monitor)
    (link_less_mark e.sparse) (link_less_marker marker kind offset e)
