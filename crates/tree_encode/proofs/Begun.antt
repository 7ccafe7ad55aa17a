-- A directory that is begun: nothing, one more item, and the end.
use Rattle.std.proofs.Common.{◌≡◌, ℕ, ◌+◌, ◌<◌, ◌||◌, List, [], ◌∷◌, ◌++◌, Bool, true, false, length, map, get_or, All}
use Rattle.std.proofs.Common.{Option, Some, None, refl, sym, ap, subst, ◌∙◌, append_assoc, arith}
use Rattle.std.specs.Prelude.{◌≢◌, if◌then◌else◌}
use Rattle.std.specs.declared.cmp.Ordering.TheVariants.{Less}
use Rattle.std.proofs.lemmas.Cmp.{nat_list_cmp_total}
use Rattle.std.proofs.lemmas.List.{append-nil, length-map, length-append}
use Rattle.std.proofs.lemmas.List.Elements.{All-nil, All-push, All-weaker}
use Rattle.std.proofs.lemmas.List.Quantifiers.{all_pairs_push}
use Rattle.index_parts.specs.TreeObject.{TreeEntry}
use Rattle.index_parts.specs.declared.hash.Kind.{Kind}
use Rattle.index_parts.specs.declared.hash.ObjectId.{ObjectId}
use Rattle.index_parts.specs.declared.object.tree.EntryKind.{EntryKind}
use Rattle.index_parts.specs.declared.object.tree.EntryKind.TheVariants as kinds
use Rattle.entry_list.specs.Order.{path_cmp}
use Rattle.entry_list.specs.TreeOrder.{IsGitOrdered, sorted_name}
use Rattle.ext_tree.specs.Tree.{Node, node, node_of, nodes_from}
use Rattle.tree_encode.specs.Cached.{AreItemNodes, AreNodes, IsCached, IsNodeWhere, leaf_nodes}
use Rattle.tree_encode.specs.Directory.{DirectoryItem, DirectoryItems, leaf, directory, no_more, IsPathComponent}
use Rattle.tree_encode.specs.Directory.{IsDirectoryItem, content}
use Rattle.tree_encode.specs.Directory.{leaf_count, directory_bytes, directory_object, directory_item_bytes, leaf_bytes}
use Rattle.tree_encode.specs.Directory.{entries, entry_of, items_id, item_leaves, leaves, item_objects, objects}
use Rattle.tree_encode.specs.Directory.{AreDirectoryItems, IsTreeOf, objects_below, key}
use Rattle.tree_encode.specs.Objects.{Taken, tree_id, with_objects}
use Rattle.tree_encode.specs.Staged.{Staged}
use Rattle.tree_encode.specs.WritingSteps.{Ahead, IsBegunDirectory, IsFinished, IsMadeNode, any_later}
use Rattle.tree_encode.specs.declared.write.Made.{Made}
use Rattle.tree_encode.proofs.Pushes.{push, leaves_push, content_push, objects_push, entries_push, nodes_push}
use Rattle.tree_encode.proofs.Pushes.{made_push, leaves_under, under}

with_none : (known : Taken) → with_objects known [] ≡ known
with_none None = refl
with_none (Some taken) = ap Some (append-nil taken)

pub with_both : (known : Taken) (a b : List (ObjectId × List ℕ))
    → with_objects (with_objects known a) b ≡ with_objects known (a ++ b)
with_both None a b = refl
with_both (Some taken) a b = ap Some (append_assoc taken a b)

abbrev Follows : List ℕ → TreeEntry → Type 0
Follows last e = (s : List ℕ) → path_cmp last s ≡ Less → path_cmp (sorted_name e) s ≡ Less

-- the items of a directory that is begun, and what follows them
pub record IsBegun (kind : Kind) (staged left : List Staged) (items : DirectoryItems) : Type 0 where
  pub made : AreDirectoryItems kind items
  pub ordered : IsGitOrdered (entries kind items)
  pub last : List ℕ
  pub follows : All (Follows last) (entries kind items)
  pub ahead : All (Ahead last) left
  pub listed : leaves [] items ≡ staged

abbrev pub items_begun : (kind : Kind) (staged left : List Staged) (m : Made) (old new : Taken)
    (h : IsBegunDirectory kind staged left m old new) → IsBegun kind staged left h.items
items_begun kind staged left m old new h = record {
  made = h.made;
  ordered = h.ordered;
  last = h.last;
  follows = h.follows;
  ahead = h.ahead;
  listed = h.listed;
}

pub no_items : (kind : Kind) (left : List Staged) → All (Ahead []) left → IsBegun kind [] left no_more
no_items kind left a = record {
  made = tt;
  ordered = record {
    components = All-nil (λ e. All (λ b. b ≢ 47) e.name);
    less = λ i j d lt within. absurd (omega (arith, within));
  };
  last = [];
  follows = All-nil (Follows []);
  ahead = a;
  listed = refl;
}

pub begun_none : (kind : Kind) (left : List Staged) (m : Made) (old : Taken) → m.bytes.items ≡ [] → m.children.items
    ≡ [] → m.count ≡ 0 → m.later ≡ false → All (Ahead []) left → IsBegunDirectory kind [] left m old old
begun_none kind left m old b n c l a =
    let g = no_items kind left a in
    record {
      items = no_more;
      made = g.made;
      ordered = g.ordered;
      last = g.last;
      follows = g.follows;
      ahead = g.ahead;
      listed = g.listed;
      is_content = b;
      nodes = ap (map node_of) n;
      count = c;
      later = l;
      stored = sym (with_none old);
    }

component_of : (kind : Kind) (x : DirectoryItem) → IsDirectoryItem kind x → All (λ b. b ≢ 47) (entry_of kind x).name
component_of kind (leaf name k id later) h = h.0.component
component_of kind (directory name items) h = h.0.component

or_assoc : (a b c : Bool) → (a || b) || c ≡ a || (b || c)
or_assoc true b c = refl
or_assoc false b c = refl

pub any_later-append : (a b : List Staged) → any_later (a ++ b) ≡ any_later a || any_later b
any_later-append [] b = refl
any_later-append (s ∷ a) b =
    ap (λ (x : Bool). s.later || x) (any_later-append a b) ∙ sym (or_assoc s.later (any_later a) (any_later b))

pub leaf_sorted : (name : List ℕ) (k : EntryKind) (id : ObjectId) (later : Bool) (kind : Kind)
    → sorted_name (entry_of kind (leaf name k id later)) ≡ key name k
leaf_sorted name kinds.Tree id later kind = refl
leaf_sorted name kinds.Blob id later kind = append-nil name
leaf_sorted name kinds.BlobExecutable id later kind = append-nil name
leaf_sorted name kinds.Link id later kind = append-nil name
leaf_sorted name kinds.Commit id later kind = append-nil name

some_leaves : (items : DirectoryItems) (staged : List Staged) → leaves [] items ≡ staged → staged ≢ [] → items ≢ no_more
some_leaves items staged e some nothing = some (sym e ∙ ap (leaves []) nothing)

-- the leaves of a directory in another
directory_leaves : (name shown : List ℕ) (inner later : List Staged) (w : DirectoryItems) → shown ≡ name ++ 47 ∷ []
    → map (under shown) inner ≡ later → leaves [] w ≡ inner → item_leaves [] (directory name w) ≡ later
directory_leaves name shown inner later w is listed e =
    ap (λ (p : List ℕ). leaves p w) (sym (append-nil (name ++ 47 ∷ [])))
    ∙ leaves_under (name ++ 47 ∷ []) [] w ∙ ap (λ (p : List ℕ). map (under p) (leaves [] w)) (sym is)
    ∙ ap (map (under shown)) e ∙ listed

-- one more item, whose sorted name follows
module _ (kind : Kind) (staged left : List Staged) (items : DirectoryItems) (h : IsBegun kind staged left items) where
  pub items_push : (x : DirectoryItem) (shown : List ℕ) (more left_then : List Staged) → IsDirectoryItem kind x
      → sorted_name (entry_of kind x) ≡ shown → path_cmp h.last shown ≡ Less → All (Ahead shown) left_then
      → item_leaves [] x ≡ more → IsBegun kind (staged ++ more) left_then (push items x)
  items_push x shown more left_then made is follows ahead listed =
      let less : (k : ℕ) (d : TreeEntry) → k < length (entries kind items)
      → path_cmp (sorted_name (get_or (entries kind items) k d)) (sorted_name (entry_of kind x)) ≡ Less =
      λ k d within. h.follows k d within (sorted_name (entry_of kind x))
      (subst (λ (s : List ℕ). path_cmp h.last s ≡ Less) (sym is) follows) in
      record {
        made = made_push kind items x h.made made;
        ordered = subst IsGitOrdered (sym (entries_push kind items x)) (record {
          components = All-push (λ e. All (λ b. b ≢ 47) e.name) (entries kind items)
              (entry_of kind x) h.ordered.components (component_of kind x made);
          less = all_pairs_push (λ d e. path_cmp (sorted_name d) (sorted_name e) ≡ Less) (entries kind items)
              (entry_of kind x) h.ordered.less less;
        });
        last = shown;
        follows = subst (λ (es : List TreeEntry). All (Follows shown) es) (sym (entries_push kind items x))
            (All-push (Follows shown) (entries kind items) (entry_of kind x)
            (All-weaker (Follows h.last) (Follows shown)
            (λ e f s lt. f s (nat_list_cmp_total.trans h.last shown s follows lt)) (entries kind items) h.follows)
            (λ s lt. subst (λ (t : List ℕ). path_cmp t s ≡ Less) (sym is) lt));
        ahead = ahead;
        listed = leaves_push [] items x ∙ ap (λ (l : List Staged). l ++ item_leaves [] x) h.listed
            ∙ ap (λ (l : List Staged). staged ++ l) listed;
      }

  pub items_leaf : (name : List ℕ) (s : Staged) (left_then : List Staged)
      → IsDirectoryItem kind (leaf name s.kind s.id s.later)
      → s.path ≡ key name s.kind → path_cmp h.last s.path ≡ Less → All (Ahead s.path) left_then
      → IsBegun kind (staged ++ s ∷ []) left_then (push items (leaf name s.kind s.id s.later))
  items_leaf name s left_then made is follows ahead =
      items_push (leaf name s.kind s.id s.later) s.path (s ∷ []) left_then made
      (leaf_sorted name s.kind s.id s.later kind ∙ sym is) follows ahead
      (ap (λ (p : List ℕ). record { path = p; kind = s.kind; id = s.id; later = s.later } ∷ []) (sym is))

  pub items_directory : (name shown : List ℕ) (inner later left_then : List Staged) (w : DirectoryItems)
      → IsPathComponent name
      → shown ≡ name ++ 47 ∷ [] → path_cmp h.last shown ≡ Less → All (Ahead shown) left_then → inner ≢ []
      → map (under shown) inner ≡ later → IsTreeOf kind inner w
      → IsBegun kind (staged ++ later) left_then (push items (directory name w))
  items_directory name shown inner later left_then w named is follows ahead some listed t =
      items_push (directory name w) shown later left_then
      (named, some_leaves w inner t.leaves some, t.directory.made, t.directory.ordered) (sym is) follows ahead
      (directory_leaves name shown inner later w is listed t.leaves)

-- the same, with what is made of them
pub begun_push : (kind : Kind) (staged left : List Staged) (m : Made) (old new : Taken)
    (h : IsBegunDirectory kind staged left m old new)
    → (x : DirectoryItem) (more left_then : List Staged) (n : Made) (newer : Taken) (us : List Node)
    → IsBegun kind (staged ++ more) left_then (push h.items x)
    → n.bytes.items ≡ m.bytes.items ++ directory_item_bytes kind x
    → map node_of n.children.items ≡ map node_of m.children.items ++ us → AreItemNodes kind x us
    → n.count ≡ m.count + length more → n.later ≡ m.later || any_later more
    → newer ≡ with_objects new (item_objects kind x)
    → IsBegunDirectory kind (staged ++ more) left_then n old newer
begun_push kind staged left m old new h x more left_then n newer us g bytes children nodes count later stored =
    record {
      items = push h.items x;
      made = g.made;
      ordered = g.ordered;
      last = g.last;
      follows = g.follows;
      ahead = g.ahead;
      listed = g.listed;
      is_content = bytes ∙ ap (λ (l : List ℕ). l ++ directory_item_bytes kind x) h.is_content
          ∙ sym (content_push kind h.items x);
      nodes = subst (AreNodes kind (push h.items x)) (sym children)
          (nodes_push kind h.items x (map node_of m.children.items) us h.nodes nodes);
      count = count ∙ ap (λ (i : ℕ). i + length more) h.count ∙ sym (length-append staged more);
      later = later ∙ ap (λ (b : Bool). b || any_later more) h.later ∙ sym (any_later-append staged more);
      stored = stored ∙ ap (λ (k : Taken). with_objects k (item_objects kind x)) h.stored
          ∙ with_both old (objects_below kind h.items) (item_objects kind x)
          ∙ ap (with_objects old) (sym (objects_push kind h.items x));
    }

-- ---- a leaf

or_false : (b : Bool) → b || false ≡ b
or_false true = refl
or_false false = refl

pub begun_leaf : (kind : Kind) (staged left : List Staged) (m : Made) (old new : Taken)
    (h : IsBegunDirectory kind staged left m old new)
    → (name : List ℕ) (s : Staged) (left_then : List Staged) (n : Made)
    → IsDirectoryItem kind (leaf name s.kind s.id s.later)
    → s.path ≡ key name s.kind → path_cmp h.last s.path ≡ Less → All (Ahead s.path) left_then
    → n.bytes.items ≡ m.bytes.items ++ leaf_bytes name s.kind s.id s.later
    → map node_of n.children.items ≡ map node_of m.children.items ++ leaf_nodes name s.kind s.id s.later
    → n.count ≡ m.count + 1 → n.later ≡ m.later || s.later
    → IsBegunDirectory kind (staged ++ s ∷ []) left_then n old new
begun_leaf kind staged left m old new h name s left_then n made is follows ahead bytes children count later =
    begun_push kind staged left m old new h (leaf name s.kind s.id s.later) (s ∷ []) left_then n new
    (leaf_nodes name s.kind s.id s.later)
    (items_leaf kind staged left h.items (items_begun kind staged left m old new h) name s left_then made is follows
    ahead) bytes children refl count (later ∙ ap (λ (b : Bool). m.later || b) (sym (or_false s.later))) (sym (with_none new))

-- ---- a directory

-- what is made of a directory
pub finished_cached : (kind : Kind) (staged left : List Staged) (m : Made) (old new : Taken)
    (h : IsBegunDirectory kind staged left m old new) → (name : List ℕ) (t : Node) → IsFinished kind name m t
    → IsCached kind name h.items t
finished_cached kind staged left m old new h name t f =
    let same : tree_id kind m.bytes.items ≡ items_id kind h.items = ap (tree_id kind) h.is_content in
    let number : (if m.later then None else Some m.count) ≡ leaf_count (leaves [] h.items) =
    rw (h.later, h.count) (ap leaf_count (sym h.listed)) in (
      map node_of m.children.items,
      h.nodes,
      (
        f.0,
        f.1,
        f.2,
        f.3 ∙ ap (λ (i : ObjectId). node name i (if m.later then None else Some m.count)
            (nodes_from f.0)) same ∙ ap (λ (n : Option ℕ). node name (items_id kind h.items) n (nodes_from f.0)) number,
      ),
    )

node_where : (bytes other : List ℕ) (P Q : Node → Type 0) (ts : List Node) → bytes ≡ other → ((t : Node) → P t → Q t)
    → IsNodeWhere bytes P ts → IsNodeWhere other Q ts
node_where bytes other P Q ts e f h = subst (λ (l : List ℕ). IsNodeWhere l Q ts) e (by bytes h)
  where
    by : (l : List ℕ) → IsNodeWhere l P ts → IsNodeWhere l Q ts
    by [] g = g
    by (b ∷ l) g = (g.0, g.1, f g.0 g.2)

pub begun_directory : (kind : Kind) (staged left : List Staged) (m : Made) (old new : Taken)
    (h : IsBegunDirectory kind staged left m old new)
    → (name shown : List ℕ) (inner later left_then : List Staged) (i n : Made) (middle newer : Taken) (us : List Node)
    → IsPathComponent name → shown ≡ name ++ 47 ∷ [] → path_cmp h.last shown ≡ Less → All (Ahead shown) left_then
    → inner ≢ [] → map (under shown) inner ≡ later → IsBegunDirectory kind inner [] i new middle
    → n.bytes.items ≡ m.bytes.items ++ directory_bytes kind name i.bytes.items
    → map node_of n.children.items ≡ map node_of m.children.items ++ us → IsMadeNode kind name i us
    → n.count ≡ m.count + i.count → n.later ≡ m.later || i.later
    → newer ≡ with_objects middle (directory_object kind i.bytes.items)
    → IsBegunDirectory kind (staged ++ later) left_then n old newer
begun_directory kind staged left m old new h name shown inner later left_then i n middle newer us named is follows ahead
    some listed w bytes children nodes count flag stored =
    let x : DirectoryItem = directory name w.items in
    let t : IsTreeOf kind inner w.items =
    record { directory = record { made = w.made; ordered = w.ordered }; leaves = w.listed } in
    let g : IsBegun kind (staged ++ later) left_then (push h.items x) = items_directory kind staged left h.items
    (items_begun kind staged left m old new h) name shown inner later left_then w.items named is follows ahead some
    listed t in
    let number : length inner ≡ length later = sym (length-map inner (under shown)) ∙ ap length listed in
    let flags : any_later inner ≡ any_later later = later_under inner ∙ ap any_later listed in
    begun_push kind staged left m old new h x later left_then n newer us g
    (bytes ∙ ap (λ (l : List ℕ). m.bytes.items ++ directory_bytes kind name l) w.is_content) children
    (node_where i.bytes.items (content kind w.items) (IsFinished kind name i) (IsCached kind name w.items) us
    w.is_content (λ t f. finished_cached kind inner [] i new middle w name t f) nodes)
    (count ∙ ap (λ (j : ℕ). m.count + j) (w.count ∙ number)) (flag ∙ ap (λ (b : Bool). m.later || b) (w.later ∙ flags))
    (stored ∙ ap (λ (k : Taken). with_objects k (directory_object kind i.bytes.items)) w.stored
    ∙ with_both new (objects_below kind w.items) (directory_object kind i.bytes.items)
    ∙ ap (λ (l : List ℕ). with_objects new (objects_below kind w.items ++ directory_object kind l)) w.is_content)
  where
    later_under : (ss : List Staged) → any_later ss ≡ any_later (map (under shown) ss)
    later_under [] = refl
    later_under (s ∷ ss) = ap (λ (b : Bool). s.later || b) (later_under ss)

-- The directory's own object follows those of the directories below it.
pub begun_root : (kind : Kind) (staged left : List Staged) (m : Made) (old new : Taken)
    (h : IsBegunDirectory kind staged left m old new) (newer : Taken)
    → newer ≡ with_objects new ((tree_id kind m.bytes.items, m.bytes.items) ∷ [])
    → newer ≡ with_objects old (objects kind h.items)
begun_root kind staged left m old new h newer e =
    e ∙ ap (λ (k : Taken). with_objects k ((tree_id kind m.bytes.items, m.bytes.items) ∷ [])) h.stored
    ∙ with_both old (objects_below kind h.items) ((tree_id kind m.bytes.items, m.bytes.items) ∷ [])
    ∙ ap (λ (b : List ℕ). with_objects old (objects_below kind h.items ++ (tree_id kind b, b) ∷ [])) h.is_content

-- ---- the same by equal parts

pub begun_same : (kind : Kind) (old new : Taken) (m : Made) (s q left left_then : List Staged) → q ≡ s
    → left_then ≡ left → IsBegunDirectory kind s left m old new → IsBegunDirectory kind q left_then m old new
begun_same kind old new m s q left left_then es el h =
    subst (λ (x : List Staged). IsBegunDirectory kind x left_then m old new) (sym es)
    (subst (λ (x : List Staged). IsBegunDirectory kind s x m old new) (sym el) h)
