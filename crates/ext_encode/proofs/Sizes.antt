-- The length in bytes of extensions, one after another.
use Rattle.std.proofs.Common.{◌≡◌, ℕ, ◌+◌, ◌≤◌, ◌^◌, Bool, true, false, cond, ltb, List, [], ◌++◌, length, Option}
use Rattle.std.proofs.Common.{Some, None, refl, sym, ap, ◌∙◌, arith, length-append}
use Rattle.std.specs.List.{flat_map}
use Rattle.std.specs.Option.{option_map}
use Rattle.std.proofs.lemmas.Bool.{ltb-false}
use Rattle.std.proofs.lemmas.Grind.{flat_map-append}
use Rattle.index_parts.specs.declared.hash.Kind.{Kind}
use Rattle.ext_tree.specs.TreeImage.{node_bytes, tree_item}
use Rattle.index_extensions.specs.Encoding.{item_bytes}
use Rattle.index_extensions.specs.Walk.{Item}
use Rattle.ext_encode.specs.MonitorImage.{monitor_bytes, monitor_item}
use Rattle.ext_encode.specs.ResolveUndoImage.{resolve_undo_bytes, resolve_undo_item}
use Rattle.ext_encode.specs.UntrackedImage.{cache_bytes, cache_item}
use Rattle.ext_encode.specs.Chosen.{Extensions, item_if, items, sparse_items}
use Rattle.ext_encode.specs.Listing.{AreLens, len_within_32, sparse_len, whole_len}
use Rattle.ext_encode.specs.declared.lens.Lens.{Lens}

pub map_after : {X Y Z : Type 0} (f : X → Y) (g : Y → Z) (o : Option X)
    → option_map (λ x. g (f x)) o ≡ option_map g (option_map f o)
map_after f g None = refl
map_after f g (Some x) = refl

-- the bytes of a list after those of another
pub bytes_behind : (xs ys : List Item)
    → flat_map item_bytes xs ++ flat_map item_bytes ys ≡ flat_map item_bytes (xs ++ ys)
bytes_behind xs ys = sym (flat_map-append item_bytes xs ys)

-- the bytes of all extensions, one list after another
pub items_pieces : (kind : Kind) (e : Extensions) → flat_map item_bytes (item_if tree_item e.tree)
    ++ (flat_map item_bytes (item_if resolve_undo_item e.resolve_undo)
    ++ (flat_map item_bytes (item_if (cache_item kind) e.untracked)
    ++ (flat_map item_bytes (item_if monitor_item e.fs_monitor) ++ flat_map item_bytes (sparse_items e.sparse))))
    ≡ flat_map item_bytes (items kind e)
unfolding items
items_pieces kind e =
    let last = sparse_items e.sparse in
    let monitor = item_if monitor_item e.fs_monitor in
    let cache = item_if (cache_item kind) e.untracked in
    let undo = item_if resolve_undo_item e.resolve_undo in
    let tree = item_if tree_item e.tree in
    ap (λ (l : List ℕ). flat_map item_bytes tree ++ l) (ap (λ (l : List ℕ). flat_map item_bytes undo ++ l)
    (ap (λ (l : List ℕ). flat_map item_bytes cache ++ l) (bytes_behind monitor last)
    ∙ bytes_behind cache (monitor ++ last)) ∙ bytes_behind undo (cache ++ (monitor ++ last)))
    ∙ bytes_behind tree (undo ++ (cache ++ (monitor ++ last)))

pub len_behind : (xs ys : List Item) → length (flat_map item_bytes (xs ++ ys))
    ≡ length (flat_map item_bytes xs) + length (flat_map item_bytes ys)
len_behind xs ys =
    omega (arith, ap length (bytes_behind xs ys), length-append (flat_map item_bytes xs) (flat_map item_bytes ys))

len_if : {A : Type 0} (item : A → Item) (bytes : A → List ℕ)
    → ((a : A) → length (item_bytes (item a)) ≡ 8 + length (bytes a)) → (o : Option A)
    → length (flat_map item_bytes (item_if item o)) ≡ whole_len (option_map (λ a. length (bytes a)) o)
len_if item bytes h None = refl
len_if item bytes h (Some a) = omega (arith, length-append (item_bytes (item a)) [], h a)

len_sparse : (b : Bool) → length (flat_map item_bytes (sparse_items b)) ≡ sparse_len b
len_sparse true = refl
len_sparse false = refl

-- all extensions have as many bytes as each of them
len_items : (kind : Kind) (e : Extensions) → length (flat_map item_bytes (items kind e))
    ≡ whole_len (option_map (λ t. length (node_bytes t)) e.tree)
    + (whole_len (option_map (λ paths. length (resolve_undo_bytes paths)) e.resolve_undo)
    + (whole_len (option_map (λ c. length (cache_bytes kind c)) e.untracked)
    + (whole_len (option_map (λ m. length (monitor_bytes m)) e.fs_monitor) + sparse_len e.sparse)))
unfolding items
len_items kind e =
    let last = sparse_items e.sparse in
    let monitor = item_if monitor_item e.fs_monitor in
    let cache = item_if (cache_item kind) e.untracked in
    let undo = item_if resolve_undo_item e.resolve_undo in
    omega (
      arith,
      len_behind (item_if tree_item e.tree) (undo ++ (cache ++ (monitor ++ last))),
      len_behind undo (cache ++ (monitor ++ last)),
      len_behind cache (monitor ++ last),
      len_behind monitor last,
      len_if tree_item node_bytes (λ t. omega arith) e.tree,
      len_if resolve_undo_item resolve_undo_bytes (λ paths. omega arith) e.resolve_undo,
      len_if (cache_item kind) (cache_bytes kind) (λ c. omega arith) e.untracked,
      len_if monitor_item monitor_bytes (λ m. omega arith) e.fs_monitor,
      len_sparse e.sparse,
    )

pub items_len : (kind : Kind) (e : Extensions) (lens : Lens) → AreLens kind e lens
    → length (flat_map item_bytes (items kind e)) ≡ whole_len lens.tree + whole_len lens.resolve_undo
    + whole_len lens.untracked + whole_len lens.fs_monitor + sparse_len e.sparse
items_len kind e lens h =
    omega (
      arith,
      len_items kind e,
      ap whole_len h.tree,
      ap whole_len h.resolve_undo,
      ap whole_len h.untracked,
      ap whole_len h.fs_monitor,
    )

uncounted : (o : Option ℕ) → None ≡ len_within_32 o → 2 ^ 32 ≤ whole_len o
uncounted None e = absurd cc
uncounted (Some n) e = by (ltb n (2 ^ 32)) refl e
  where
    by : (t : Bool) → ltb n (2 ^ 32) ≡ t → None ≡ option_map Some (cond t (Some n) None) → 2 ^ 32 ≤ 8 + n
    by true h k = absurd cc
    by false h k = let large : 2 ^ 32 ≤ n = ltb-false n (2 ^ 32) h in omega arith

-- if the length of one content doesn't fit into 32 bits, neither does the length of all extensions
pub tree_uncounted : (kind : Kind) (e : Extensions)
    → None ≡ len_within_32 (option_map (λ t. length (node_bytes t)) e.tree)
    → 2 ^ 32 ≤ length (flat_map item_bytes (items kind e))
tree_uncounted kind e h =
    omega (arith, len_items kind e, uncounted (option_map (λ t. length (node_bytes t)) e.tree) h)

pub undo_uncounted : (kind : Kind) (e : Extensions)
    → None ≡ len_within_32 (option_map (λ paths. length (resolve_undo_bytes paths)) e.resolve_undo)
    → 2 ^ 32 ≤ length (flat_map item_bytes (items kind e))
undo_uncounted kind e h =
    omega (arith, len_items kind e, uncounted (option_map (λ paths. length (resolve_undo_bytes paths)) e.resolve_undo) h)

pub cache_uncounted : (kind : Kind) (e : Extensions)
    → None ≡ len_within_32 (option_map (λ c. length (cache_bytes kind c)) e.untracked)
    → 2 ^ 32 ≤ length (flat_map item_bytes (items kind e))
cache_uncounted kind e h =
    omega (arith, len_items kind e, uncounted (option_map (λ c. length (cache_bytes kind c)) e.untracked) h)

pub monitor_uncounted : (kind : Kind) (e : Extensions)
    → None ≡ len_within_32 (option_map (λ m. length (monitor_bytes m)) e.fs_monitor)
    → 2 ^ 32 ≤ length (flat_map item_bytes (items kind e))
monitor_uncounted kind e h =
    omega (arith, len_items kind e, uncounted (option_map (λ m. length (monitor_bytes m)) e.fs_monitor) h)
