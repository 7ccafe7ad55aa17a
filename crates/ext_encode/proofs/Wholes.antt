-- Extensions that are written are whole.
use Rattle.std.proofs.Common.{◌≡◌, ℕ, ◌+◌, ◌^◌, ◌<◌, ◌≤◌, Bool, true, false, List, [], ◌∷◌, ◌++◌, length, Option, Some}
use Rattle.std.proofs.Common.{None, refl, arith, length-append}
use Rattle.std.specs.Prelude.{codes}
use Rattle.std.specs.List.{flat_map, AllByRecursion}
use Rattle.index_parts.proofs.Digests.{length-digest}
use Rattle.index_parts.specs.Digest.{digest}
use Rattle.index_parts.specs.Id.{id_len}
use Rattle.index_parts.specs.Numbers.{be32}
use Rattle.index_parts.specs.declared.hash.Kind.{Kind}
use Rattle.index_parts.specs.declared.hash.Kind.TheVariants as kinds
use Rattle.ext_tree.specs.TreeImage.{node_bytes, tree_item}
use Rattle.index_extensions.specs.EndMarker.{heads}
use Rattle.index_extensions.specs.Encoding.{item_bytes, item_of}
use Rattle.index_extensions.specs.Walk.{Item}
use Rattle.index_extensions.proofs.WrittenItems.{IsWhole, whole_item}
use Rattle.ext_encode.specs.MonitorImage.{monitor_bytes, monitor_item}
use Rattle.ext_encode.specs.ResolveUndoImage.{resolve_undo_bytes, resolve_undo_item}
use Rattle.ext_encode.specs.UntrackedImage.{cache_bytes, cache_item}
use Rattle.ext_encode.specs.Chosen.{Extensions, item_if, items, sparse_items}
use Rattle.ext_encode.specs.Marked.{marked_items, marker_if}
use Rattle.ext_encode.proofs.Sizes.{len_behind}

all_join : (xs ys : List Item) → AllByRecursion IsWhole xs → AllByRecursion IsWhole ys
    → AllByRecursion IsWhole (xs ++ ys)
all_join [] ys h k = k
all_join (x ∷ xs) ys h k = (h.0, all_join xs ys h.1 k)

if_whole : {A : Type 0} (signature : List ℕ) (bytes : A → List ℕ) → length signature ≡ 4 → (o : Option A)
    → length (flat_map item_bytes (item_if (λ a. item_of signature (bytes a)) o)) < 2 ^ 32
    → AllByRecursion IsWhole (item_if (λ a. item_of signature (bytes a)) o)
if_whole signature bytes four None lt = tt
if_whole signature bytes four (Some a) lt =
    let i : Item = item_of signature (bytes a) in
    let len : length (flat_map item_bytes (i ∷ [])) ≡ length i.signature + (length i.size + length (bytes a)) =
    omega (
      arith,
      length-append (item_bytes i) [],
      length-append i.signature (i.size ++ i.content),
      length-append i.size i.content,
    ) in
    (whole_item signature (bytes a) four (omega (arith, len, lt)), tt)

sparse_whole : (sparse : Bool) → AllByRecursion IsWhole (sparse_items sparse)
sparse_whole true = (whole_item (codes "sdir") [] refl (omega arith), tt)
sparse_whole false = tt

id_small : (kind : Kind) → id_len kind ≤ 32
id_small kinds.Sha1 = omega arith
id_small kinds.Sha256 = omega arith

marker_whole : (marker : Bool) (kind : Kind) (offset : ℕ) (e : Extensions)
    → AllByRecursion IsWhole (marker_if marker kind offset e)
marker_whole true kind offset e =
    let hs = heads (items kind e) in
    let small : length (be32 offset ++ digest kind hs) < 2 ^ 32 =
    omega (arith, length-append (be32 offset) (digest kind hs), length-digest kind hs, id_small kind) in
    (whole_item (codes "EOIE") (be32 offset ++ digest kind hs) refl small, tt)
marker_whole false kind offset e = tt

-- the extensions before an end marker
pub some_whole : (kind : Kind) (e : Extensions) → length (flat_map item_bytes (items kind e)) < 2 ^ 32
    → AllByRecursion IsWhole (items kind e)
unfolding items
some_whole kind e lt =
    let t = item_if tree_item e.tree in
    let r = item_if resolve_undo_item e.resolve_undo in
    let c = item_if (cache_item kind) e.untracked in
    let m = item_if monitor_item e.fs_monitor in
    let l = sparse_items e.sparse in
    let a = len_behind t (r ++ (c ++ (m ++ l))) in
    let b = len_behind r (c ++ (m ++ l)) in
    let d = len_behind c (m ++ l) in
    let f = len_behind m l in
    all_join t (r ++ (c ++ (m ++ l)))
    (if_whole (codes "TREE") node_bytes refl e.tree (omega (arith, lt, a)))
    (all_join r (c ++ (m ++ l)) (if_whole (codes "REUC") resolve_undo_bytes refl e.resolve_undo
    (omega (arith, lt, a, b))) (all_join c (m ++ l) (if_whole (codes "UNTR") (cache_bytes kind) refl e.untracked
    (omega (arith, lt, a, b, d))) (all_join m l (if_whole (codes "FSMN") monitor_bytes refl e.fs_monitor
    (omega (arith, lt, a, b, d, f))) (sparse_whole e.sparse))))

pub all_whole : (marker : Bool) (kind : Kind) (offset : ℕ) (e : Extensions)
    → length (flat_map item_bytes (items kind e)) < 2 ^ 32
    → AllByRecursion IsWhole (marked_items marker kind offset e)
all_whole marker kind offset e lt =
    all_join (items kind e) (marker_if marker kind offset e) (some_whole kind e lt) (marker_whole marker kind offset e)
