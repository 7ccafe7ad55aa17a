-- The signatures and lengths of extensions are those of their items.
use Rattle.std.proofs.Common.{◌≡◌, ℕ, Bool, true, false, List, ◌++◌, length, Option, Some, None, refl, sym, ap}
use Rattle.std.proofs.Common.{◌∙◌, append_assoc}
use Rattle.std.specs.Prelude.{codes}
use Rattle.std.specs.Option.{option_map}
use Rattle.std.proofs.lemmas.Grind.{flat_map-append}
use Rattle.index_parts.specs.Numbers.{be32}
use Rattle.index_parts.specs.declared.hash.Kind.{Kind}
use Rattle.ext_tree.specs.TreeImage.{node_bytes, tree_item}
use Rattle.index_extensions.specs.EndMarker.{heads}
use Rattle.index_extensions.specs.Encoding.{heads_bytes, item_of}
use Rattle.index_extensions.specs.Walk.{Item}
use Rattle.ext_encode.specs.MonitorImage.{monitor_bytes, monitor_item}
use Rattle.ext_encode.specs.ResolveUndoImage.{resolve_undo_bytes, resolve_undo_item}
use Rattle.ext_encode.specs.UntrackedImage.{cache_bytes, cache_item}
use Rattle.ext_encode.specs.Chosen.{Extensions, item_if, items, sparse_items}
use Rattle.ext_encode.specs.Listing.{AreLens, head_if, listed_heads, sparse_head_len}
use Rattle.ext_encode.specs.declared.lens.Lens.{Lens}

abbrev head_bytes : List ℕ × ℕ → List ℕ
head_bytes h = h.0 ++ be32 h.1

abbrev item_head : Item → List ℕ
item_head i = i.signature ++ i.size

head_of : {A : Type 0} (signature : List ℕ) (bytes : A → List ℕ) (len : Option ℕ) (o : Option A)
    → len ≡ option_map (λ a. length (bytes a)) o
    → heads_bytes (head_if signature len) ≡ heads (item_if (λ a. item_of signature (bytes a)) o)
head_of signature bytes len None h = ap (λ l. heads_bytes (head_if signature l)) h
head_of signature bytes len (Some a) h = ap (λ l. heads_bytes (head_if signature l)) h

sparse_head : (b : Bool) → heads_bytes (head_if (codes "sdir") (sparse_head_len b)) ≡ heads (sparse_items b)
sparse_head true = refl
sparse_head false = refl

-- five lists of heads, one after another
abbrev five : List ℕ → List ℕ → List ℕ → List ℕ → List ℕ → List ℕ
five a b c d e = a ++ (b ++ (c ++ (d ++ e)))

heads_apart : (a b c d e : List (List ℕ × ℕ)) → heads_bytes ((((a ++ b) ++ c) ++ d) ++ e)
    ≡ five (heads_bytes a) (heads_bytes b) (heads_bytes c) (heads_bytes d) (heads_bytes e)
heads_apart a b c d e =
    ap heads_bytes (append_assoc ((a ++ b) ++ c) d e ∙ append_assoc (a ++ b) c (d ++ e)
    ∙ append_assoc a b (c ++ (d ++ e)))
    ∙ flat_map-append head_bytes a (b ++ (c ++ (d ++ e)))
    ∙ ap (λ x. heads_bytes a ++ x) (flat_map-append head_bytes b (c ++ (d ++ e))
    ∙ ap (λ x. heads_bytes b ++ x) (flat_map-append head_bytes c (d ++ e)
    ∙ ap (λ x. heads_bytes c ++ x) (flat_map-append head_bytes d e)))

items_apart : (a b c d e : List Item) → heads (a ++ (b ++ (c ++ (d ++ e))))
    ≡ five (heads a) (heads b) (heads c) (heads d) (heads e)
items_apart a b c d e =
    flat_map-append item_head a (b ++ (c ++ (d ++ e)))
    ∙ ap (λ x. heads a ++ x) (flat_map-append item_head b (c ++ (d ++ e))
    ∙ ap (λ x. heads b ++ x) (flat_map-append item_head c (d ++ e)
    ∙ ap (λ x. heads c ++ x) (flat_map-append item_head d e)))

same_five : (a b c d e : List ℕ) (v w x y z : List ℕ) → a ≡ v → b ≡ w → c ≡ x → d ≡ y → e ≡ z
    → five a b c d e ≡ five v w x y z
same_five a b c d e v w x y z h i j k l = rw (h, i, j, k, l) refl

-- the heads that are listed are those of the items
pub heads_are : (kind : Kind) (e : Extensions) (lens : Lens) → AreLens kind e lens
    → heads_bytes (listed_heads lens e.sparse) ≡ heads (items kind e)
unfolding items
heads_are kind e lens h =
    heads_apart (head_if (codes "TREE") lens.tree) (head_if (codes "REUC") lens.resolve_undo)
    (head_if (codes "UNTR") lens.untracked) (head_if (codes "FSMN") lens.fs_monitor)
    (head_if (codes "sdir") (sparse_head_len e.sparse))
    ∙ same_five _ _ _ _ _ _ _ _ _ _ (head_of (codes "TREE") node_bytes lens.tree e.tree h.tree)
    (head_of (codes "REUC") resolve_undo_bytes lens.resolve_undo e.resolve_undo h.resolve_undo)
    (head_of (codes "UNTR") (cache_bytes kind) lens.untracked e.untracked h.untracked)
    (head_of (codes "FSMN") monitor_bytes lens.fs_monitor e.fs_monitor h.fs_monitor) (sparse_head e.sparse)
    ∙ sym (items_apart (item_if tree_item e.tree) (item_if resolve_undo_item e.resolve_undo)
    (item_if (cache_item kind) e.untracked) (item_if monitor_item e.fs_monitor) (sparse_items e.sparse))
