-- Which signatures are among extensions that are written.
use Rattle.std.proofs.Common.{◌≡◌, ℕ, Bool, true, false, List, [], ◌∷◌, ◌++◌, Option, Some, None, refl, ap, ◌∙◌}
use Rattle.std.specs.Prelude.{◌||◌, codes}
use Rattle.std.specs.List.{list_any}
use Rattle.std.proofs.lemmas.List.Folds.{list_any-append}
use Rattle.index_parts.specs.declared.hash.Kind.{Kind}
use Rattle.ext_tree.specs.TreeImage.{tree_item}
use Rattle.index_extensions.specs.ExtensionValue.{has_signature}
use Rattle.index_extensions.specs.Walk.{Item}
use Rattle.ext_encode.specs.MonitorImage.{monitor_item}
use Rattle.ext_encode.specs.ResolveUndoImage.{resolve_undo_item}
use Rattle.ext_encode.specs.UntrackedImage.{cache_item}
use Rattle.ext_encode.specs.Chosen.{Extensions, item_if, items, sparse_items}
use Rattle.ext_encode.specs.Marked.{marked_items, marker_if}

-- whether one of six holds
abbrev any_of_six : Bool → Bool → Bool → Bool → Bool → Bool → Bool
any_of_six t r c m s e = (t || (r || (c || (m || s)))) || e

any_in : (s : List ℕ) (marker : Bool) (kind : Kind) (offset : ℕ) (e : Extensions)
    → list_any (has_signature s) (marked_items marker kind offset e) ≡ any_of_six
    (list_any (has_signature s) (item_if tree_item e.tree)) (list_any (has_signature s) (item_if resolve_undo_item e.resolve_undo))
    (list_any (has_signature s) (item_if (cache_item kind) e.untracked))
    (list_any (has_signature s) (item_if monitor_item e.fs_monitor)) (list_any (has_signature s) (sparse_items
    e.sparse))
    (list_any (has_signature s) (marker_if marker kind offset e))
unfolding items
any_in s marker kind offset e =
    let p = has_signature s in
    let t = item_if tree_item e.tree in
    let r = item_if resolve_undo_item e.resolve_undo in
    let c = item_if (cache_item kind) e.untracked in
    let m = item_if monitor_item e.fs_monitor in
    let l = sparse_items e.sparse in
    let x = list_any p (marker_if marker kind offset e) in
    list_any-append p (t ++ (r ++ (c ++ (m ++ l)))) (marker_if marker kind offset e)
    ∙ ap (λ z. z || x) (list_any-append p t (r ++ (c ++ (m ++ l)))
    ∙ ap (λ z. list_any p t || z) (list_any-append p r (c ++ (m ++ l))
    ∙ ap (λ z. list_any p r || z) (list_any-append p c (m ++ l)
    ∙ ap (λ z. list_any p c || z) (list_any-append p m l))))

same_six : (t r c m s e u v w x y z : Bool) → t ≡ u → r ≡ v → c ≡ w → m ≡ x → s ≡ y → e ≡ z
    → any_of_six t r c m s e ≡ any_of_six u v w x y z
same_six t r c m s e u v w x y z a b d f g h = rw (a, b, d, f, g, h) refl

none_named : {A : Type 0} (s : List ℕ) (item : A → Item) → ((a : A) → list_any (has_signature s) (item a ∷ []) ≡ false)
    → (o : Option A) → list_any (has_signature s) (item_if item o) ≡ false
none_named s item h None = refl
none_named s item h (Some a) = h a

mark_named : (b : Bool) → list_any (has_signature (codes "sdir")) (sparse_items b) ≡ b
mark_named true = refl
mark_named false = refl

mark_not_marker : (b : Bool) → list_any (has_signature (codes "EOIE")) (sparse_items b) ≡ false
mark_not_marker true = refl
mark_not_marker false = refl

mark_not_table : (b : Bool) → list_any (has_signature (codes "IEOT")) (sparse_items b) ≡ false
mark_not_table true = refl
mark_not_table false = refl

marker_not_mark : (marker : Bool) (kind : Kind) (offset : ℕ) (e : Extensions)
    → list_any (has_signature (codes "sdir")) (marker_if marker kind offset e) ≡ false
marker_not_mark true kind offset e = refl
marker_not_mark false kind offset e = refl

marker_named : (marker : Bool) (kind : Kind) (offset : ℕ) (e : Extensions)
    → list_any (has_signature (codes "EOIE")) (marker_if marker kind offset e) ≡ marker
marker_named true kind offset e = refl
marker_named false kind offset e = refl

marker_not_table : (marker : Bool) (kind : Kind) (offset : ℕ) (e : Extensions)
    → list_any (has_signature (codes "IEOT")) (marker_if marker kind offset e) ≡ false
marker_not_table true kind offset e = refl
marker_not_table false kind offset e = refl

mark_alone : (b : Bool) → any_of_six false false false false b false ≡ b
mark_alone true = refl
mark_alone false = refl

pub sparse : (marker : Bool) (kind : Kind) (offset : ℕ) (e : Extensions)
    → list_any (has_signature (codes "sdir")) (marked_items marker kind offset e) ≡ e.sparse
sparse marker kind offset e =
    any_in (codes "sdir") marker kind offset e ∙ same_six
    (list_any (has_signature (codes "sdir")) (item_if tree_item e.tree))
    (list_any (has_signature (codes "sdir")) (item_if resolve_undo_item e.resolve_undo))
    (list_any (has_signature (codes "sdir")) (item_if (cache_item kind) e.untracked))
    (list_any (has_signature (codes "sdir")) (item_if monitor_item e.fs_monitor))
    (list_any (has_signature (codes "sdir")) (sparse_items e.sparse))
    (list_any (has_signature (codes "sdir")) (marker_if marker kind offset e)) false false false false e.sparse false
    (none_named (codes "sdir") tree_item (λ a. refl) e.tree)
    (none_named (codes "sdir") resolve_undo_item (λ a. refl) e.resolve_undo)
    (none_named (codes "sdir") (cache_item kind) (λ a. refl) e.untracked)
    (none_named (codes "sdir") monitor_item (λ a. refl) e.fs_monitor) (mark_named e.sparse)
    (marker_not_mark marker kind offset e)
    ∙ mark_alone e.sparse

pub marked : (marker : Bool) (kind : Kind) (offset : ℕ) (e : Extensions)
    → list_any (has_signature (codes "EOIE")) (marked_items marker kind offset e) ≡ marker
marked marker kind offset e =
    any_in (codes "EOIE") marker kind offset e ∙ same_six
    (list_any (has_signature (codes "EOIE")) (item_if tree_item e.tree))
    (list_any (has_signature (codes "EOIE")) (item_if resolve_undo_item e.resolve_undo))
    (list_any (has_signature (codes "EOIE")) (item_if (cache_item kind) e.untracked))
    (list_any (has_signature (codes "EOIE")) (item_if monitor_item e.fs_monitor))
    (list_any (has_signature (codes "EOIE")) (sparse_items e.sparse))
    (list_any (has_signature (codes "EOIE")) (marker_if marker kind offset e)) false false false false false marker
    (none_named (codes "EOIE") tree_item (λ a. refl) e.tree)
    (none_named (codes "EOIE") resolve_undo_item (λ a. refl) e.resolve_undo)
    (none_named (codes "EOIE") (cache_item kind) (λ a. refl) e.untracked)
    (none_named (codes "EOIE") monitor_item (λ a. refl) e.fs_monitor) (mark_not_marker e.sparse)
    (marker_named marker kind offset e)

pub tabled : (marker : Bool) (kind : Kind) (offset : ℕ) (e : Extensions)
    → list_any (has_signature (codes "IEOT")) (marked_items marker kind offset e) ≡ false
tabled marker kind offset e =
    any_in (codes "IEOT") marker kind offset e ∙ same_six
    (list_any (has_signature (codes "IEOT")) (item_if tree_item e.tree))
    (list_any (has_signature (codes "IEOT")) (item_if resolve_undo_item e.resolve_undo))
    (list_any (has_signature (codes "IEOT")) (item_if (cache_item kind) e.untracked))
    (list_any (has_signature (codes "IEOT")) (item_if monitor_item e.fs_monitor))
    (list_any (has_signature (codes "IEOT")) (sparse_items e.sparse))
    (list_any (has_signature (codes "IEOT")) (marker_if marker kind offset e)) false false false false false false
    (none_named (codes "IEOT") tree_item (λ a. refl) e.tree)
    (none_named (codes "IEOT") resolve_undo_item (λ a. refl) e.resolve_undo)
    (none_named (codes "IEOT") (cache_item kind) (λ a. refl) e.untracked)
    (none_named (codes "IEOT") monitor_item (λ a. refl) e.fs_monitor) (mark_not_table e.sparse)
    (marker_not_table marker kind offset e)
