-- What is written of extensions has no fault, and is read as them.
use Rattle.std.proofs.Common.{◌≡◌, ℕ, ◌<◌, ◌^◌, Bool, true, false, cond, List, [], ◌∷◌, ◌++◌, length, Option, Some, None}
use Rattle.std.proofs.Common.{refl, sym, subst}
use Rattle.std.specs.Prelude.{IfSome, codes}
use Rattle.std.specs.List.{flat_map}
use Rattle.std.specs.Option.{option_map}
use Rattle.std.proofs.lemmas.List.Elements.{All-nil, All-cons, All-append}
use Rattle.index_parts.specs.declared.hash.Kind.{Kind}
use Rattle.ext_tree.specs.StoredTree.{IsStorableTree, stored_node}
use Rattle.ext_tree.specs.Tree.{IsTree}
use Rattle.ext_tree.specs.TreeImage.{node_bytes, tree_item}
use Rattle.ext_tree.proofs.WrittenTrees.{tree_again}
use Rattle.index_extensions.specs.EndMarker.{heads}
use Rattle.index_extensions.specs.Encoding.{item_bytes, item_of, marker_item}
use Rattle.index_extensions.specs.ExtensionValue.{IsValue, has_signature}
use Rattle.index_extensions.specs.Walk.{Item}
use Rattle.ext_encode.specs.MonitorImage.{monitor_bytes, monitor_item}
use Rattle.ext_encode.specs.ResolveUndoImage.{resolve_undo_bytes, resolve_undo_item}
use Rattle.ext_encode.specs.UntrackedImage.{cache_bytes, cache_item}
use Rattle.ext_encode.proofs.CacheAgain.{cache_there}
use Rattle.ext_encode.proofs.WrittenMonitors.{monitor_there}
use Rattle.ext_encode.proofs.WrittenPaths.{resolve_undo_there}
use Rattle.ext_small.specs.FsMonitor.{IsMonitor}
use Rattle.ext_small.specs.ResolveUndo.{IsResolveUndo}
use Rattle.ext_split.specs.Link.{IsLink}
use Rattle.ext_untracked.specs.Untracked.{IsCache}
use Rattle.ext_encode.specs.Chosen.{Extensions, item_if, items, sparse_items}
use Rattle.ext_encode.specs.Marked.{AreSpellable, marked_items, marker_if}
use Rattle.ext_encode.proofs.Contents.{last_cache, last_link, last_monitor, last_tree, last_undo, value_of}
use Rattle.ext_encode.proofs.Signatures.{marked, sparse, tabled}
use Rattle.entry_list.specs.EntryImage.{written}
use Rattle.index_model.specs.Contents.{Contents}
use Rattle.index_model.specs.Image.{chosen_extensions, fits_written, is_kept, extension_items, asks_for}
use Rattle.index_model.specs.Keepable.{AreKeepable}
use Rattle.index_model.specs.Kept.{kept, read_as, tree_and_mark}
use Rattle.index_model.specs.Outcome.{ExtensionFault, is_understood, IsFault, unknown, broken_link, AreSound}
use Rattle.index_model.specs.Outcome.{IsOutcome}
use Rattle.index_model.specs.Storable.{IsKeepable, IsStorable}
use Rattle.index_model.specs.declared.write.Options.{Options}
use Rattle.index_model.proofs.KeptExtensions.{fit_has, kept_spellable}

-- ---- no fault

abbrev IsSound : Kind → Item → Type 0
IsSound kind i = (fault : ExtensionFault) → IsFault kind i fault → ⊥

item_sound : (kind : Kind) (i : Item) → is_understood i.signature i.content ≡ true
    → has_signature (codes "link") i ≡ false
    → (fault : ExtensionFault) → IsFault kind i fault → ⊥
item_sound kind i e n fault (unknown f is) = absurd cc
item_sound kind i e n fault (broken_link l named f is) = absurd cc

one_sound : (kind : Kind) (i : Item) → is_understood i.signature i.content ≡ true
    → has_signature (codes "link") i ≡ false
    → AreSound kind (i ∷ [])
one_sound kind i e n = All-cons (IsSound kind) i [] (item_sound kind i e n) (All-nil (IsSound kind))

if_sound : {A : Type 0} (kind : Kind) (item : A → Item)
    → ((a : A) → is_understood (item a).signature (item a).content ≡ true)
    → ((a : A) → has_signature (codes "link") (item a) ≡ false) → (o : Option A) → AreSound kind (item_if item o)
if_sound kind item e n None = All-nil (IsSound kind)
if_sound kind item e n (Some a) = one_sound kind (item a) (e a) (n a)

sparse_sound : (kind : Kind) (sparse : Bool) → AreSound kind (sparse_items sparse)
sparse_sound kind true = one_sound kind (item_of (codes "sdir") []) refl refl
sparse_sound kind false = All-nil (IsSound kind)

marker_sound : (marker : Bool) (kind : Kind) (offset : ℕ) (e : Extensions)
    → AreSound kind (marker_if marker kind offset e)
marker_sound true kind offset e = one_sound kind (marker_item kind offset (heads (items kind e))) refl refl
marker_sound false kind offset e = All-nil (IsSound kind)

both_sound : (kind : Kind) (xs ys : List Item) → AreSound kind xs → AreSound kind ys → AreSound kind (xs ++ ys)
both_sound kind xs ys h k = All-append (IsSound kind) xs ys h k

pub all_sound : (marker : Bool) (kind : Kind) (offset : ℕ) (e : Extensions)
    → AreSound kind (marked_items marker kind offset e)
unfolding items
all_sound marker kind offset e =
    let t = item_if tree_item e.tree in
    let r = item_if resolve_undo_item e.resolve_undo in
    let c = item_if (cache_item kind) e.untracked in
    let m = item_if monitor_item e.fs_monitor in
    let l = sparse_items e.sparse in
    both_sound kind (t ++ (r ++ (c ++ (m ++ l)))) (marker_if marker kind offset e)
    (both_sound kind t (r ++ (c ++ (m ++ l))) (if_sound kind tree_item (λ a. refl) (λ a. refl) e.tree)
    (both_sound kind r (c ++ (m ++ l)) (if_sound kind resolve_undo_item (λ a. refl) (λ a. refl) e.resolve_undo)
    (both_sound kind c (m ++ l) (if_sound kind (cache_item kind) (λ a. refl) (λ a. refl) e.untracked)
    (both_sound kind m l (if_sound kind monitor_item (λ a. refl) (λ a. refl) e.fs_monitor)
    (sparse_sound kind e.sparse))))) (marker_sound marker kind offset e)

-- ---- what is read of them

if_each : {A : Type 0} {P Q : A → Type 0} → ((a : A) → P a → Q a) → (o : Option A) → IfSome o P → IfSome o Q
if_each h None k = tt
if_each h (Some a) k = h a k

same_map : {A : Type 0} (o : Option A) → option_map (λ a. a) o ≡ o
same_map None = refl
same_map (Some a) = refl

-- a value that is read as itself
own_value : {A : Type 0} (Is : List ℕ → A → Type 0) (bytes : A → List ℕ) (o : Option A) (content : Option (List ℕ))
    → content ≡ option_map bytes o → IfSome o (λ a. Is (bytes a) a) → IsValue Is content o
own_value {A} Is bytes o content h k =
    subst (λ (x : Option A). IsValue Is content x) (same_map o) (value_of Is bytes (λ a. a) o content h k)

-- no content, no value
no_value : {A : Type 0} (Is : List ℕ → A → Type 0) (content : Option (List ℕ)) → content ≡ None
    → IsValue Is content None
no_value {A} Is content h = subst (λ (x : Option (List ℕ)). IsValue Is x None) (sym h) refl

-- what a reader without a limit has of them
pub read_back : (marker : Bool) (kind : Kind) (offset : ℕ) (e : Extensions) → AreSpellable kind e
    → IsOutcome kind None (marked_items marker kind offset e) (read_as marker kind e)
read_back marker kind offset e h = record {
  tree = value_of (IsTree kind None) node_bytes (stored_node kind) e.tree _ (last_tree marker kind offset e)
      (if_each (tree_again kind) e.tree h.tree);
  link = no_value (IsLink kind) _ (last_link marker kind offset e);
  resolve_undo = own_value (IsResolveUndo kind) resolve_undo_bytes e.resolve_undo _ (last_undo marker kind offset e)
      (if_each (resolve_undo_there kind) e.resolve_undo h.resolve_undo);
  untracked = own_value (IsCache kind None) (cache_bytes kind) e.untracked _ (last_cache marker kind offset e)
      (if_each (cache_there kind None) e.untracked h.untracked);
  fs_monitor = own_value IsMonitor monitor_bytes e.fs_monitor _ (last_monitor marker kind offset e)
      (if_each monitor_there e.fs_monitor h.fs_monitor);
  sparse = sym (sparse marker kind offset e);
  had_end_marker = sym (marked marker kind offset e);
  had_offset_table = sym (tabled marker kind offset e);
}

-- the extensions that are chosen of a storable index can be spelled
pub chosen_spellable : (v : Contents) (options : Options) → IsStorable v → IsKeepable v options
    → length (flat_map item_bytes (extension_items v options)) < 2 ^ 32
    → AreSpellable v.kind (chosen_extensions v options)
chosen_spellable v options h keepable small = by (is_kept options.extensions) keepable small
  where
    by : (k : Bool) → (k ≡ true → AreKeepable v.kind v.extensions)
        → length (flat_map item_bytes (items v.kind (cond k
        (kept (fits_written v) (length (written v.records)) v.extensions)
        (tree_and_mark (asks_for options.extensions (codes "TREE")) v.extensions)))) < 2 ^ 32
        → AreSpellable v.kind (cond k (kept (fits_written v) (length (written v.records)) v.extensions)
        (tree_and_mark (asks_for options.extensions (codes "TREE")) v.extensions))
    by true k lt = kept_spellable v.kind (fits_written v) (length (written v.records)) v.extensions h.tree (k refl) lt
    by false k lt = record {
      tree = fit_has (IsStorableTree v.kind) (asks_for options.extensions (codes "TREE")) v.extensions.tree h.tree;
      resolve_undo = tt;
      untracked = tt;
      fs_monitor = tt;
      small = lt;
    }
