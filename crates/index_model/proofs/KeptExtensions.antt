-- What is kept of extensions can be spelled, and is kept again.
use Rattle.std.proofs.Common.{◌≡◌, ℕ, ◌^◌, ◌<◌, ◌&&◌, Bool, true, false, cond, eqb, List, length, Option, Some, None}
use Rattle.std.proofs.Common.{refl, ap, sym, ◌∙◌}
use Rattle.std.specs.Prelude.{IfSome}
use Rattle.std.specs.List.{flat_map}
use Rattle.std.specs.Option.{option_map}
use Rattle.std.proofs.lemmas.Bool.{eq-eqb}
use Rattle.std.proofs.lemmas.List.{length-map}
use Rattle.index_parts.specs.declared.hash.Kind.{Kind}
use Rattle.ext_tree.specs.GitOrder.{in_git_order}
use Rattle.ext_tree.specs.StoredTree.{IsStorableTree, stored_node}
use Rattle.ext_tree.specs.Tree.{Node}
use Rattle.ext_tree.proofs.GitOrdered.{storable_in_git_order, stored_in_git_order}
use Rattle.ext_tree.proofs.KeptTrees.{node_twice}
use Rattle.entry_list.specs.EntryImage.{stored_record, stored_records, written}
use Rattle.entry_list.specs.Record.{Record}
use Rattle.entry_list.proofs.Kept.{written_stored}
use Rattle.index_extensions.specs.Encoding.{item_bytes}
use Rattle.ext_encode.specs.MonitorImage.{IsSpellableMonitor}
use Rattle.ext_encode.specs.MonitorPlaces.{monitor_is_within}
use Rattle.ext_encode.specs.SpellableCache.{IsSpellableCache, names_are_some}
use Rattle.index_model.specs.Outcome.{Outcome}
use Rattle.ext_small.specs.FsMonitor.{Monitor}
use Rattle.ext_untracked.specs.Untracked.{Cache}
use Rattle.ext_encode.specs.Chosen.{items}
use Rattle.ext_encode.specs.Marked.{AreSpellable}
use Rattle.index_model.specs.Keepable.{AreKeepable}
use Rattle.index_model.specs.Kept.{cache_with_names, kept, monitor_within, where_fit}

pub fit_has : {A : Type 0} (P : A → Type 0) (fit : Bool) (o : Option A) → IfSome o P → IfSome (where_fit fit o) P
fit_has P true o h = h
fit_has P false o h = tt

ordered_has : (kind : Kind) (tree : Option Node) → IfSome tree (IsStorableTree kind)
    → IfSome (option_map in_git_order tree) (IsStorableTree kind)
ordered_has kind None h = tt
ordered_has kind (Some t) h = storable_in_git_order kind t h

cache_has : (kind : Kind) (o : Option Cache)
    → IfSome o (λ c. names_are_some c ≡ true → IsSpellableCache kind None c)
    → IfSome (cache_with_names o) (IsSpellableCache kind None)
cache_has kind None h = tt
cache_has kind (Some c) h = by (names_are_some c) refl
  where
    by : (b : Bool) → names_are_some c ≡ b → IfSome (cond b (Some c) None) (IsSpellableCache kind None)
    by true e = h e
    by false e = tt

monitor_has : (P : Monitor → Type 0) (count : ℕ) (o : Option Monitor) → IfSome o P → IfSome (monitor_within count o) P
monitor_has P count None h = tt
monitor_has P count (Some m) h = by (monitor_is_within count m)
  where
    by : (b : Bool) → IfSome (cond b (Some m) None) P
    by true = h
    by false = tt

pub kept_spellable : (kind : Kind) (fit : Bool) (count : ℕ) (o : Outcome) → IfSome o.tree (IsStorableTree kind)
    → AreKeepable kind o
    → length (flat_map item_bytes (items kind (kept fit count o))) < 2 ^ 32 → AreSpellable kind (kept fit count o)
kept_spellable kind fit count o tree h small = record {
  tree = ordered_has kind (where_fit fit o.tree) (fit_has (IsStorableTree kind) fit o.tree tree);
  resolve_undo = h.resolve_undo;
  untracked = fit_has (IsSpellableCache kind None) fit (cache_with_names o.untracked)
      (cache_has kind o.untracked h.untracked);
  fs_monitor = fit_has IsSpellableMonitor fit (monitor_within count o.fs_monitor)
      (monitor_has IsSpellableMonitor count o.fs_monitor h.fs_monitor);
  small = small;
}

-- ---- what was kept is kept

pub fit_twice : {A : Type 0} (fit : Bool) (f : Option A → Option A) → ((o : Option A) → f (f o) ≡ f o)
    → (f None ≡ None) → (o : Option A) → f (where_fit fit (f o)) ≡ where_fit fit (f o)
fit_twice true f twice none o = twice o
fit_twice false f twice none o = none

-- what fitted fits again
pub fit_again : {A : Type 0} (again fit : Bool) (f g : Option A → Option A) (o : Option A) → (fit ≡ true → again ≡ true)
    → g (where_fit fit (f o)) ≡ where_fit fit (f o) → where_fit again (g (where_fit fit (f o))) ≡ where_fit fit (f o)
fit_again true fit f g o fits h = h
fit_again false true f g o fits h = let e : false ≡ true = fits refl in absurd cc
fit_again false false f g o fits h = refl

pub tree_again : (kind : Kind) (again fit : Bool) (tree : Option Node) → (fit ≡ true → again ≡ true)
    → option_map (stored_node kind) (where_fit again (option_map (stored_node kind) (where_fit fit tree)))
    ≡ option_map (stored_node kind) (where_fit fit tree)
tree_again kind true true None fits = refl
tree_again kind true true (Some t) fits = ap (λ (u : Node). Some u) (node_twice kind t)
tree_again kind true false tree fits = refl
tree_again kind false true tree fits = let e : false ≡ true = fits refl in absurd cc
tree_again kind false false tree fits = refl

-- a tree of which a file keeps all
pub tree_stays : (kind : Kind) (fit : Bool) (tree : Option Node) → IfSome tree (λ t. stored_node kind t ≡ t)
    → option_map (stored_node kind) (where_fit fit tree) ≡ where_fit fit tree
tree_stays kind true None h = refl
tree_stays kind true (Some t) h = ap (λ (u : Node). Some u) h
tree_stays kind false tree h = refl

-- git's order is no part of what a file keeps of a tree
pub ordered_stays : (kind : Kind) (tree : Option Node)
    → option_map (stored_node kind) (option_map in_git_order tree) ≡ option_map (stored_node kind) tree
ordered_stays kind None = refl
ordered_stays kind (Some t) = ap (λ (u : Node). Some u) (stored_in_git_order kind t)

pub ordered_again : (kind : Kind) (again fit : Bool) (tree : Option Node) → (fit ≡ true → again ≡ true)
    → option_map (stored_node kind) (option_map in_git_order (where_fit again (option_map (stored_node kind)
    (option_map in_git_order (where_fit fit tree)))))
    ≡ option_map (stored_node kind) (option_map in_git_order (where_fit fit tree))
ordered_again kind again fit tree fits =
    let kept : option_map (stored_node kind) (option_map in_git_order (where_fit fit tree))
    ≡ option_map (stored_node kind) (where_fit fit tree) = ordered_stays kind (where_fit fit tree) in
    ap (λ (o : Option Node). option_map (stored_node kind) (option_map in_git_order (where_fit again o))) kept
    ∙ ordered_stays kind (where_fit again (option_map (stored_node kind) (where_fit fit tree)))
    ∙ tree_again kind again fit tree fits ∙ sym kept

-- a tree of which a file keeps all, in git's order
pub ordered_whole : (kind : Kind) (fit : Bool) (tree : Option Node) → IfSome tree (λ t. stored_node kind t ≡ t)
    → option_map (stored_node kind) (option_map in_git_order (where_fit fit tree)) ≡ where_fit fit tree
ordered_whole kind fit tree h = ordered_stays kind (where_fit fit tree) ∙ tree_stays kind fit tree h

pub where_twice : {A : Type 0} (fit : Bool) (o : Option A) → where_fit fit (where_fit fit o) ≡ where_fit fit o
where_twice true o = refl
where_twice false o = refl

names_twice : (o : Option Cache) → cache_with_names (cache_with_names o) ≡ cache_with_names o
names_twice None = refl
names_twice (Some c) = by (names_are_some c) refl
  where
    by : (b : Bool) → names_are_some c ≡ b
        → cache_with_names (cond b (Some c) None) ≡ cond b (Some c) None
    by true e = ap (λ (x : Bool). cond x (Some c) None) e
    by false e = refl

pub cache_again : (fit : Bool) (o : Option Cache)
    → cache_with_names (where_fit fit (cache_with_names o)) ≡ where_fit fit (cache_with_names o)
cache_again fit o = fit_twice fit cache_with_names names_twice refl o

bits_twice : (count : ℕ) (o : Option Monitor) → monitor_within count (monitor_within count o) ≡ monitor_within count o
bits_twice count None = refl
bits_twice count (Some m) = by (monitor_is_within count m) refl
  where
    by : (b : Bool) → monitor_is_within count m ≡ b
        → monitor_within count (cond b (Some m) None) ≡ cond b (Some m) None
    by true e = ap (λ (x : Bool). cond x (Some m) None) e
    by false e = refl

pub monitor_again : (fit : Bool) (more count : ℕ) (o : Option Monitor) → more ≡ count
    → monitor_within more (where_fit fit (monitor_within count o)) ≡ where_fit fit (monitor_within count o)
monitor_again fit more count o e =
    ap (λ (n : ℕ). monitor_within n (where_fit fit (monitor_within count o))) e
    ∙ fit_twice fit (monitor_within count) (bits_twice count) refl o

-- as many records are written again
pub count_again : (rs : List Record) → length (written (stored_records rs)) ≡ length (written rs)
count_again rs = ap length (written_stored (written rs)) ∙ length-map (written rs) stored_record

-- and none of those that a file has is left out
pub all_written : (rs : List Record) → eqb (length (written (stored_records rs))) (length (stored_records rs)) ≡ true
all_written rs =
    ap (λ (l : List Record). eqb (length l) (length (stored_records rs))) (written_stored (written rs))
    ∙ eq-eqb (length (stored_records rs)) (length (stored_records rs)) refl

-- what fitted the records that were written fits them again
pub fits_again : (fit : Bool) (rs : List Record) → (fit && eqb (length (written rs)) (length rs)) ≡ true
    → (fit && eqb (length (written (stored_records rs))) (length (stored_records rs))) ≡ true
fits_again true rs e = all_written rs
fits_again false rs e = e

-- ---- what is kept is all

pub same_cache : (o : Option Cache) → IfSome o (λ c. names_are_some c ≡ true) → cache_with_names o ≡ o
same_cache None h = refl
same_cache (Some c) h = ap (λ b. cond b (Some c) None) h

pub same_monitor : (count : ℕ) (o : Option Monitor) → IfSome o (λ m. monitor_is_within count m ≡ true)
    → monitor_within count o ≡ o
same_monitor count None h = refl
same_monitor count (Some m) h = ap (λ b. cond b (Some m) None) h
