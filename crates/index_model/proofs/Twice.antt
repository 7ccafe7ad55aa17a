-- What a file keeps of what it kept is the same.
use Rattle.std.proofs.Common.{◌≡◌, ℕ, Bool, true, false, cond, ◌||◌, List, Option, None, length, refl, ap, ◌∙◌}
use Rattle.std.specs.Prelude.{codes}
use Rattle.std.specs.Option.{option_map}
use Rattle.ext_tree.specs.StoredTree.{stored_node}
use Rattle.ext_tree.specs.Tree.{Node}
use Rattle.entry_list.specs.EntryImage.{stored_records, written}
use Rattle.entry_list.specs.Record.{Record, has_directory}
use Rattle.entry_list.proofs.Kept.{records_twice}
use Rattle.ext_encode.specs.Chosen.{Extensions as Chosen}
use Rattle.ext_small.specs.FsMonitor.{Monitor}
use Rattle.ext_untracked.specs.Untracked.{Cache}
use Rattle.index_model.specs.declared.write.Options.{Options}
use Rattle.index_model.specs.Contents.{Contents}
use Rattle.index_model.specs.Image.{asks_for, fits_written, is_kept}
use Rattle.index_model.specs.Kept.{cache_with_names, kept, monitor_within, tree_and_mark}
use Rattle.index_model.specs.Stored.{stored}
use Rattle.index_model.proofs.KeptExtensions.{cache_again, count_again, fit_again, fits_again, monitor_again}
use Rattle.index_model.proofs.KeptExtensions.{ordered_again, tree_again}

or_twice : (a b : Bool) → ((a || b) || b) ≡ (a || b)
or_twice true b = refl
or_twice false true = refl
or_twice false false = refl

abbrev with_kept : Contents → Chosen → List Record → Bool → Option Node → Option Cache → Option Monitor → Contents
with_kept v e rs a t c m = record v {
  records = rs;
  extensions = record v.extensions {
    sparse = a;
    tree = t;
    link = None;
    resolve_undo = e.resolve_undo;
    untracked = c;
    fs_monitor = m;
  };
}

with_parts : (v : Contents) (e : Chosen) (rs ss : List Record) (a b : Bool) (t u : Option Node) (c d : Option Cache)
    (m n : Option Monitor) → rs ≡ ss → a ≡ b → t ≡ u → c ≡ d → m ≡ n
    → ◌≡◌ {A = Contents} (with_kept v e rs a t c m) (with_kept v e ss b u d n)
with_parts v e rs ss a b t u c d m n h i j k l = rw (h, i, j, k, l) refl

-- the extensions that are chosen, by whether all is kept, and whether a cached tree is asked for
abbrev chosen_by : Bool → Bool → Contents → Chosen
chosen_by all asked v = cond all (kept (fits_written v) (length (written v.records)) v.extensions) (tree_and_mark asked v.extensions)

abbrev stored_by : Bool → Bool → Contents → Contents
stored_by all asked v = with_kept v (chosen_by all asked v) (stored_records v.records)
    (v.extensions.sparse || has_directory (stored_records v.records))
    (option_map (stored_node v.kind) (chosen_by all asked v).tree) (chosen_by all asked v).untracked
    (chosen_by all asked v).fs_monitor

twice_by : (all asked : Bool) (v : Contents) → stored_by all asked (stored_by all asked v) ≡ stored_by all asked v
twice_by all asked v =
    let rs : List Record = stored_records v.records in
    let again : stored_records rs ≡ rs = records_twice v.records in
    let sparse : (v.extensions.sparse || has_directory rs || has_directory (stored_records rs))
    ≡ (v.extensions.sparse || has_directory rs) =
    ap (λ (l : List Record). v.extensions.sparse || has_directory rs || has_directory l) again
    ∙ or_twice v.extensions.sparse (has_directory rs) in
    by all again sparse
  where
    by : (k : Bool) → stored_records (stored_records v.records) ≡ stored_records v.records
        → (v.extensions.sparse || has_directory (stored_records v.records)
        || has_directory (stored_records (stored_records v.records)))
        ≡ (v.extensions.sparse || has_directory (stored_records v.records))
        → stored_by k asked (stored_by k asked v) ≡ stored_by k asked v
    by true again sparse =
        let n : ℕ = length (written v.records) in
        let more : ℕ = length (written (stored_records v.records)) in
        let fit : Bool = fits_written v in
        let now : Bool = fits_written (stored_by true asked v) in
        let fits : fit ≡ true → now ≡ true = fits_again v.fit v.records in
        with_parts v (kept fit n v.extensions) _ _ _ _ _ _ _ _ _ _ again sparse
        (ordered_again v.kind now fit v.extensions.tree fits)
        (fit_again now fit cache_with_names cache_with_names v.extensions.untracked fits
        (cache_again fit v.extensions.untracked))
        (fit_again now fit (monitor_within n) (monitor_within more) v.extensions.fs_monitor fits
        (monitor_again fit more n v.extensions.fs_monitor (count_again v.records)))
    by false again sparse = with_parts v (tree_and_mark asked v.extensions) _ _ _ _ _ _ _ _ _ _ again sparse
        (tree_again v.kind asked asked v.extensions.tree (λ e. e)) refl refl

-- what a file keeps of what it kept is the same
pub stored_twice : (v : Contents) (options : Options) → stored (stored v options) options ≡ stored v options
stored_twice v options = twice_by (is_kept options.extensions) (asks_for options.extensions (codes "TREE")) v
