-- What is kept of a value in place of which another is written.
use Rattle.std.proofs.Common.{◌≡◌, ℕ, List, Option, Some, None, inl, inr, sym, ap, ◌∙◌}
use Rattle.gix_index.specs.Contents.{Contents}
use Rattle.gix_index.specs.EntryImage.{written}
use Rattle.gix_index.specs.Kind.{Kind}
use Rattle.gix_index.specs.Tree.{Node}
use Rattle.capi_table.specs.Fitting.{IsFitTable}
use Rattle.capi_table.specs.Overwriting.{KeepsThis, KeepsTree, Replaces, TakesPlaceOf}
use Rattle.capi_table.specs.Table.{records_of}
use Rattle.capi_table.specs.declared.over.CachedTree.{CachedTree}
use Rattle.capi_table.specs.declared.row.Row.{Row}

-- whatever becomes of the cached tree, the records stay
same_records : (o : Option Node) (v w : Contents) (tree : CachedTree) → KeepsThis o v tree w → w.records ≡ v.records
same_records None v w tree h = ap (λ (x : Contents). x.records) h.1
same_records (Some t) v w tree (inl h) = ap (λ (x : Contents). x.records) h.1
same_records (Some t) v w tree (inr h) = ap (λ (x : Contents). x.records) h.1

pub kept_records : (v w : Contents) (tree : CachedTree) → KeepsTree v tree w → w.records ≡ v.records
kept_records v w tree h = same_records v.extensions.tree v w tree h

-- what is kept of the value that has the table's records, and what holds of it
pub replaces : (kind : Kind) (paths : List ℕ) (rows : List Row) (before v w : Contents) (tree : CachedTree)
    (P : Contents → Type 0)
    → IsFitTable kind before.extensions.sparse paths rows → Replaces before paths rows v → KeepsTree v tree w
    → P w → TakesPlaceOf kind paths rows tree P before
replaces kind paths rows before v w tree P fit e keeps h = record {
  value = w;
  replaced = v;
  is_replaced = e;
  table = fit;
  kept = keeps;
  holds = h;
}

-- the records that are replaced are those of the rows that aren't left out
pub written_records : (before v : Contents) (paths : List ℕ) (rows : List Row) → Replaces before paths rows v
    → v.records ≡ written (records_of paths rows)
written_records before v paths rows (inl h) = ap (λ (x : Contents). x.records) h.1 ∙ sym h.0.are ∙ sym h.0.stay
written_records before v paths rows (inr h) = ap (λ (x : Contents). x.records) h.1
