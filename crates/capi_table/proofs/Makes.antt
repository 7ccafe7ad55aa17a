-- Which trees a table makes, by the value that it spells.
use Rattle.std.proofs.Common.{◌≡◌, ◌∙◌, ℕ, ◌<◌, ◌^◌, true, List, [], length, Some, Ok, Err, ap, subst}
use Rattle.std.specs.Prelude.{Result}
use Rattle.gix_index.specs.Contents.{Contents}
use Rattle.gix_index.specs.Kind.{Kind}
use Rattle.gix_index.specs.Record.{Record}
use Rattle.gix_index.specs.Refusals.{AreFit}
use Rattle.gix_index.specs.Staged.{staged_in}
use Rattle.gix_index.specs.TreeDirectory.{IsTreeOf, DirectoryItems, objects}
use Rattle.gix_index.specs.Trees.Objects.{Taken, with_objects}
use Rattle.entry_info.specs.Names as names
use Rattle.capi_table.specs.Fitting.{IsFitTable}
use Rattle.capi_table.specs.Writing.{IsSpelledBy}
use Rattle.capi_table.specs.declared.row.Row.{Row}
use Rattle.capi_table.specs.declared.write.Fault.{Fault}
use Rattle.capi_table.specs.Trees.{IfNoTreeRoom, IfTreesRejected, MakesTrees, Objects, records_left}
use Rattle.capi_table.specs.declared.trees.Counts.{Counts}
use Rattle.capi_table.specs.declared.trees.Unmade.{Unmade}
use Rattle.capi_table.specs.declared.trees.Unmade.TheVariants.{NoRoom, Refused, Memory}

-- a weaker statement about a result
pub passed_weaker : (r : Result Counts Unmade) (P Q : Counts → Type 0) → ((c : Counts) → P c → Q c)
    → IfNoTreeRoom r P → IfNoTreeRoom r Q
passed_weaker (Ok told) P Q f h = h
passed_weaker (Err (NoRoom told)) P Q f h = f told h
passed_weaker (Err (Refused fault)) P Q f h = h
passed_weaker (Err Memory) P Q f h = h

-- a result that is no rejection
pub unrefused : (r : Result Counts Unmade) (P : Fault → Type 0) → IfTreesRejected r (λ _. ⊥) → IfTreesRejected r P
unrefused (Ok told) P h = h
unrefused (Err (NoRoom told)) P h = h
unrefused (Err (Refused fault)) P h = absurd h
unrefused (Err Memory) P h = h

-- what is taken by a sink that had nothing
pub taken : (old new : Taken) (os : Objects) → old ≡ Some [] → new ≡ with_objects old os → new ≡ Some os
taken old new os e f = f ∙ ap (λ (o : Taken). with_objects o os) e

module _ (kind : Kind) (paths : List ℕ) (rows : List Row) (v : Contents) (s : IsSpelledBy kind paths rows v) where
  -- what holds of the value's hash algorithm and records holds of the table's
  pub of_table : (F : Kind → List Record → Type 0) → F v.kind v.records → F kind (records_left paths rows)
  of_table F h =
      subst (λ (k : Kind). F k (records_left paths rows)) s.kind_is
      (subst (λ (rs : List Record). F v.kind rs) s.records_are h)

  pub makes : (P : Objects → Type 0) (items : DirectoryItems) → IsFitTable kind true paths rows
      → AreFit names.name_rejection v.kind v.records → length v.records < 2 ^ 31
      → IsTreeOf v.kind (staged_in v.records) items → P (objects v.kind items) → MakesTrees kind paths rows P
  makes P items table fit few is_tree h = record {
    table = table;
    fit = of_table (AreFit names.name_rejection) fit;
    few = of_table (λ (k : Kind) (rs : List Record). length rs < 2 ^ 31) few;
    items = items;
    is_tree = of_table (λ (k : Kind) (rs : List Record). IsTreeOf k (staged_in rs) items) is_tree;
    holds = subst (λ (k : Kind). P (objects k items)) s.kind_is h;
  }
