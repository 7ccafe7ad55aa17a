-- An index that passes its checks still passes them after changes.
use Rattle.std.proofs.Common.{◌+◌, ◌<◌, ◌^◌, List, Option, Some, None, length, arith}
use Rattle.std.specs.Prelude.{IfSome}
use Rattle.std.specs.Option.{option_map}
use Rattle.index_parts.specs.declared.hash.Kind.{Kind}
use Rattle.ext_tree.specs.Sound.{CountsAtMost, IsSoundTree}
use Rattle.ext_tree.specs.Tree.{Node}
use Rattle.entry_list.specs.Record.{Record}
use Rattle.entry_edit.specs.Changes.{applied}
use Rattle.entry_edit.specs.Refusals.{Check}
use Rattle.entry_edit.specs.declared.change.Change.{Change}
use Rattle.index_model.specs.Contents.{Contents}
use Rattle.tree_encode.specs.Refusals.{AreFit}
use Rattle.tree_encode.specs.Staged.{merged_in}
use Rattle.tree_encode.specs.TreeIds.{AreRight, any_name}
use Rattle.index_edit.specs.Invalidated.{all_invalidated}
use Rattle.index_edit.specs.Updates.{updated}
use Rattle.index_edit_laws.proofs.Counts.{counts_within}
use Rattle.index_edit_laws.proofs.EntriesStayFit.{any_fit, entries_ordered}
use Rattle.index_edit_laws.proofs.MergedCounts.{merged_more}
use Rattle.index_edit_laws.proofs.RightTrees.{right_stays}
use Rattle.index_edit_laws.proofs.SoundTrees.{sound_in_order, sound_stays}
use Rattle.index_edit_laws.specs.SoundIndex.{IsSoundIndex}
use Rattle.index_edit_laws.specs.Faultless.{AreFaultless}

module _ (kind : Kind) (cs : List Change) (rs : List Record) where
  abbrev now : List Record
  now = applied cs rs

  right_there : (o : Option Node) → IfSome o (λ t. IsSoundTree t × CountsAtMost (length rs) t)
      → IfSome o (AreRight kind rs) → IfSome (option_map (all_invalidated cs) o) (AreRight kind now)
  right_there None s r = tt
  right_there (Some t) s r = right_stays kind cs rs t (sound_in_order t s.0) r

  together_there : (o : Option Node) → IfSome o (λ t. IsSoundTree t × CountsAtMost (length rs) t)
      → IfSome o (AreRight kind rs)
      → IfSome (option_map (all_invalidated cs) o) (λ t. IsSoundTree t × CountsAtMost (length now) t)
  together_there None s r = tt
  together_there (Some t) s r = (
    sound_stays cs t s.0,
    counts_within kind now (all_invalidated cs t) (right_stays kind cs rs t (sound_in_order t s.0) r),
  )

  fit_there : (o : Option Node) → (AreFit any_name kind (merged_in rs) → AreFit any_name kind (merged_in now))
      → IfSome o (λ t. AreFit any_name kind (merged_in rs))
      → IfSome (option_map (all_invalidated cs) o) (λ t. AreFit any_name kind (merged_in now))
  fit_there None f h = tt
  fit_there (Some t) f h = f h

  few_there : (o : Option Node) → length (merged_in now) < 2 ^ 31
      → IfSome (option_map (all_invalidated cs) o) (λ t. length (merged_in now) < 2 ^ 31)
  few_there None n = tt
  few_there (Some t) n = n

pub index_stays : (check : Check) (cs : List Change) (v : Contents) → AreFaultless check v.kind cs v.records
    → length (merged_in v.records) + length cs < 2 ^ 31 → IsSoundIndex v → IsSoundIndex (updated cs v)
index_stays check cs v f n h =
    let tree = v.extensions.tree in
    record {
      ordered = entries_ordered cs v.records h.ordered;
      together = together_there v.kind cs v.records tree h.together h.right;
      right = right_there v.kind cs v.records tree h.together h.right;
      fit = fit_there v.kind cs v.records tree (any_fit check v.kind cs v.records f) h.fit;
      few = few_there v.kind cs v.records tree (omega (arith, n, merged_more cs v.records));
    }
