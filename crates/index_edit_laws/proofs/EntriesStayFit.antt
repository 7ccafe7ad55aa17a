-- Entries that have trees still have them after changes.
use Rattle.std.proofs.Common.{◌≡◌, ℕ, false, List, [], ◌∷◌, All, None, refl}
use Rattle.std.proofs.lemmas.List.Elements.{All-head, All-tail, All-weaker}
use Rattle.index_parts.specs.declared.hash.Kind.{Kind}
use Rattle.index_parts.specs.NameCheck.{refusal_as}
use Rattle.index_parts.specs.declared.object.tree.EntryKind.{EntryKind}
use Rattle.index_parts.specs.declared.object.tree.EntryKind.TheVariants as kinds
use Rattle.entry_list.specs.Order.{IsStrictlyOrdered}
use Rattle.entry_list.specs.Record.{Record}
use Rattle.entry_edit.specs.Changes.{applied, applied_one, change_path}
use Rattle.entry_edit.specs.Refusals.{Check}
use Rattle.entry_edit.specs.Wholes.{lies_in_whole}
use Rattle.entry_edit.specs.declared.change.Change.{Change}
use Rattle.entry_edit.proofs.Swaps.{one_ordered}
use Rattle.tree_encode.specs.Refusals.{AreFit}
use Rattle.tree_encode.specs.Staged.{merged_in}
use Rattle.tree_encode.specs.TreeIds.{any_name}
use Rattle.index_edit_laws.proofs.ApartEntries.{apart_then, outside_then}
use Rattle.index_edit_laws.proofs.FitEntries.{each_fit}
use Rattle.index_edit_laws.proofs.WholeDirectories.{all_outside}
use Rattle.index_edit_laws.specs.Faultless.{AreFaultless, StagesFaultless}

pub entries_ordered : (cs : List Change) (rs : List Record) → IsStrictlyOrdered rs → IsStrictlyOrdered (applied cs rs)
unfolding applied
entries_ordered [] rs o = o
entries_ordered (c ∷ cs) rs o = entries_ordered cs (applied_one c rs) (one_ordered c rs o)

module _ (check pass : Check) (kind : Kind)
    (weaker : (name : List ℕ) (j : EntryKind) → refusal_as check name j ≡ None → refusal_as pass name j ≡ None) where
  stay_fit : (cs : List Change) (rs : List Record) → All (StagesFaultless check kind) cs
      → All (λ c. lies_in_whole (change_path c) rs ≡ false) cs → AreFit pass kind (merged_in rs)
      → AreFit pass kind (merged_in (applied cs rs))
  unfolding applied
  stay_fit [] rs s o a = a
  stay_fit (c ∷ cs) rs s o a =
      let Q = StagesFaultless check kind in
      let Out = λ (d : Change). lies_in_whole (change_path d) rs ≡ false in
      let now = applied_one c rs in
      let f = All-head Q c cs s in
      stay_fit cs now (All-tail Q c cs s)
      (All-weaker Out (λ d. lies_in_whole (change_path d) now ≡ false) (λ d h. outside_then check pass kind c rs f (change_path d) h)
      cs (All-tail Out c cs o)) (record {
        each = each_fit check pass kind weaker c rs f a;
        apart = apart_then check pass kind c rs f (All-head Out c cs o) a;
      })

-- a check that lets each name pass does
any_passes : (name : List ℕ) (k : EntryKind) → refusal_as any_name name k ≡ None
any_passes name kinds.Tree = refl
any_passes name kinds.Blob = refl
any_passes name kinds.BlobExecutable = refl
any_passes name kinds.Link = refl
any_passes name kinds.Commit = refl

module _ (check : Check) (kind : Kind) (cs : List Change) (rs : List Record) (f : AreFaultless check kind cs rs) where
  pub any_fit : AreFit any_name kind (merged_in rs) → AreFit any_name kind (merged_in (applied cs rs))
  any_fit a = stay_fit check any_name kind (λ name k e. any_passes name k) cs rs f.each (all_outside cs rs f.outside) a

  pub checked_fit : AreFit check kind (merged_in rs) → AreFit check kind (merged_in (applied cs rs))
  checked_fit a = stay_fit check check kind (λ name k e. e) cs rs f.each (all_outside cs rs f.outside) a
