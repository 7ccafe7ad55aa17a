-- The faults of a cached tree by itself, and then those of its counts against the index.
use Rattle.std.proofs.Common.{◌≡◌, ℕ, inr, true, false, Option, Some, None, Result, Ok, Err, IfErr, IsOk, refl}
use Rattle.ext_tree.specs.Agreement.{Trees}
use Rattle.index_extensions.specs.ExtensionValue.{option_or}
use Rattle.ext_tree.specs.Sound.{IsSoundTree, CountsAtMost}
use Rattle.ext_tree.specs.Tree.{Node}
use Rattle.ext_tree.specs.TreeFaults.{TreeFault, root_with_name, too_few_counted, too_many_entries}
use Rattle.ext_tree.specs.TreeFaults.{out_of_order, no_tree, missing_directory, other_number, too_many_counted}
use Rattle.ext_tree.specs.TreeFaults.{tree_fault, first_fault, excess_in, IsErrorOf, Judges, NodeCause}
use Rattle.ext_tree.specs.declared.verify.Error.{Error}
use Rattle.ext_tree.specs.declared.verify.Error.TheVariants as errors
use Rattle.ext_tree.proofs.Sounds.{no_fault_of, no_fault_with, says_after}
use Rattle.index_state.specs.SoundState.{JudgesExtensions}

-- each fault has an error
error_of : (fault : TreeFault) → (e : Error) × IsErrorOf e fault
error_of (root_with_name name) = (errors.Memory, tt)
error_of (too_few_counted actual expected) = (errors.EntriesCount actual expected, refl)
error_of too_many_entries = (errors.EntriesCountOverflow, refl)
error_of (out_of_order parent current previous) = (errors.Memory, tt)
error_of (too_many_counted name actual expected) = (errors.Memory, tt)
error_of (no_tree id) = (errors.TreeNodeNotFound id, refl)
error_of (missing_directory parent id name) = (errors.Memory, tt)
error_of (other_number id expected actual) = (errors.TreeNodeChildcountMismatch id expected actual, refl)

no_fault : (t : Node) → IsSoundTree t → tree_fault t ≡ None
no_fault t h = by (tree_fault t) refl
  where
    by : (o : Option TreeFault) → tree_fault t ≡ o → tree_fault t ≡ None
    by None e = e
    by (Some fault) e = let found = error_of fault in absurd (no_fault_of t found.0 h (fault, e, found.1))

-- an error of the second check is that of both, if the tree by itself is consistent
pub later_fault : {T : Type 0} (r : Result T Error) (entries : ℕ) (t : Node) → IsSoundTree t
    → IfErr r (λ e. NodeCause e (excess_in entries t))
    → IfErr r (λ e. NodeCause e (option_or (tree_fault t) (excess_in entries t)))
later_fault (Ok x) entries t h k = k
later_fault (Err e) entries t h k = says_after e (tree_fault t) (excess_in entries t) (no_fault t h) k

-- ---- with a store's trees

module _ (entries : ℕ) (trees : Trees) (t : Node) where
  -- after a first check that passed, the result of the second check is that of both
  pub judged_later : (first second : Result (Unit {0}) Error) → IsOk first → Judges trees t first
      → (IsOk second → CountsAtMost entries t) → IfErr second (λ e. NodeCause e (excess_in entries t))
      → JudgesExtensions entries trees (Some t) second
  judged_later (Ok u) (Ok v) passed agreed within said = ((agreed.0, within refl), agreed.1)
  judged_later (Ok u) (Err e) passed agreed within said = inr
      (says_after e (first_fault (Some trees) t) (excess_in entries t) (no_fault_with trees t agreed.0 agreed.1) said)
  judged_later (Err f) second passed agreed within said = let failed : false ≡ true = passed in absurd cc
