-- What a tree that was found, or its absence, implies about the error of its node.
use Rattle.std.proofs.Common.{◌≡◌, inl, inr, ◌⊎◌, ℕ, eqb, true, false, List, [], ◌∷◌, length, Option, Some, None, refl}
use Rattle.std.proofs.Common.{sym, ap, ◌∙◌, arith}
use Rattle.std.proofs.lemmas.Bool.{eq-eqb, ne_eqb}
use Rattle.index_parts.specs.Id.{id_kind}
use Rattle.index_parts.specs.Object.{Found, tree_bytes}
use Rattle.index_parts.specs.TreeObject.{TreeEntry, Lists}
use Rattle.index_parts.specs.declared.hash.ObjectId.{ObjectId}
use Rattle.ext_tree.specs.Agreement.{Trees, AreStoredTrees, directories}
use Rattle.ext_tree.specs.ObjectSteps.{AreLooked, ObjectCause}
use Rattle.ext_tree.specs.Tree.{how_many_nodes}
use Rattle.ext_tree.specs.TreeFaults.{no_tree, other_number, missing_fault, number_fault, listed_fault}
use Rattle.ext_tree.specs.TreeFaults.{object_fault, NodeCause, NodeOrMemoryCause}
use Rattle.ext_tree.specs.declared.Tree.{Tree}
use Rattle.ext_tree.specs.declared.verify.Error.{Error}
use Rattle.ext_tree.specs.declared.verify.Error.TheVariants as errors
use Rattle.ext_tree.proofs.Agreements.{none_both, tree_lists, no_tree_lists}
use Rattle.ext_tree.proofs.Sounds.{row_of_trees, says_is, says_first, says_after}

how_many : (xs : List Tree) → how_many_nodes (row_of_trees xs) ≡ length xs
how_many [] = refl
how_many (x ∷ xs) = omega (arith, how_many xs)

module _ (found : ObjectId → Found) (id : ObjectId) (xs : List Tree) (trees : Trees) (are : AreStoredTrees found trees)
  where
    -- no tree was found
    pub unfound_said : (e : Error)
        → (e ≡ errors.Memory) ⊎ (NodeCause e (Some (no_tree id)) × (tree_bytes (found id) ≡ None))
        → NodeOrMemoryCause e (listed_fault id (row_of_trees xs) (trees id))
    unfound_said e (inl m) = inl m
    unfound_said e (inr h) = inr (says_is e _ _ (ap (listed_fault id (row_of_trees xs))
        (no_tree_lists (id_kind id) (tree_bytes (found id)) (trees id) h.1 (are id))) h.0)

    module _ (bytes : List ℕ) (is : tree_bytes (found id) ≡ Some bytes) where
      abbrev listed_at : (l : List TreeEntry) × (trees id ≡ Some l) × Lists (id_kind id) bytes l
      listed_at = tree_lists (id_kind id) (tree_bytes (found id)) bytes (trees id) is (are id)

      pub missing_said : (e : Error) → ((es : List TreeEntry) → Lists (id_kind id) bytes es
          → NodeCause e (missing_fault id (row_of_trees xs) (directories es)))
          → NodeOrMemoryCause e (listed_fault id (row_of_trees xs) (trees id))
      missing_said e s =
          let t = listed_at in
          inr (says_is e _ _ (ap (listed_fault id (row_of_trees xs)) t.1)
          (says_first e (missing_fault id (row_of_trees xs) (directories t.0)) _ (s t.0 t.2)))

      module _ (number : ℕ) (counted : (es : List TreeEntry) → Lists (id_kind id) bytes es
          → number ≡ length (directories es)) (there : (es : List TreeEntry) → Lists (id_kind id) bytes es
          → missing_fault id (row_of_trees xs) (directories es) ≡ None) where
        pub same_number : number ≡ length xs → listed_fault id (row_of_trees xs) (trees id) ≡ None
        same_number e =
            let t = listed_at in
            let same : eqb (length (directories t.0)) (how_many_nodes (row_of_trees xs)) ≡ true =
            eq-eqb _ _ (sym (counted t.0 t.2) ∙ e ∙ sym (how_many xs)) in
            ap (listed_fault id (row_of_trees xs)) t.1
            ∙ none_both (missing_fault id (row_of_trees xs) (directories t.0)) _ (there t.0 t.2) (rw same refl)

        pub other_said : (number ≡ length xs → ⊥)
            → NodeOrMemoryCause (errors.TreeNodeChildcountMismatch id number (length xs))
            (listed_fault id (row_of_trees xs) (trees id))
        other_said ne =
            let t = listed_at in
            let other : eqb (length (directories t.0)) (how_many_nodes (row_of_trees xs)) ≡ false =
            ne_eqb _ _ (λ e. ne (counted t.0 t.2 ∙ e ∙ how_many xs)) in
            let count : number_fault id (length (directories t.0)) (how_many_nodes (row_of_trees xs))
            ≡ Some (other_number id number (length xs)) = rw (other, sym (counted t.0 t.2), how_many xs) refl in
            let e : Error = errors.TreeNodeChildcountMismatch id number (length xs) in
            let said : NodeCause e (number_fault id (length (directories t.0)) (how_many_nodes (row_of_trees xs))) =
            (other_number id number (length xs), count, refl) in
            inr (says_is e _ _ (ap (listed_fault id (row_of_trees xs)) t.1)
            (says_after e (missing_fault id (row_of_trees xs) (directories t.0)) _ (there t.0 t.2) said))

-- if a store is looked up, and there are children
pub looked_said : (found : ObjectId → Found) (id : ObjectId) (xs : List Tree) → (length xs ≡ 0 → ⊥) → (e : Error)
    → ((trees : Trees) → AreStoredTrees found trees
    → NodeOrMemoryCause e (listed_fault id (row_of_trees xs) (trees id)))
    → (looked : Option Trees) → AreLooked (Some found) looked
    → ObjectCause looked e (object_fault looked id (row_of_trees xs))
looked_said found id [] some e s looked h = absurd (some refl)
looked_said found id (x ∷ xs) some e s None h = absurd h
looked_said found id (x ∷ xs) some e s (Some trees) h = s trees h
