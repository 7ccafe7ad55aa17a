-- Which node counts more entries than the index has.
use Rattle.std.proofs.Common.{◌≡◌, ℕ, ◌<◌, ◌≤◌, Bool, true, false, cond, leb, List, [], length, drop, get_or, Option}
use Rattle.std.proofs.Common.{Some, None, refl, sym, ap, ◌∙◌, arith}
use Rattle.std.specs.Prelude.{IfSome, Result, Ok, Err, IfOk, IfErr, IsOk}
use Rattle.std.proofs.lemmas.Bool.{leb-true, le-leb, lt-leb}
use Rattle.std.proofs.lemmas.List.{length-drop, nil_from_length}
use Rattle.index_extensions.specs.ExtensionValue.{option_or}
use Rattle.ext_tree.specs.Sound.{CountsAtMost, CountAtMost}
use Rattle.ext_tree.specs.Tree.{Node, Nodes, node, none, more, node_of}
use Rattle.ext_tree.specs.TreeFaults.{TreeFault, too_many_counted, excess_fault, excess_in, excess_among}
use Rattle.ext_tree.specs.TreeFaults.{NodeCause}
use Rattle.ext_tree.specs.declared.Tree.{Tree}
use Rattle.ext_tree.specs.declared.Tree.TheViews.{out-Tree}
use Rattle.ext_tree.specs.declared.verify.Error.{Error}
use Rattle.ext_tree.specs.declared.verify.Error.TheVariants as errors
use Rattle.ext_tree.proofs.Agreements.{or_none, none_both}
use Rattle.ext_tree.proofs.Sounds.{row_of_trees, cut_at, says_is, says_first, says_after}
use Rattle.ext_tree.proofs.Spelled.{node_of-out}

-- ---- no excess, and counts within

within : (most : ℕ) (name : List ℕ) (count : Option ℕ) → excess_fault most name count ≡ None
    → IfSome count (λ own. own ≤ most)
within most name None e = tt
within most name (Some own) e = by (leb own most) _ refl e
  where
    by : (b : Bool) (f : TreeFault) → leb own most ≡ b → cond b None (Some f) ≡ None → own ≤ most
    by true f h k = leb-true own most h
    by false f h k = absurd cc

no_excess : (most : ℕ) (name : List ℕ) (count : Option ℕ) → IfSome count (λ own. own ≤ most)
    → excess_fault most name count ≡ None
no_excess most name None h = refl
no_excess most name (Some own) h = rw (le-leb own most h) refl

mutual
  counts_within : (most : ℕ) (t : Node) → excess_in most t ≡ None → CountsAtMost most t
  counts_within most (node name id count ts) e =
      let a = or_none (excess_fault most name count) (excess_among most ts) e in
      (within most name count a.0, count_within most ts a.1)

  count_within : (most : ℕ) (ts : Nodes) → excess_among most ts ≡ None → CountAtMost most ts
  count_within most none e = tt
  count_within most (more t ts) e =
      let a = or_none (excess_in most t) (excess_among most ts) e in
      (counts_within most t a.0, count_within most ts a.1)

mutual
  no_excess_in : (most : ℕ) (t : Node) → CountsAtMost most t → excess_in most t ≡ None
  no_excess_in most (node name id count ts) h = none_both (excess_fault most name count) (excess_among most ts)
      (no_excess most name count h.0) (no_excess_among most ts h.1)

  no_excess_among : (most : ℕ) (ts : Nodes) → CountAtMost most ts → excess_among most ts ≡ None
  no_excess_among most none h = refl
  no_excess_among most (more t ts) h =
      none_both (excess_in most t) (excess_among most ts) (no_excess_in most t h.0) (no_excess_among most ts h.1)

pub within_by : {T : Type 0} (r : Result T Error) (most : ℕ) (t : Node) → IfOk r (λ _. excess_in most t ≡ None)
    → IfErr r (λ e. NodeCause e (excess_in most t)) → (IsOk r → CountsAtMost most t) × (CountsAtMost most t → IsOk r)
within_by (Ok x) most t ok err = (λ _. counts_within most t ok, λ _. refl)
within_by (Err e) most t ok err = (
  λ h. let no : false ≡ true = h in
      absurd cc,
  λ h. let none : excess_in most t ≡ None = no_excess_in most t h in absurd (cc (none, err.1)),
)

-- ---- out of memory for the name

pub no_memory_for_excess : (most : ℕ) (name : List ℕ) (count : ℕ) → most < count
    → NodeCause errors.Memory (excess_fault most name (Some count))
no_memory_for_excess most name count over = (too_many_counted name count most, rw (lt-leb count most over) refl, tt)

-- ---- a node by what was read of it

module _ (most : ℕ) (t : Tree) (name : List ℕ) (b : List Tree) (named : name ≡ (out-Tree t).name.items)
    (below : b ≡ (out-Tree t).children.items) where
  excess_at : excess_in most (node_of t)
      ≡ option_or (excess_fault most name (out-Tree t).num_entries) (excess_among most (row_of_trees b))
  excess_at =
      let by : List ℕ → List Tree → Option TreeFault =
      λ n ys. option_or (excess_fault most n (out-Tree t).num_entries) (excess_among most (row_of_trees ys)) in
      ap (excess_in most) (node_of-out t) ∙ ap (λ (n : List ℕ). by n (out-Tree t).children.items) (sym named)
      ∙ ap (λ (ys : List Tree). by name ys) (sym below)

  pub own_said : (e : Error) → NodeCause e (excess_fault most name (out-Tree t).num_entries)
      → NodeCause e (excess_in most (node_of t))
  own_said e s = says_is e _ (excess_in most (node_of t)) excess_at
      (says_first e (excess_fault most name (out-Tree t).num_entries) _ s)

  module _ (own : excess_fault most name (out-Tree t).num_entries ≡ None) (i : ℕ)
      (so_far : excess_among most (row_of_trees b) ≡ excess_among most (row_of_trees (drop i b))) where
    pub below_said : (e : Error) (x : Tree) → i < length b → x ≡ get_or b i x → NodeCause e (excess_in most (node_of x))
        → NodeCause e (excess_in most (node_of t))
    below_said e x lt is s =
        let go = ap (λ (ts : List Tree). excess_among most (row_of_trees ts)) (cut_at b i x lt is) in
        let among : NodeCause e (excess_among most (row_of_trees b)) = says_is e _ (excess_among most (row_of_trees b))
        (so_far ∙ go) (says_first e (excess_in most (node_of x)) _ s) in
        says_is e _ (excess_in most (node_of t)) excess_at
        (says_after e (excess_fault most name (out-Tree t).num_entries) _ own among)

    pub none_in : (i < length b → ⊥) → excess_in most (node_of t) ≡ None
    none_in over =
        let left : drop i b ≡ [] = nil_from_length (drop i b) (omega (arith, over, length-drop i b)) in
        excess_at ∙ none_both (excess_fault most name (out-Tree t).num_entries) _ own
        (so_far ∙ ap (λ (ts : List Tree). excess_among most (row_of_trees ts)) left)
