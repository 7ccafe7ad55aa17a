-- A cache tree without an error is valid, and a valid one has none. What loops over siblings establish about the first
-- error.
use Rattle.std.proofs.Common.{◌≡◌, inl, inr, ℕ, suc, ◌+◌, ◌^◌, ◌<◌, ◌≤◌, Bool, true, false, cond, ltb, leb, List, []}
use Rattle.std.proofs.Common.{◌∷◌, length, map, drop, get_or, Option, Some, None, refl, sym, ap, subst, ◌∙◌, arith}
use Rattle.std.specs.Prelude.{IfSome, Result, Ok, Err, IfOk, IfErr, IsOk}
use Rattle.std.specs.Ordering.{is_lt}
use Rattle.std.proofs.Math.Seq.{drop-cons}
use Rattle.std.proofs.lemmas.List.{length-drop, nil_from_length}
use Rattle.std.proofs.lemmas.Bool.{ltb-true, lt-ltb, leb-true, le-leb}
use Rattle.index_parts.specs.Object.{Found}
use Rattle.index_parts.specs.declared.hash.ObjectId.{ObjectId}
use Rattle.index_extensions.specs.ExtensionValue.{option_or}
use Rattle.ext_tree.specs.Sound.{counted_entries, entries_sum, RiseFrom, IsSoundNode, AreSoundNodes}
use Rattle.ext_tree.specs.Sound.{IsSoundTree}
use Rattle.ext_tree.specs.Tree.{Node, Nodes, node, none, more, nodes_from, node_of, node_name, name_cmp}
use Rattle.ext_tree.specs.Agreement.{Trees, AreStoredTrees, Agrees, Agree}
use Rattle.ext_tree.specs.ObjectSteps.{AreLooked, ObjectCause}
use Rattle.ext_tree.specs.TreeFaults.{TreeFault, root_with_name, too_many_entries, out_of_order, tree_name_fault}
use Rattle.ext_tree.specs.TreeFaults.{sum_fault, order_fault, count_fault, row_fault, object_fault, node_fault}
use Rattle.ext_tree.specs.TreeFaults.{nodes_fault, first_fault, tree_fault, Judges, NodeCause, NodeOrMemoryCause}
use Rattle.ext_tree.specs.declared.Tree.{Tree}
use Rattle.ext_tree.specs.declared.Tree.TheViews.{out-Tree}
use Rattle.ext_tree.specs.declared.verify.Error.{Error}
use Rattle.ext_tree.specs.declared.verify.Error.TheVariants as errors
use Rattle.ext_tree.proofs.Agreements.{or_none, none_both, listed_none, none_listed}
use Rattle.ext_tree.proofs.Sorted.{less_from}
use Rattle.ext_tree.proofs.Spelled.{node_of-out}

-- ---- the first of two faults

pub says_is : (e : Error) (o p : Option TreeFault) → p ≡ o → NodeCause e o → NodeCause e p
says_is e o p same h = (h.0, same ∙ h.1, h.2)

pub says_first : (e : Error) (o p : Option TreeFault) → NodeCause e o → NodeCause e (option_or o p)
says_first e o p h = (h.0, ap (λ (x : Option TreeFault). option_or x p) h.1, h.2)

pub says_after : (e : Error) (o p : Option TreeFault) → o ≡ None → NodeCause e p → NodeCause e (option_or o p)
says_after e o p a h = (h.0, ap (λ (x : Option TreeFault). option_or x p) a ∙ h.1, h.2)

-- ---- sound, or a fault

sum_fits : (n : ℕ) → sum_fault n ≡ None → n < 2 ^ 32
sum_fits n e = by (ltb n (2 ^ 32)) refl e
  where
    by : (b : Bool) → ltb n (2 ^ 32) ≡ b → cond b None (Some too_many_entries) ≡ None → n < 2 ^ 32
    by true h k = ltb-true n (2 ^ 32) h
    by false h k = absurd cc

fits_sum : (n : ℕ) → n < 2 ^ 32 → sum_fault n ≡ None
fits_sum n lt = rw (lt-ltb n (2 ^ 32) lt) refl

rises : (parent : ObjectId) (before : Option Node) (t : Node) (ts : Nodes) → order_fault parent before t ≡ None
    → RiseFrom (Some t) ts → RiseFrom before (more t ts)
rises parent None t ts e h = h
rises parent (Some u) t ts e h = (less_from (name_cmp u t) (by (is_lt (name_cmp u t)) _ e), h)
  where
    by : (b : Bool) (f : TreeFault) → cond b None (Some f) ≡ None → b ≡ true
    by true f k = refl
    by false f k = absurd cc

in_order : (parent : ObjectId) (before : Option Node) (t : Node) (ts : Nodes) → RiseFrom before (more t ts)
    → (order_fault parent before t ≡ None) × RiseFrom (Some t) ts
in_order parent None t ts h = (refl, h)
in_order parent (Some u) t ts h = (rw h.0 refl, h.1)

row_sound : (ts : Nodes) (parent : ObjectId) (sum : ℕ) (before : Option Node) → sum < 2 ^ 32
    → row_fault parent sum before ts ≡ None → (sum + entries_sum ts < 2 ^ 32) × RiseFrom before ts
row_sound none parent sum before lt e = (omega (arith, lt), tt)
row_sound (more t ts) parent sum before lt e =
    let a = or_none (sum_fault (sum + counted_entries t)) _ e in
    let b = or_none (order_fault parent before t) _ a.1 in
    let r = row_sound ts parent (sum + counted_entries t) (Some t) (sum_fits (sum + counted_entries t) a.0) b.1 in
    (omega (arith, r.0), rises parent before t ts b.0 r.1)

row_none : (ts : Nodes) (parent : ObjectId) (sum : ℕ) (before : Option Node) → sum + entries_sum ts < 2 ^ 32
    → RiseFrom before ts → row_fault parent sum before ts ≡ None
row_none none parent sum before lt h = refl
row_none (more t ts) parent sum before lt h =
    let o = in_order parent before t ts h in
    let fits : sum_fault (sum + counted_entries t) ≡ None = fits_sum (sum + counted_entries t) (omega (arith, lt)) in
    none_both (sum_fault (sum + counted_entries t)) _ fits (none_both (order_fault parent before t) _ o.0
    (row_none ts parent (sum + counted_entries t) (Some t) (omega (arith, lt)) o.1))

counted : (count : Option ℕ) (sum : ℕ) → count_fault count sum ≡ None → IfSome count (λ own. sum ≤ own)
counted None sum e = tt
counted (Some own) sum e = by (leb sum own) _ refl e
  where
    by : (b : Bool) (f : TreeFault) → leb sum own ≡ b → cond b None (Some f) ≡ None → sum ≤ own
    by true f h k = leb-true sum own h
    by false f h k = absurd cc

counts : (count : Option ℕ) (sum : ℕ) → IfSome count (λ own. sum ≤ own) → count_fault count sum ≡ None
counts None sum h = refl
counts (Some own) sum h = rw (le-leb sum own h) refl

mutual
  sound_node : (trees : Option Trees) (t : Node) → node_fault trees t ≡ None → IsSoundNode t
  sound_node trees (node name id count ts) e =
      let a = or_none (row_fault id 0 None ts) _ e in
      let o = or_none (object_fault trees id ts) _ a.1 in
      let b = or_none (nodes_fault trees ts) _ o.1 in
      let r = row_sound ts id 0 None (omega arith) a.0 in
      (omega (arith, r.0), r.1, counted count (entries_sum ts) b.1, sound_nodes trees ts b.0)

  sound_nodes : (trees : Option Trees) (ts : Nodes) → nodes_fault trees ts ≡ None → AreSoundNodes ts
  sound_nodes trees none e = tt
  sound_nodes trees (more t ts) e =
      let a = or_none (node_fault trees t) _ e in
      (sound_node trees t a.0, sound_nodes trees ts a.1)

mutual
  agreed_node : (trees : Trees) (t : Node) → node_fault (Some trees) t ≡ None → Agrees trees t
  agreed_node trees (node name id count none) e = tt
  agreed_node trees (node name id count (more t ts)) e =
      let a = or_none (row_fault id 0 None (more t ts)) _ e in
      let o = or_none (object_fault (Some trees) id (more t ts)) _ a.1 in
      let b = or_none (nodes_fault (Some trees) (more t ts)) _ o.1 in
      (listed_none id (more t ts) (trees id) o.0, agreed_nodes trees (more t ts) b.0)

  agreed_nodes : (trees : Trees) (ts : Nodes) → nodes_fault (Some trees) ts ≡ None → Agree trees ts
  agreed_nodes trees none e = tt
  agreed_nodes trees (more t ts) e =
      let a = or_none (node_fault (Some trees) t) _ e in
      (agreed_node trees t a.0, agreed_nodes trees ts a.1)

mutual
  no_fault_in : (t : Node) → IsSoundNode t → node_fault None t ≡ None
  no_fault_in (node name id count ts) h =
      let row : row_fault id 0 None ts ≡ None = row_none ts id 0 None (omega (arith, h.0)) h.1 in
      none_both (row_fault id 0 None ts) _ row
      (none_both (nodes_fault None ts) _ (no_fault_among ts h.3) (counts count (entries_sum ts) h.2))

  no_fault_among : (ts : Nodes) → AreSoundNodes ts → nodes_fault None ts ≡ None
  no_fault_among none h = refl
  no_fault_among (more t ts) h = none_both (node_fault None t) _ (no_fault_in t h.0) (no_fault_among ts h.1)

mutual
  no_fault_agreed : (trees : Trees) (t : Node) → IsSoundNode t → Agrees trees t → node_fault (Some trees) t ≡ None
  no_fault_agreed trees (node name id count none) h a = counts count 0 h.2
  no_fault_agreed trees (node name id count (more t ts)) h a =
      let row : row_fault id 0 None (more t ts) ≡ None = row_none (more t ts) id 0 None (omega (arith, h.0)) h.1 in
      let object : object_fault (Some trees) id (more t ts) ≡ None = none_listed id (more t ts) (trees id) a.0 in
      none_both (row_fault id 0 None (more t ts)) _ row (none_both (object_fault (Some trees) id (more t ts)) _ object
      (none_both (nodes_fault (Some trees) (more t ts)) _ (no_faults_agreed trees (more t ts) h.3 a.1)
      (counts count (entries_sum (more t ts)) h.2)))

  no_faults_agreed : (trees : Trees) (ts : Nodes) → AreSoundNodes ts → Agree trees ts
      → nodes_fault (Some trees) ts ≡ None
  no_faults_agreed trees none h a = refl
  no_faults_agreed trees (more t ts) h a =
      none_both (node_fault (Some trees) t) _ (no_fault_agreed trees t h.0 a.0) (no_faults_agreed trees ts h.1 a.1)

unnamed : (name : List ℕ) → tree_name_fault name ≡ None → name ≡ []
unnamed [] e = refl
unnamed (b ∷ name) e = absurd cc

-- a tree without a fault is sound
pub sound_tree : (trees : Option Trees) (t : Node) → first_fault trees t ≡ None → IsSoundTree t
sound_tree trees t e = let a = or_none (tree_name_fault (node_name t)) _ e in (
  unnamed (node_name t) a.0,
  sound_node
      trees t a.1,
)

-- and agrees with the trees that were looked at
pub agreed_tree : (trees : Trees) (t : Node) → first_fault (Some trees) t ≡ None → Agrees trees t
agreed_tree trees t e = agreed_node trees t (or_none (tree_name_fault (node_name t)) _ e).1

-- and a valid one has none, if no trees are looked up
pub no_fault_of : (t : Node) (e : Error) → IsSoundTree t → NodeCause e (tree_fault t) → ⊥
no_fault_of t e h s =
    let none : tree_fault t ≡ None =
    none_both (tree_name_fault (node_name t)) (node_fault None t) (ap tree_name_fault h.0) (no_fault_in t h.1) in
    absurd (cc (none, s.1))

-- nor if they are, and it agrees with them
pub no_fault_with : (trees : Trees) (t : Node) → IsSoundTree t → Agrees trees t → first_fault (Some trees) t ≡ None
no_fault_with trees t h a =
    none_both (tree_name_fault (node_name t)) (node_fault (Some trees) t) (ap tree_name_fault h.0) (no_fault_agreed
    trees t h.1 a)

-- ---- the fields of a tree

pub name_out : (t : Tree) → node_name (node_of t) ≡ (out-Tree t).name.items
name_out t = ap node_name (node_of-out t)

-- ---- siblings, of which those before a place have no fault

abbrev pub row_of_trees : List Tree → Nodes
row_of_trees ts = nodes_from (map node_of ts)

pub cut_at : (xs : List Tree) (i : ℕ) (x : Tree) → i < length xs → x ≡ get_or xs i x → drop i xs ≡ x ∷ drop (i + 1) xs
cut_at xs i x lt is =
    let next : suc i ≡ i + 1 = omega arith in
    drop-cons xs i x lt ∙ ap (λ (y : Tree). y ∷ drop (suc i) xs) (sym is) ∙ ap (λ (n : ℕ). x ∷ drop n xs) next

-- ---- out of memory for an error with a name

pub no_memory_for_name : (name : List ℕ) → (length name ≡ 0 → ⊥) → NodeCause errors.Memory (tree_name_fault name)
no_memory_for_name [] some = absurd (some refl)
no_memory_for_name (b ∷ name) some = (root_with_name (b ∷ name), refl, tt)

pub no_memory_for_order : (parent : ObjectId) (u t : Node) → is_lt (name_cmp u t) ≡ false
    → NodeCause errors.Memory (order_fault parent (Some u) t)
no_memory_for_order parent u t h = (out_of_order parent (node_name t) (node_name u), rw h refl, tt)

-- ---- errors, with trees that are looked at or without

pub by_says : (trees : Option Trees) (e : Error) (o : Option TreeFault) → NodeCause e o → ObjectCause trees e o
by_says None e o h = h
by_says (Some trees) e o h = inr h

pub by_is : (trees : Option Trees) (e : Error) (o p : Option TreeFault) → p ≡ o → ObjectCause trees e o
    → ObjectCause trees e p
by_is None e o p same h = says_is e o p same h
by_is (Some trees) e o p same (inl m) = inl m
by_is (Some trees) e o p same (inr h) = inr (says_is e o p same h)

pub by_first : (trees : Option Trees) (e : Error) (o p : Option TreeFault) → ObjectCause trees e o
    → ObjectCause trees e (option_or o p)
by_first None e o p h = says_first e o p h
by_first (Some trees) e o p (inl m) = inl m
by_first (Some trees) e o p (inr h) = inr (says_first e o p h)

pub by_after : (trees : Option Trees) (e : Error) (o p : Option TreeFault) → o ≡ None → ObjectCause trees e p
    → ObjectCause trees e (option_or o p)
by_after None e o p a h = says_after e o p a h
by_after (Some trees) e o p a (inl m) = inl m
by_after (Some trees) e o p a (inr h) = inr (says_after e o p a h)

-- ---- a node by what was read of it

-- the names of the children increase if their row has no error
pub risen : (b : List Tree) (parent : ObjectId) → row_fault parent 0 None (row_of_trees b) ≡ None
    → RiseFrom None (row_of_trees b)
risen b parent e = (row_sound (row_of_trees b) parent 0 None (omega arith) e).1

module _ (t : Tree) (b : List Tree) (below : b ≡ (out-Tree t).children.items) (trees : Option Trees) where
  node_at : node_fault trees (node_of t)
      ≡ option_or (row_fault (out-Tree t).id 0 None (row_of_trees b))
      (option_or (object_fault trees (out-Tree t).id (row_of_trees b)) (option_or (nodes_fault trees (row_of_trees b))
      (count_fault (out-Tree t).num_entries (entries_sum (row_of_trees b)))))
  node_at =
      let by : List Tree → Option TreeFault = λ xs. option_or (row_fault (out-Tree t).id 0 None (row_of_trees xs))
      (option_or (object_fault trees (out-Tree t).id (row_of_trees xs)) (option_or (nodes_fault trees (row_of_trees xs))
      (count_fault (out-Tree t).num_entries (entries_sum (row_of_trees xs))))) in
      ap (node_fault trees) (node_of-out t) ∙ ap (λ (xs : List Tree). by xs) (sym below)

  pub row_said : (e : Error) → NodeCause e (row_fault (out-Tree t).id 0 None (row_of_trees b))
      → ObjectCause trees e (node_fault trees (node_of t))
  row_said e s = by_is trees e _ (node_fault trees (node_of t)) node_at
      (by_first trees e (row_fault (out-Tree t).id 0 None (row_of_trees b)) _ (by_says trees e _ s))

  module _ (row : row_fault (out-Tree t).id 0 None (row_of_trees b) ≡ None) where
    behind_row : (e : Error) → ObjectCause trees e (option_or (object_fault trees (out-Tree t).id (row_of_trees b))
        (option_or
        (nodes_fault trees (row_of_trees b)) (count_fault (out-Tree t).num_entries (entries_sum (row_of_trees b)))))
        → ObjectCause trees e (node_fault trees (node_of t))
    behind_row e s = by_is trees e _ (node_fault trees (node_of t)) node_at
        (by_after trees e (row_fault (out-Tree t).id 0 None (row_of_trees b)) _ row s)

    pub object_said : (e : Error) → ObjectCause trees e (object_fault trees (out-Tree t).id (row_of_trees b))
        → ObjectCause trees e (node_fault trees (node_of t))
    object_said e s = behind_row e (by_first trees e (object_fault trees (out-Tree t).id (row_of_trees b)) _ s)

    module _ (object : object_fault trees (out-Tree t).id (row_of_trees b) ≡ None) (i : ℕ)
        (so_far : nodes_fault trees (row_of_trees b) ≡ nodes_fault trees (row_of_trees (drop i b))) where
      pub child_said : (e : Error) (x : Tree) → i < length b → x ≡ get_or b i x
          → ObjectCause trees e (node_fault trees (node_of x)) → ObjectCause trees e (node_fault trees (node_of t))
      child_said e x lt is s =
          let go = ap (λ (ts : List Tree). nodes_fault trees (row_of_trees ts)) (cut_at b i x lt is) in
          let among : ObjectCause trees e (nodes_fault trees (row_of_trees b)) =
          by_is trees e _ (nodes_fault trees (row_of_trees b)) (so_far ∙ go)
          (by_first trees e (node_fault trees (node_of x)) _ s) in
          behind_row e (by_after trees e (object_fault trees (out-Tree t).id (row_of_trees b)) _ object
          (by_first trees e (nodes_fault trees (row_of_trees b)) _ among))

      children_none : (i < length b → ⊥) → nodes_fault trees (row_of_trees b) ≡ None
      children_none over =
          let left : drop i b ≡ [] = nil_from_length (drop i b) (omega (arith, over, length-drop i b)) in
          so_far ∙ ap (λ (ts : List Tree). nodes_fault trees (row_of_trees ts)) left

      pub count_said : (sum : ℕ) (e : Error) → (i < length b → ⊥) → sum ≡ entries_sum (row_of_trees b)
          → NodeCause e (count_fault (out-Tree t).num_entries sum) → ObjectCause trees e (node_fault trees (node_of t))
      count_said sum e over is s =
          let own : NodeCause e (count_fault (out-Tree t).num_entries (entries_sum (row_of_trees b))) =
          subst (λ (n : ℕ). NodeCause e (count_fault (out-Tree t).num_entries n)) is s in
          behind_row e (by_after trees e (object_fault trees (out-Tree t).id (row_of_trees b)) _ object
          (by_after trees e (nodes_fault trees (row_of_trees b)) _ (children_none over) (by_says trees e _ own)))

      pub none_there : (sum : ℕ) → (i < length b → ⊥) → sum ≡ entries_sum (row_of_trees b)
          → count_fault (out-Tree t).num_entries sum ≡ None → node_fault trees (node_of t) ≡ None
      none_there sum over is e =
          let own : count_fault (out-Tree t).num_entries (entries_sum (row_of_trees b)) ≡ None =
          subst (λ (n : ℕ). count_fault (out-Tree t).num_entries n ≡ None) is e in
          node_at ∙ none_both (row_fault (out-Tree t).id 0 None (row_of_trees b)) _ row
          (none_both (object_fault trees (out-Tree t).id (row_of_trees b)) _ object
          (none_both (nodes_fault trees (row_of_trees b)) _ (children_none over) own))

-- ---- the whole

pub sound_by : {T : Type 0} (r : Result T Error) (t : Node) → tree_name_fault (node_name t) ≡ None
    → IfOk r (λ _. node_fault None t ≡ None) → IfErr r (λ e. NodeCause e (node_fault None t))
    → (IsOk r → IsSoundTree t) × (IsSoundTree t → IsOk r)
sound_by (Ok x) t name ok err =
    (λ _. sound_tree None t (none_both (tree_name_fault (node_name t)) (node_fault None t) name ok), λ _. refl)
sound_by (Err e) t name ok err = (
  λ h. let no : false ≡ true = h in
      absurd cc,
  λ h. absurd (no_fault_of t e h (says_after e (tree_name_fault (node_name t)) (node_fault None t) name err)),
)

pub judged : (r : Result (Unit {0}) Error) (trees : Trees) (t : Node) → tree_name_fault (node_name t) ≡ None
    → IfOk r (λ _. node_fault (Some trees) t ≡ None)
    → IfErr r (λ e. ObjectCause (Some trees) e (node_fault (Some trees) t))
    → Judges trees t r
judged (Ok x) trees t name ok err =
    let none : first_fault (Some trees) t ≡ None =
    none_both (tree_name_fault (node_name t)) (node_fault (Some trees) t) name ok in
    (sound_tree (Some trees) t none, agreed_tree trees t none)
judged (Err e) trees t name ok err =
    by_after (Some trees) e (tree_name_fault (node_name t)) (node_fault (Some trees) t) name err

pub judged_name : (trees : Trees) (t : Node) (e : Error) → NodeCause e (tree_name_fault (node_name t))
    → NodeOrMemoryCause e (first_fault (Some trees) t)
judged_name trees t e s = inr (says_first e (tree_name_fault (node_name t)) _ s)

-- a store is looked up if objects are used
pub unlooked : (used : Bool) (found : ObjectId → Found) (looking : Option (ObjectId → Found))
    → looking ≡ cond used (Some found) None → used ≡ false → AreLooked looking None
unlooked used found looking is unused =
    let none : looking ≡ None = is ∙ ap (λ (u : Bool). cond u (Some found) None) unused in
    subst (λ (l : Option (ObjectId → Found)). AreLooked l None) (sym none) tt

pub looked : (used : Bool) (found : ObjectId → Found) (looking : Option (ObjectId → Found))
    → looking ≡ cond used (Some found) None → used ≡ true → (trees : Trees) → AreStoredTrees found trees
    → AreLooked looking (Some trees)
looked used found looking is uses trees are =
    let some : looking ≡ Some found = is ∙ ap (λ (u : Bool). cond u (Some found) None) uses in
    subst (λ (l : Option (ObjectId → Found)). AreLooked l (Some trees)) (sym some) are

pub chosen : (used : Bool) (found : ObjectId → Found) → used ≡ true
    → ◌≡◌ {A = Option (ObjectId → Found)} (Some found) (cond used (Some found) None)
chosen used found e = rw e refl

pub unchosen : (used : Bool) (found : ObjectId → Found) → used ≡ false
    → ◌≡◌ {A = Option (ObjectId → Found)} None (cond used (Some found) None)
unchosen used found e = rw e refl
