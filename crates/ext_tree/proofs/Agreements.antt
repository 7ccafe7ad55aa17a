-- What a tree lists against the children of its node; and every store has trees.
use Rattle.std.proofs.Common.{◌≡◌, ℕ, ◌+◌, Bool, true, false, cond, eqb, List, [], ◌∷◌, length, All, Option, Some, None}
use Rattle.std.proofs.Common.{refl, ap, subst, ◌∙◌, arith}
use Rattle.std.specs.Prelude.{IsTrue, MatchOption}
use Rattle.std.specs.Option.{option_map}
use Rattle.std.proofs.lemmas.Bool.{eqb-true, eq-eqb}
use Rattle.std.proofs.lemmas.List.Elements.{All-nil, All-cons, All-head, All-tail}
use Rattle.index_parts.specs.Id.{id_kind}
use Rattle.index_parts.specs.Object.{Found, tree_bytes}
use Rattle.index_parts.specs.TreeObject.{TreeEntry, IsTreeEntry, NoTreeEntry, Lists, is_tree_mode}
use Rattle.index_parts.specs.declared.hash.Kind.{Kind}
use Rattle.index_parts.specs.declared.hash.ObjectId.{ObjectId}
use Rattle.index_parts.proofs.TreeLists.{listed_in, lists_some, list_behind, list_ends}
use Rattle.ext_tree.specs.Agreement.{Trees, ListsEntries, AreStoredTrees, directories, has_child, AreChildren}
use Rattle.index_extensions.specs.ExtensionValue.{option_or}
use Rattle.ext_tree.specs.Tree.{Nodes, how_many_nodes}
use Rattle.ext_tree.specs.TreeFaults.{TreeFault, missing_directory, child_fault, missing_fault, number_fault}
use Rattle.ext_tree.specs.TreeFaults.{listed_fault, NodeCause}
use Rattle.ext_tree.specs.declared.verify.Error.TheVariants as errors

-- ---- the first of two faults

pub none_both : (o p : Option TreeFault) → o ≡ None → p ≡ None → option_or o p ≡ None
none_both o p a b = ap (λ (x : Option TreeFault). option_or x p) a ∙ b

pub or_none : (o p : Option TreeFault) → option_or o p ≡ None → (o ≡ None) × (p ≡ None)
or_none None p e = (refl, e)
or_none (Some f) p e = absurd cc

-- ---- no fault of a tree: its directories are the children

pub child_there : (parent : ObjectId) (row : Nodes) (e : TreeEntry) → child_fault parent row e ≡ None
    → has_child e.name row ≡ true
child_there parent row e h = by (has_child e.name row) _ h
  where
    by : (b : Bool) (f : TreeFault) → cond b None (Some f) ≡ None → b ≡ true
    by true f k = refl
    by false f k = absurd cc

each_there : (parent : ObjectId) (row : Nodes) (es : List TreeEntry) → missing_fault parent row es ≡ None
    → All (λ e. IsTrue (has_child e.name row)) es
each_there parent row [] h = All-nil (λ e. IsTrue (has_child e.name row))
each_there parent row (e ∷ es) h =
    let a = or_none (child_fault parent row e) _ h in
    All-cons (λ d. IsTrue (has_child d.name row)) e es (child_there parent row e a.0) (each_there parent row es a.1)

as_many : (id : ObjectId) (expected actual : ℕ) → number_fault id expected actual ≡ None → expected ≡ actual
as_many id expected actual e = by (eqb expected actual) _ refl e
  where
    by : (b : Bool) (f : TreeFault) → eqb expected actual ≡ b → cond b None (Some f) ≡ None → expected ≡ actual
    by true f h k = eqb-true expected actual h
    by false f h k = absurd cc

pub listed_none : (id : ObjectId) (row : Nodes) (o : Option (List TreeEntry)) → listed_fault id row o ≡ None
    → MatchOption o ⊥ (λ es. AreChildren row es)
listed_none id row None e = absurd cc
listed_none id row (Some es) e =
    let a = or_none (missing_fault id row (directories es)) _ e in
    record {
      each = each_there id row (directories es) a.0;
      number = as_many id (length (directories es)) (how_many_nodes row) a.1;
    }

-- and if they are there, it has none

none_missing : (parent : ObjectId) (row : Nodes) (es : List TreeEntry) → All (λ e. IsTrue (has_child e.name row)) es
    → missing_fault parent row es ≡ None
none_missing parent row [] h = refl
none_missing parent row (e ∷ es) h =
    let there : has_child e.name row ≡ true = All-head (λ d. IsTrue (has_child d.name row)) e es h in
    none_both (child_fault parent row e) _ (rw there refl)
    (none_missing parent row es (All-tail (λ d. IsTrue (has_child d.name row)) e es h))

pub none_listed : (id : ObjectId) (row : Nodes) (o : Option (List TreeEntry))
    → MatchOption o ⊥ (λ es. AreChildren row es) → listed_fault id row o ≡ None
none_listed id row None h = absurd h
none_listed id row (Some es) h =
    let number : number_fault id (length (directories es)) (how_many_nodes row) ≡ None =
    rw (eq-eqb _ _ h.number) refl in
    none_both (missing_fault id row (directories es)) _ (none_missing id row (directories es) h.each) number

pub no_memory_for_child : (parent : ObjectId) (row : Nodes) (e : TreeEntry) → has_child e.name row ≡ false
    → NodeCause errors.Memory (child_fault parent row e)
no_memory_for_child parent row e none = (missing_directory parent e.id e.name, rw none refl, tt)

-- ---- every store has trees

abbrev trees_of : (ObjectId → Found) → Trees
trees_of found id = option_map (listed_in (id_kind id)) (tree_bytes (found id))

listed_by : (kind : Kind) (bytes : Option (List ℕ)) → ListsEntries kind bytes (option_map (listed_in kind) bytes)
listed_by kind None = tt
listed_by kind (Some bytes) = lists_some kind bytes

pub some_trees : (found : ObjectId → Found) → (trees : Trees) × AreStoredTrees found trees
some_trees found = (trees_of found, λ id. listed_by (id_kind id) (tree_bytes (found id)))

-- the entries of a tree that was found
pub tree_lists : (kind : Kind) (found : Option (List ℕ)) (bytes : List ℕ) (es : Option (List TreeEntry))
    → found ≡ Some bytes → ListsEntries kind found es → (l : List TreeEntry) × (es ≡ Some l) × Lists kind bytes l
tree_lists kind None bytes es e h = absurd cc
tree_lists kind (Some b) bytes None e h = absurd h
tree_lists kind (Some b) bytes (Some l) e h =
    let same : b ≡ bytes = cc in
    (l, refl, subst (λ (x : List ℕ). Lists kind x l) same h)

pub no_tree_lists : (kind : Kind) (found : Option (List ℕ)) (es : Option (List TreeEntry)) → found ≡ None
    → ListsEntries kind found es → es ≡ None
no_tree_lists kind None None e h = refl
no_tree_lists kind None (Some l) e h = absurd h
no_tree_lists kind (Some b) es e h = absurd cc

-- ---- a count of directories that is under way

-- Of what the bytes list, so many directories are counted; those listed by the bytes that are left aren't, and the
-- first directory without a child is among them.
abbrev pub CountsOn : Kind → List ℕ → ObjectId → Nodes → ℕ → List ℕ → Type 0
CountsOn kind bytes parent row number left =
    (es : List TreeEntry) → Lists kind bytes es → (later : List TreeEntry) × Lists kind left later
    × (number + length (directories later) ≡ length (directories es))
    × (missing_fault parent row (directories es) ≡ missing_fault parent row (directories later))

pub counts_begin : (kind : Kind) (bytes : List ℕ) (parent : ObjectId) (row : Nodes)
    → CountsOn kind bytes parent row 0 bytes
counts_begin kind bytes parent row = λ es l. (es, l, omega arith, refl)

module _ (kind : Kind) (bytes : List ℕ) (parent : ObjectId) (row : Nodes) (number : ℕ) (left : List ℕ)
    (on : CountsOn kind bytes parent row number left) where
  pub counts_end : NoTreeEntry kind left → (es : List TreeEntry) → Lists kind bytes es
      → (number ≡ length (directories es)) × (missing_fault parent row (directories es) ≡ None)
  counts_end none es l =
      let c = on es l in
      let nothing : c.0 ≡ [] = list_ends kind left c.0 none c.1 in
      let zero_left : length (directories c.0) ≡ 0 = ap (λ (x : List TreeEntry). length (directories x)) nothing in (
        omega (arith, c.2, zero_left),
        c.3 ∙ ap (λ (x : List TreeEntry). missing_fault parent row (directories x)) nothing,
      )

  module _ (e : TreeEntry) (after : List ℕ) (is : IsTreeEntry kind left e after) where
    pub counts_pass : is_tree_mode e.mode ≡ false → CountsOn kind bytes parent row number after
    counts_pass other es l =
        let c = on es l in
        let b = list_behind kind left e after c.0 is c.1 in
        let same : directories c.0 ≡ directories b.0 = ap directories b.1 ∙ rw other refl in (
          b.0,
          b.2,
          omega (arith, c.2, ap (λ (x : List TreeEntry). length x) same),
          c.3 ∙ ap (λ (x : List TreeEntry). missing_fault parent row x) same,
        )

    first_of : (es : List TreeEntry) → is_tree_mode e.mode ≡ true → Lists kind bytes es → (later : List TreeEntry)
        × Lists kind after later × (number + length (e ∷ directories later) ≡ length (directories es))
        × (missing_fault parent row (directories es)
        ≡ option_or (child_fault parent row e) (missing_fault parent row (directories later)))
    first_of es tree l =
        let c = on es l in
        let b = list_behind kind left e after c.0 is c.1 in
        let same : directories c.0 ≡ e ∷ directories b.0 = ap directories b.1 ∙ rw tree refl in (
          b.0,
          b.2,
          omega (arith, c.2, ap (λ (x : List TreeEntry). length x) same),
          c.3 ∙ ap (λ (x : List TreeEntry). missing_fault parent row x) same,
        )

    pub counts_more : is_tree_mode e.mode ≡ true → child_fault parent row e ≡ None
        → CountsOn kind bytes parent row (number + 1) after
    counts_more tree there es l =
        let f = first_of es tree l in (
          f.0,
          f.1,
          omega (arith, f.2),
          f.3 ∙ ap (λ (o : Option TreeFault). option_or o (missing_fault parent row (directories f.0))) there,
        )

    -- if it has no child, it is the first
    pub counts_fault : is_tree_mode e.mode ≡ true → (es : List TreeEntry) → Lists kind bytes es
        → (later : List TreeEntry) × (missing_fault parent row (directories es)
        ≡ option_or (child_fault parent row e) (missing_fault parent row later))
    counts_fault tree es l = let f = first_of es tree l in (directories f.0, f.3)
