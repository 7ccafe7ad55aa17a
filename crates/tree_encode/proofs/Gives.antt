-- What entries give a directory: its node, and the nodes of the directories in it.
use Rattle.std.proofs.Common.{◌≡◌, ◌⊎◌, inl, inr, ℕ, List, [], ◌∷◌, ◌++◌, All, Bool, true, false, Some, length, refl}
use Rattle.std.proofs.Common.{sym, ap, subst, ◌∙◌, arith}
use Rattle.std.specs.Prelude.{◌≢◌}
use Rattle.std.specs.declared.cmp.Ordering.{Ordering}
use Rattle.std.specs.declared.cmp.Ordering.TheVariants.{Less, Equal, Greater}
use Rattle.std.proofs.lemmas.Cmp.{nat_list_cmp_total, tied_itself}
use Rattle.std.proofs.lemmas.Map.Lookups.{exact_bytes}
use Rattle.std.proofs.lemmas.List.{append-nil, length-append}
use Rattle.std.proofs.lemmas.List.Elements.{All-append, All-cons, All-head, All-tail, All-nil, All-map, All-weaker}
use Rattle.index_parts.specs.declared.hash.Kind.{Kind}
use Rattle.index_parts.specs.declared.hash.ObjectId.{ObjectId}
use Rattle.index_parts.specs.declared.object.tree.EntryKind.{EntryKind}
use Rattle.index_parts.specs.declared.object.tree.EntryKind.TheVariants as kinds
use Rattle.entry_list.specs.Order.{path_cmp}
use Rattle.entry_list.specs.TreeOrder.{IsGitOrdered, sorted_name}
use Rattle.ext_tree.specs.Tree.{Node, node, none, node_name}
use Rattle.tree_encode.specs.Cached.{AreItemNodes, AreNodes, IsNodeOver, IsNodeWhere, leaf_nodes}
use Rattle.tree_encode.specs.Directory.{DirectoryItem, DirectoryItems, leaf, directory, no_more, next, IsDirectoryItem}
use Rattle.tree_encode.specs.Directory.{AreDirectoryItems, content}
use Rattle.tree_encode.specs.Directory.{directory_bytes, entries, entry_of, directory_item_bytes, item_leaves, key}
use Rattle.tree_encode.specs.Directory.{leaf_bytes, leaves}
use Rattle.tree_encode.specs.Objects.{tree_entry_bytes, tree_mode_text, tree_id}
use Rattle.index_parts.specs.Id.{id_bytes}
use Rattle.tree_encode.specs.Staged.{Staged}
use Rattle.tree_encode.specs.TreeIds.{staged_at}
use Rattle.tree_encode.specs.TreeIdsSteps.{GivesNode, its_tree, whole}
use Rattle.tree_encode.proofs.Behinds.{Outside, at_append, at_itself, at_none, at_under}
use Rattle.tree_encode.proofs.Begun.{leaf_sorted}
use Rattle.tree_encode.proofs.OneTree.{all_within, dir_leaves, first_of_items, items_apart, others_apart, slashed}
use Rattle.tree_encode.proofs.OneTree.{tail_ordered}
use Rattle.tree_encode.proofs.PathNames.{NoSlash, first_slash, no_slash_in}
use Rattle.tree_encode.proofs.Pushes.{under}

-- ---- in a directory without bytes, all is only intended to be added

abbrev pub Later : Staged → Type 0
Later s = s.later ≡ true

entry_some : (name : List ℕ) (k : EntryKind) (id : ObjectId) → tree_entry_bytes name k id ≡ [] → ⊥
entry_some name k id e = omega (arith, ap length e, length-append (tree_mode_text k) (32 ∷ (name ++ 0 ∷ id_bytes id)))

leaf_later : (name : List ℕ) (k : EntryKind) (id : ObjectId) (later : Bool) → leaf_bytes name k id later ≡ []
    → later ≡ true
leaf_later name k id true e = refl
leaf_later name k id false e = absurd (entry_some name k id e)

no_directory : (kind : Kind) (name bytes : List ℕ) → directory_bytes kind name bytes ≡ [] → bytes ≡ []
no_directory kind name [] e = refl
no_directory kind name (b ∷ bytes) e = absurd (entry_some name kinds.Tree (tree_id kind (b ∷ bytes)) e)

both_none : (a b : List ℕ) → a ++ b ≡ [] → (a ≡ []) × (b ≡ [])
both_none [] b e = (refl, e)
both_none (x ∷ a) b e = absurd cc

mutual
  item_later : (kind : Kind) (x : DirectoryItem) → directory_item_bytes kind x ≡ [] → All Later (item_leaves [] x)
  item_later kind (leaf name k id later) e = All-cons Later
      (record { path = key name k; kind = k; id = id; later = later }) [] (leaf_later name k id later e) (All-nil Later)
  item_later kind (directory name items) e = subst (All Later) (sym (dir_leaves name items)) (All-map Later
      (under (slashed name)) (leaves [] items) (items_later kind items (no_directory kind name (content kind items) e)))

  items_later : (kind : Kind) (xs : DirectoryItems) → content kind xs ≡ [] → All Later (leaves [] xs)
  items_later kind no_more e = All-nil Later
  items_later kind (next x xs) e =
      let p = both_none (directory_item_bytes kind x) (content kind xs) e in
      All-append Later (item_leaves [] x) (leaves [] xs) (item_later kind x p.0) (items_later kind xs p.1)

-- ---- the node of an item

same_name : (a b : List ℕ) → (a ≡ b) ⊎ (a ≢ b)
same_name a b = by (path_cmp a b) refl
  where
    tie : a ≡ b → path_cmp a b ≡ Equal
    tie s = subst (λ (x : List ℕ). path_cmp a x ≡ Equal) s (tied_itself nat_list_cmp_total a)

    by : (o : Ordering) → path_cmp a b ≡ o → (a ≡ b) ⊎ (a ≢ b)
    by Equal e = inl (exact_bytes a b e)
    by Less e = inr (λ s. let t = tie s in absurd (cc (t, e)))
    by Greater e = inr (λ s. let t = tie s in absurd (cc (t, e)))

abbrev pub NotNamed : List ℕ → Node → Type 0
NotNamed name t = node_name t ≢ name

abbrev pub GivesNamed : Kind → List (List ℕ) → List ℕ → List Staged → Node → Type 0
GivesNamed kind names name below t = node_name t ≡ name → GivesNode kind names below (Some t)

-- What is below a name is given the node that has it. It is given no node if all of it is only intended to be added.
pub record GivesIn (kind : Kind) (names : List (List ℕ)) (name : List ℕ) (below : List Staged)
    (ts : List Node) : Type 0 where
  pub some : All (GivesNamed kind names name below) ts
  pub later : All (NotNamed name) ts → All Later below

node_where : (bytes : List ℕ) (P : Node → Type 0) (ts : List Node) → IsNodeWhere bytes P ts
    → ((bytes ≡ []) × (ts ≡ [])) ⊎ ((t : Node) × (ts ≡ t ∷ []) × P t)
node_where [] P ts h = inl (refl, h)
node_where (b ∷ bytes) P ts h = inr h

module _ (kind : Kind) (names : List (List ℕ)) (some : names ≢ []) (name : List ℕ) where
  -- an item that has another name, or this
  abbrev ItemGives : DirectoryItem → List Node → Type 0
  ItemGives x ts =
      ((staged_at (name ∷ []) (item_leaves [] x) ≡ []) × All (NotNamed name) ts)
      ⊎ ((sorted_name (entry_of kind x) ≡ slashed name) × NoSlash name
      × GivesIn kind names name (staged_at (name ∷ []) (item_leaves [] x)) ts)

  -- ---- leaves

  file_outside : (n : List ℕ) (k : EntryKind) (id : ObjectId) (later : Bool) → NoSlash n
      → All (Outside name) (record { path = n; kind = k; id = id; later = later } ∷ [])
  file_outside n k id later h = All-cons (Outside name) (record { path = n; kind = k; id = id; later = later }) []
      (λ g w. no_slash_in n name w.0 h w.1) (All-nil (Outside name))

  file_gives : (n : List ℕ) (k : EntryKind) (id : ObjectId) (later : Bool) (ts : List Node) → NoSlash n → ts ≡ []
      → (staged_at (name ∷ []) (record { path = n; kind = k; id = id; later = later } ∷ []) ≡ [])
      × All (NotNamed name) ts
  file_gives n k id later ts h e = (
    at_none name (record { path = n; kind = k; id = id; later = later } ∷ []) (file_outside n k id later h),
    subst (All (NotNamed name)) (sym e) (All-nil (NotNamed name)),
  )

  whole_gives : (n : List ℕ) (id : ObjectId) (later : Bool) (below : List Staged) (ts : List Node) → n ≡ name
      → ts ≡ leaf_nodes n kinds.Tree id later
      → below ≡ record { path = []; kind = kinds.Tree; id = id; later = later } ∷ [] → GivesIn kind names name below ts
  whole_gives n id true below ts s e is = record {
    some = subst (All (GivesNamed kind names name below)) (sym e) (All-nil (GivesNamed kind names name below));
    later = λ h. subst (All Later) (sym is)
        (All-cons Later (record { path = []; kind = kinds.Tree; id = id; later = true }) [] refl (All-nil Later));
  }
  whole_gives n id false below ts s e is = record {
    some = subst (All (GivesNamed kind names name below)) (sym e)
        (All-cons (GivesNamed kind names name below) (node n id (Some 1) none) []
        (λ z. whole n id (node n id (Some 1) none) is refl) (All-nil (GivesNamed kind names name below)));
    later = λ h. absurd (All-head (NotNamed name) (node n id (Some 1) none) [] (subst (All (NotNamed name)) e h) s);
  }

  tree_outside : (n : List ℕ) (s : Staged) → NoSlash n → n ≢ name → s.path ≡ slashed n → All (Outside name) (s ∷ [])
  tree_outside n s h o e =
      All-cons (Outside name) s [] (λ g w. o (first_slash n name [] w.0 h g (sym e ∙ w.1)).0) (All-nil (Outside name))

  other_nodes : (n : List ℕ) (id : ObjectId) (later : Bool) → n ≢ name
      → All (NotNamed name) (leaf_nodes n kinds.Tree id later)
  other_nodes n id true o = All-nil (NotNamed name)
  other_nodes n id false o = All-cons (NotNamed name) (node n id (Some 1) none) [] o (All-nil (NotNamed name))

  tree_gives : (n : List ℕ) (id : ObjectId) (later : Bool) (ts : List Node) → NoSlash n
      → ts ≡ leaf_nodes n kinds.Tree id later → ItemGives (leaf n kinds.Tree id later) ts
  tree_gives n id later ts h e = by (same_name n name)
    where
      s : Staged
      s = record { path = slashed n; kind = kinds.Tree; id = id; later = later }

      by : (n ≡ name) ⊎ (n ≢ name) → ItemGives (leaf n kinds.Tree id later) ts
      by (inl z) =
          let g = subst NoSlash z h in
          inr (
            leaf_sorted n kinds.Tree id later kind ∙ ap slashed z,
            g,
            whole_gives n id later (staged_at (name ∷ []) (s ∷ [])) ts z e (at_itself name s g (ap slashed z)),
          )
      by (inr o) = inl (
        at_none name (s ∷ []) (tree_outside n s h o refl),
        subst (All (NotNamed name)) (sym e) (other_nodes n id later o),
      )

  leaf_gives : (n : List ℕ) (k : EntryKind) (id : ObjectId) (later : Bool) (ts : List Node) → NoSlash n
      → ts ≡ leaf_nodes n k id later → ItemGives (leaf n k id later) ts
  leaf_gives n kinds.Tree id later ts h e = tree_gives n id later ts h e
  leaf_gives n kinds.Blob id later ts h e = inl (file_gives n kinds.Blob id later ts h e)
  leaf_gives n kinds.BlobExecutable id later ts h e = inl (file_gives n kinds.BlobExecutable id later ts h e)
  leaf_gives n kinds.Link id later ts h e = inl (file_gives n kinds.Link id later ts h e)
  leaf_gives n kinds.Commit id later ts h e = inl (file_gives n kinds.Commit id later ts h e)

  -- ---- directories

  abbrev IsNodeOf : List ℕ → DirectoryItems → Node → Type 0
  IsNodeOf n items t = (us : List Node) × AreNodes kind items us × IsNodeOver n kind items us t

  named_so : (n : List ℕ) (items : DirectoryItems) (t : Node) → IsNodeOf n items t → node_name t ≡ n
  named_so n items t p = ap node_name p.2.3

  its_leaves : (n : List ℕ) (items : DirectoryItems) → NoSlash n → n ≡ name
      → staged_at (name ∷ []) (leaves (slashed n) items) ≡ leaves [] items
  its_leaves n items h z = ap (λ (l : List ℕ). staged_at (l ∷ []) (leaves (slashed n) items)) (sym z)
      ∙ ap (staged_at (n ∷ [])) (dir_leaves n items) ∙ at_under n (leaves [] items) h

  made_gives : (n : List ℕ) (items : DirectoryItems) (below : List Staged) (ts : List Node)
      → IsDirectoryItem kind (directory n items)
      → below ≡ leaves [] items → n ≡ name → AreItemNodes kind (directory n items) ts → GivesIn kind names name below ts
  made_gives n items below ts h is z nodes = by (node_where (content kind items) (IsNodeOf n items) ts nodes)
    where
      full : below ≢ []
      full e =
          let f = first_of_items kind items h.2 h.1 in
          let clash : [] ≡ f.first ∷ f.others = sym e ∙ is ∙ f.is in
          absurd cc

      given : (t : Node) → IsNodeOf n items t → GivesNode kind names below (Some t)
      given t p =
          its_tree n items t (record { directory = record { made = h.2; ordered = h.3 }; leaves = sym is }) (inr full) p

      by : ((content kind items ≡ []) × (ts ≡ [])) ⊎ ((t : Node) × (ts ≡ t ∷ []) × IsNodeOf n items t)
          → GivesIn kind names name below ts
      by (inl p) = record {
        some = subst (All (GivesNamed kind names name below)) (sym p.1) (All-nil
            (GivesNamed kind names name below));
        later = λ o. subst (All Later) (sym is) (items_later kind items p.0);
      }
      by (inr p) = record {
        some = subst (All (GivesNamed kind names name below)) (sym p.1) (All-cons (GivesNamed kind names name below)
            p.0 [] (λ s. given p.0 p.2) (All-nil (GivesNamed kind names name below)));
        later = λ o.
            absurd (All-head (NotNamed name) p.0 [] (subst (All (NotNamed name)) p.1 o) (named_so n items p.0 p.2 ∙ z));
      }

  other_made : (n : List ℕ) (items : DirectoryItems) (ts : List Node) → n ≢ name
      → AreItemNodes kind (directory n items) ts
      → All (NotNamed name) ts
  other_made n items ts o nodes = by (node_where (content kind items) (IsNodeOf n items) ts nodes)
    where
      by : ((content kind items ≡ []) × (ts ≡ [])) ⊎ ((t : Node) × (ts ≡ t ∷ []) × IsNodeOf n items t)
          → All (NotNamed name) ts
      by (inl p) = subst (All (NotNamed name)) (sym p.1) (All-nil (NotNamed name))
      by (inr p) = subst (All (NotNamed name)) (sym p.1)
          (All-cons (NotNamed name) p.0 [] (λ e. o (sym (named_so n items p.0 p.2) ∙ e)) (All-nil (NotNamed name)))

  directory_gives : (n : List ℕ) (items : DirectoryItems) (ts : List Node) → IsDirectoryItem kind (directory n items)
      → AreItemNodes kind (directory n items) ts → ItemGives (directory n items) ts
  directory_gives n items ts h nodes = by (same_name n name)
    where
      by : (n ≡ name) ⊎ (n ≢ name) → ItemGives (directory n items) ts
      by (inl z) = inr (
        ap slashed z,
        subst NoSlash z h.0.component,
        made_gives n items
            (staged_at (name ∷ []) (leaves (slashed n) items)) ts h (its_leaves n items h.0.component z) z nodes,
      )
      by (inr o) =
          inl (
            at_none name (leaves (slashed n) items) (λ k d within g w. let v = all_within n items k d within in
                o (first_slash n name v.0 w.0 h.0.component g (sym v.1 ∙ w.1)).0),
            other_made n items ts o nodes,
          )

  item_gives : (x : DirectoryItem) (ts : List Node) → IsDirectoryItem kind x → AreItemNodes kind x ts → ItemGives x ts
  item_gives (leaf n k id later) ts h nodes = leaf_gives n k id later ts h.0.component nodes
  item_gives (directory n items) ts h nodes = directory_gives n items ts h nodes

  -- ---- items

  none_given : (t : Node) → GivesNode kind names [] (Some t) → ⊥
  none_given t (its_tree n items u is (inl e) nodes) = some e
  none_given t (its_tree n items u is (inr e) nodes) = e refl
  none_given t (whole n id u e z) = absurd cc

  in_front : (a b : List Staged) (front back : List Node) → a ≡ [] → All (NotNamed name) front
      → GivesIn kind names name b back → GivesIn kind names name (a ++ b) (front ++ back)
  in_front a b front back e o g =
      subst (λ (l : List Staged). GivesIn kind names name (l ++ b) (front ++ back)) (sym e) (record {
        some = All-append (GivesNamed kind names name b) front back
            (All-weaker (NotNamed name) (GivesNamed kind names name b) (λ t n z. absurd (n z)) front o) g.some;
        later = λ h. g.later (all_back front back h);
      })
    where
      all_back : (front back : List Node) → All (NotNamed name) (front ++ back) → All (NotNamed name) back
      all_back [] back h = h
      all_back (t ∷ front) back h = all_back front back (All-tail (NotNamed name) t (front ++ back) h)

  before_none : (a b : List Staged) (front back : List Node) → b ≡ [] → GivesIn kind names name a front
      → GivesIn kind names name b back → GivesIn kind names name (a ++ b) (front ++ back)
  before_none a b front back e g h =
      let same : a ++ b ≡ a = ap (λ (l : List Staged). a ++ l) e ∙ append-nil a in
      let clash : (t : Node) → GivesNamed kind names name b t → GivesNamed kind names name a t =
      λ t f z. absurd (none_given t (subst (λ (l : List Staged). GivesNode kind names l (Some t)) e (f z))) in
      subst (λ (l : List Staged). GivesIn kind names name l (front ++ back)) (sym same) (record {
        some = All-append (GivesNamed kind names name a) front back g.some
            (All-weaker (GivesNamed kind names name b) (GivesNamed kind names name a) clash back h.some);
        later = λ o. g.later (all_front front back o);
      })
    where
      all_front : (front back : List Node) → All (NotNamed name) (front ++ back) → All (NotNamed name) front
      all_front [] back o = All-nil (NotNamed name)
      all_front (t ∷ front) back o = All-cons (NotNamed name) t front (All-head (NotNamed name) t (front ++ back) o)
          (all_front front back (All-tail (NotNamed name) t (front ++ back) o))

  pub items_give : (xs : DirectoryItems) (ts : List Node) → AreDirectoryItems kind xs → IsGitOrdered (entries kind xs)
      → AreNodes kind xs ts → GivesIn kind names name (staged_at (name ∷ []) (leaves [] xs)) ts
  items_give no_more ts h o nodes =
      record {
        some = subst (All (GivesNamed kind names name [])) (sym nodes) (All-nil (GivesNamed kind names name []));
        later = λ l. All-nil Later;
      }
  items_give (next x xs) ts h o nodes =
      let rest = items_give xs nodes.1 h.1 (tail_ordered (entry_of kind x) (entries kind xs) o) nodes.4 in
      subst (GivesIn kind names name (staged_at (name ∷ []) (item_leaves [] x ++ leaves [] xs))) (sym nodes.2)
      (subst (λ (l : List Staged). GivesIn kind names name l (nodes.0 ++ nodes.1))
      (sym (at_append name (item_leaves [] x) (leaves [] xs)))
      (with_first x xs nodes.0 nodes.1 h.1 o rest (item_gives x nodes.0 h.0 nodes.3)))
    where
      with_first : (x : DirectoryItem) (xs : DirectoryItems) (front back : List Node) → AreDirectoryItems kind xs
          → IsGitOrdered (entry_of kind x ∷ entries kind xs)
          → GivesIn kind names name (staged_at (name ∷ []) (leaves [] xs)) back → ItemGives x front
          → GivesIn kind names name (staged_at (name ∷ []) (item_leaves [] x) ++ staged_at (name ∷ []) (leaves [] xs))
          (front ++ back)
      with_first x xs front back h o rest (inl p) = in_front (staged_at (name ∷ []) (item_leaves [] x))
          (staged_at (name ∷ []) (leaves [] xs)) front back p.0 p.1 rest
      with_first x xs front back h o rest (inr p) =
          let apart = items_apart kind name xs p.1 h (others_apart (entry_of kind x) (entries kind xs) name p.0 o) in
          let empty = at_none name (leaves [] xs) (λ k d within g w. apart k d within w) in
          before_none (staged_at (name ∷ []) (item_leaves [] x))
          (staged_at (name ∷ []) (leaves [] xs)) front back empty p.2 rest
