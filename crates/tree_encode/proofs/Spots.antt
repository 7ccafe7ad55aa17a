-- What entries give, what is returned for it, and which node of a cached tree is the first that isn't right.
use Rattle.std.proofs.Common.{◌≡◌, ◌⊎◌, inl, inr, ℕ, ◌+◌, ◌-◌, ◌<◌, List, [], ◌∷◌, ◌++◌, All, true, false, Contains}
use Rattle.std.proofs.Common.{Option, Some, None, length, map, take, drop, get_or, refl, sym, ap, subst, ◌∙◌}
use Rattle.std.proofs.Common.{append_assoc, arith}
use Rattle.std.specs.Prelude.{◌≢◌, Result, Ok, Err, IfOk, IfErr}
use Rattle.std.proofs.lemmas.List.{append-nil, length-append, map-append, take_all, take-append-drop, take_more}
use Rattle.std.proofs.lemmas.List.Elements.{All-append, All-contains, All-contains_itself, All-cons, All-head, All-tail}
use Rattle.std.proofs.lemmas.List.Elements.{All-nil, All-weaker}
use Rattle.std.specs.List.Sorted.{IsPermutation}
use Rattle.std.proofs.lemmas.List.Sorted.{Contains-permutation, IsPermutation-sym}
use Rattle.std.proofs.lemmas.Option.{same_Some}
use Rattle.std.proofs.Math.Seq.{take-append_seam}
use Rattle.bstr.specs.Owned.{bstring_bytes}
use Rattle.index_parts.specs.declared.hash.Kind.{Kind}
use Rattle.index_parts.specs.declared.hash.ObjectId.{ObjectId}
use Rattle.index_parts.specs.declared.object.tree.EntryKind.TheVariants as kinds
use Rattle.ext_tree.specs.Tree.{Node, Nodes, node, none, node_name, node_of, nodes_from}
use Rattle.ext_tree.specs.declared.Tree.{Tree}
use Rattle.ext_tree.specs.declared.Tree.TheViews.{out-Tree}
use Rattle.ext_tree.proofs.Sounds.{cut_at}
use Rattle.ext_tree.proofs.Spelled.{node_of-out}
use Rattle.tree_encode.specs.Directory.{DirectoryItems, IsTreeOf, no_more, next, leaf_count, items_id, leaves}
use Rattle.entry_list.specs.Record.{Record}
use Rattle.tree_encode.specs.Cached.{IsCached}
use Rattle.tree_encode.specs.Refusals.{AreFit, AreRefused, Both, Mode, NullId, OtherKind, Path, Refusal}
use Rattle.tree_encode.specs.Refusals.{TreesFaultCause, TooMany, Unmerged}
use Rattle.tree_encode.specs.declared.error.Error.{Error as WriteError}
use Rattle.tree_encode.specs.declared.error.Error.TheVariants as writes
use Rattle.tree_encode.specs.Staged.{Staged, merged_in, staged_in, unmerged_in}
use Rattle.tree_encode.specs.TreeIds.{any_name, moved, AreRight, GivesTreeId, GivesId, GivesNone, IsFirstWrongSpot}
use Rattle.tree_encode.specs.TreeIds.{IsRight}
use Rattle.tree_encode.specs.TreeIds.{Names}
use Rattle.tree_encode.specs.TreeIds.{TreeIdsCause, Spot, joined, spots, spots_below, staged_at}
use Rattle.tree_encode.specs.TreeIdsSteps.{GivesNode, GivesAt, IsAmong, IsChildOf, IsForwarded, IsSaid, IsExpectedNode}
use Rattle.tree_encode.specs.TreeIdsSteps.{FirstSpotCause, SpotCause}
use Rattle.tree_encode.specs.TreeIdsSteps.{children_of, parent_path, its_tree, nothing, given_node, whole}
use Rattle.tree_encode.specs.declared.tree_ids.Error.{Error}
use Rattle.tree_encode.specs.declared.tree_ids.Error.TheVariants as errors
use Rattle.tree_encode.proofs.Behinds.{at_first, at_more, at_root, in_front}
use Rattle.tree_encode.proofs.Gives.{GivesIn, GivesNamed, Later, NotNamed, items_give}
use Rattle.tree_encode.proofs.OneTree.{first_of_items, same_items}

-- ---- one id and one count

whole_of : ObjectId → Staged
whole_of id = record { path = []; kind = kinds.Tree; id = id; later = false }

not_whole : (kind : Kind) (below : List Staged) (items : DirectoryItems) (id : ObjectId) → IsTreeOf kind below items
    → below ≡ record { path = []; kind = kinds.Tree; id = id; later = false } ∷ [] → ⊥
not_whole kind below no_more id t e =
    let clash : [] ≡ record { path = []; kind = kinds.Tree; id = id; later = false } ∷ [] = t.leaves ∙ e in
    absurd cc
not_whole kind below (next x xs) id t e =
    let f = first_of_items kind (next x xs) t.directory.made (λ z. absurd cc) in
    let same : f.first ∷ f.others ≡ record { path = []; kind = kinds.Tree; id = id; later = false } ∷ [] =
    sym f.is ∙ t.leaves ∙ e in
    let head : f.first ≡ record { path = []; kind = kinds.Tree; id = id; later = false } = cc in
    f.some (ap (λ (s : Staged). s.path) head)

pub one_given : (kind : Kind) (staged : List Staged) (names : List (List ℕ)) (i j : ObjectId) (c d : ℕ)
    → GivesId kind staged names i c → GivesId kind staged names j d → (i ≡ j) × (c ≡ d)
one_given kind staged names i j c d (inl a) (inl b) =
    let same : a.items ≡ b.items = same_items kind a.items b.items a.is_tree.directory.made a.is_tree.directory.ordered
    b.is_tree.directory.made b.is_tree.directory.ordered (a.is_tree.leaves ∙ sym b.is_tree.leaves) in
    (a.is_id ∙ ap (items_id kind) same ∙ sym b.is_id, same_Some c d (sym a.counted ∙ b.counted))
one_given kind staged names i j c d (inl a) (inr b) =
    absurd (not_whole kind (staged_at names staged) a.items j a.is_tree b.0)
one_given kind staged names i j c d (inr a) (inl b) =
    absurd (not_whole kind (staged_at names staged) b.items i b.is_tree a.0)
one_given kind staged names i j c d (inr a) (inr b) =
    let same : record { path = []; kind = kinds.Tree; id = i; later = false } ∷ []
    ≡ record { path = []; kind = kinds.Tree; id = j; later = false } ∷ [] = sym a.0 ∙ b.0 in
    let head : record { path = []; kind = kinds.Tree; id = i; later = false }
    ≡ record { path = []; kind = kinds.Tree; id = j; later = false } = cc in
    (ap (λ (s : Staged). s.id) head, a.1 ∙ sym b.1)

-- ---- what is returned

tells_some : (n : List ℕ) (id i : ObjectId) (o : Option ℕ) (c : ℕ) (cs : Nodes)
    → given_node (Some (node n id o cs)) ≡ Some (i, c) → (id ≡ i) × (o ≡ Some c)
tells_some n id i None c cs e = absurd cc
tells_some n id i (Some d) c cs e =
    let p : (id, d) ≡ (i, c) = same_Some (id, d) (i, c) e in
    (ap (λ (x : ObjectId × ℕ). x.0) p, ap (λ (x : ObjectId × ℕ). Some x.1) p)

tells_none : (n : List ℕ) (id : ObjectId) (o : Option ℕ) (cs : Nodes) → given_node (Some (node n id o cs)) ≡ None
    → o ≡ None
tells_none n id None cs e = refl
tells_none n id (Some d) cs e = absurd cc

pub told_given : (kind : Kind) (staged : List Staged) (names : List (List ℕ)) (given : Option Node) (i : ObjectId)
    (c : ℕ) → GivesAt kind staged names given → given_node given ≡ Some (i, c) → GivesId kind staged names i c
told_given kind staged names None i c (nothing some later) e = absurd cc
told_given kind staged names (Some t) i c (its_tree n items u is some nodes) e =
    let p = tells_some n (items_id kind items) i (leaf_count (leaves [] items)) c (nodes_from nodes.2.0)
    (ap (λ (x : Node). given_node (Some x)) (sym nodes.2.3) ∙ e) in
    inl (record {
      items = items;
      is_tree = is;
      some = some;
      is_id = sym p.0;
      counted = ap leaf_count (sym is.leaves) ∙ p.1;
    })
told_given kind staged names (Some t) i c (whole n id u is z) e =
    let p = tells_some n id i (Some 1) c none (ap (λ (x : Node). given_node (Some x)) (sym z) ∙ e) in
    inr (
      is ∙ ap (λ (x : ObjectId). record { path = []; kind = kinds.Tree; id = x; later = false } ∷ []) p.0,
      sym (same_Some 1 c p.1),
    )

later_uncounted : (ss : List Staged) → ss ≢ [] → All Later ss → leaf_count ss ≡ None
later_uncounted [] some h = absurd (some refl)
later_uncounted (s ∷ ss) some h = let e : s.later ≡ true = All-head Later s ss h in rw e refl

pub none_told : (kind : Kind) (staged : List Staged) (names : List (List ℕ)) (given : Option Node)
    → GivesAt kind staged names given → given_node given ≡ None → (i : ObjectId) (c : ℕ)
    → GivesId kind staged names i c → ⊥
none_told kind staged names None (nothing some later) e i c (inl (a)) = by a.some
  where
    by : (names ≡ []) ⊎ (staged_at names staged ≢ []) → ⊥
    by (inl z) = some z
    by (inr full) =
        let clash : None ≡ Some c = sym (later_uncounted (staged_at names staged) full later) ∙ a.counted in
        absurd cc
none_told kind staged names None (nothing some later) e i c (inr b) =
    let t : false ≡ true =
    All-head Later (record { path = []; kind = kinds.Tree; id = i; later = false }) [] (subst (All Later) b.0 later) in
    absurd cc
none_told kind staged names (Some t) (its_tree n items u is some nodes) e i c (inl a) =
    let o : leaf_count (leaves [] items) ≡ None = tells_none n (items_id kind items) (leaf_count (leaves [] items))
    (nodes_from nodes.2.0) (ap (λ (x : Node). given_node (Some x)) (sym nodes.2.3) ∙ e) in
    let clash : None ≡ Some c = sym o ∙ ap leaf_count is.leaves ∙ a.counted in
    absurd cc
none_told kind staged names (Some t) (its_tree n items u is some nodes) e i c (inr b) =
    not_whole kind (staged_at names staged) items i is b.0
none_told kind staged names (Some t) (whole n id u is z) e i c h =
    let o : Some 1 ≡ None = tells_none n id (Some 1) none (ap (λ (x : Node). given_node (Some x)) (sym z) ∙ e) in
    absurd cc

-- ---- a path, and its front

joined_front : (name : List ℕ) (names : List (List ℕ)) → parent_path (name ∷ names) ≡ joined (name ∷ names) ++ 47 ∷ []
joined_front name [] = refl
joined_front name (n ∷ names) = ap (λ (l : List ℕ). name ++ 47 ∷ l) (joined_front n names)
    ∙ sym (append_assoc name (47 ∷ joined (n ∷ names)) (47 ∷ []))

fronts_append : (names : List (List ℕ)) (name : List ℕ)
    → parent_path (names ++ name ∷ []) ≡ parent_path names ++ (name ++ 47 ∷ [])
fronts_append [] name = refl
fronts_append (n ∷ names) name = ap (λ (l : List ℕ). n ++ 47 ∷ l) (fronts_append names name)
    ∙ sym (append_assoc n (47 ∷ parent_path names) (name ++ 47 ∷ []))

-- a name and a slash more
pub front_more : (names : List (List ℕ)) (name front named : List ℕ) → front ≡ parent_path names → named ≡ front ++ name
    → named ++ 47 ∷ [] ≡ parent_path (names ++ name ∷ [])
front_more names name front named f e = ap (λ (l : List ℕ). l ++ 47 ∷ []) (e ∙ ap (λ (l : List ℕ). l ++ name) f)
    ∙ append_assoc (parent_path names) name (47 ∷ []) ∙ sym (fronts_append names name)

-- What was appended to a front is removed.
pub front_back : (front named slashed deep short initial name : List ℕ) (n : ℕ) → short ≡ take n deep → deep ≡ slashed
    → slashed ≡ named ++ 47 ∷ [] → named ≡ front ++ name → front ≡ initial → n ≡ length initial → short ≡ initial
front_back front named slashed deep short initial name n s d l e f len =
    let whole : deep ≡ initial ++ (name ++ 47 ∷ []) =
    d ∙ l ∙ ap (λ (x : List ℕ). x ++ 47 ∷ []) (e ∙ ap (λ (x : List ℕ). x ++ name) f)
    ∙ append_assoc initial name (47 ∷ []) in
    s ∙ ap (λ (k : ℕ). take k deep) len ∙ ap (take (length initial)) whole ∙ take-append_seam initial (name ++ 47 ∷ [])

init_of : (x : List ℕ) → take (length (x ++ 47 ∷ []) - 1) (x ++ 47 ∷ []) ≡ x
init_of x =
    let n : length (x ++ 47 ∷ []) - 1 ≡ length x = omega (arith, length-append x (47 ∷ [])) in
    ap (λ (k : ℕ). take k (x ++ 47 ∷ [])) n ∙ take-append_seam x (47 ∷ [])

pub path_of_front : (names : List (List ℕ)) (front : List ℕ) → front ≡ parent_path names
    → joined names ≡ take (length front - 1) front
path_of_front [] front e = rw e refl
path_of_front (n ∷ names) front e =
    let f : front ≡ joined (n ∷ names) ++ 47 ∷ [] = e ∙ joined_front n names in
    rw f (sym (init_of (joined (n ∷ names))))

-- ---- one node

pub spot_said : (kind : Kind) (rs : List Record) (names : List (List ℕ)) (given : Option Node) (front : List ℕ)
    (id : ObjectId) (count : ℕ) (e : Error) → IsSaid given front id count e → (given_node given ≡ Some (id, count) → ⊥)
    → IsExpectedNode kind rs names (given_node given) → front ≡ parent_path names
    → SpotCause kind rs (record { names = names; id = id; count = Some count }) e
spot_said kind rs names given front id count (errors.Other path i n other number) s wrong told f =
    let gives : GivesTreeId kind rs names other number = subst (IsExpectedNode kind rs names) s.3 told in (
      λ r.
          let o = one_given kind (staged_in (merged_in rs)) names other id number count gives.1 r.1 in
          wrong (s.3 ∙ ap (λ (x : ObjectId). Some (x, number)) o.0 ∙ ap (λ (c : ℕ). Some (id, c)) o.1),
      (path_of_front names front f ∙ sym s.0, sym s.1, ap Some (sym s.2)),
      gives,
    )
spot_said kind rs names given front id count (errors.Ungiven path i n) s wrong told f =
    let none : GivesNone kind rs names = subst (IsExpectedNode kind rs names) s.3 told in (
      λ r. none id count r,
      (path_of_front names front f ∙ sym s.0, sym s.1, ap Some (sym s.2)),
      none,
    )
spot_said kind rs names given front id count (errors.Entries fault) s wrong told f = s
spot_said kind rs names given front id count errors.Memory s wrong told f = tt

-- ---- a child

pub same_nodes : (a b : List Node) → nodes_from a ≡ nodes_from b → a ≡ b
same_nodes [] [] e = refl
same_nodes [] (u ∷ b) e = absurd cc
same_nodes (t ∷ a) [] e = absurd cc
same_nodes (t ∷ a) (u ∷ b) e =
    let head : t ≡ u = cc in
    let tail : nodes_from a ≡ nodes_from b = cc in
    ap (λ (x : Node). x ∷ a) head ∙ ap (λ (l : List Node). u ∷ l) (same_nodes a b tail)

snoc_some : (names : List (List ℕ)) (name : List ℕ) → names ++ name ∷ [] ≢ []
snoc_some names name e = omega (arith, ap length e, length-append names (name ∷ []))

at_later : (name : List ℕ) (ss : List Staged) → All Later ss → All Later (staged_at (name ∷ []) ss)
at_later name [] h = All-nil Later
at_later name (s ∷ ss) h = subst (All Later) (sym (at_first (name ∷ []) s ss))
    (by _ (All-head Later s ss h) (at_later name ss (All-tail Later s ss h)))
  where
    by : (o : Option (List ℕ)) → Later s → All Later (staged_at (name ∷ []) ss)
        → All Later (in_front s o (staged_at (name ∷ []) ss))
    by None l rest = rest
    by (Some p) l rest = All-cons Later (moved s p) (staged_at (name ∷ []) ss) l rest

module _ (kind : Kind) (staged : List Staged) (names : List (List ℕ)) (name : List ℕ) where
  abbrev below : List Staged
  below = staged_at names staged

  no_child : (ts : List Node) (found : Option Node) → none ≡ nodes_from ts → IsAmong ts name found
      → All Later (staged_at (name ∷ []) below)
      → GivesNode kind (names ++ name ∷ []) (staged_at (name ∷ []) below) found
  no_child ts None e h l = nothing (snoc_some names name) l
  no_child ts (Some t) e h l =
      let z : ts ≡ [] = same_nodes ts [] (sym e) in
      let c = subst (λ (l : List Node). Contains l t) z h.0 in
      absurd (All-contains (λ _. ⊥) [] t (All-nil (λ _. ⊥)) c)

  a_child : (us vs ts : List Node) (found : Option Node) → IsPermutation us vs → nodes_from vs ≡ nodes_from ts
      → IsAmong ts name found → GivesIn kind (names ++ name ∷ []) name (staged_at (name ∷ []) below) us
      → GivesNode kind (names ++ name ∷ []) (staged_at (name ∷ []) below) found
  a_child us vs ts None p e h g = nothing (snoc_some names name)
      (g.later (all_us us vs p (subst (All (NotNamed name)) (sym (same_nodes vs ts e)) h)))
    where
      all_us : (us vs : List Node) → IsPermutation us vs → All (NotNamed name) vs → All (NotNamed name) us
      all_us us vs p h = All-weaker (Contains us) (NotNamed name)
          (λ t c. All-contains (NotNamed name) vs t h (Contains-permutation us vs t p c)) us (All-contains_itself us)
  a_child us vs ts (Some t) p e h g =
      let c : Contains us t = Contains-permutation vs us t (IsPermutation-sym us vs p)
      (subst (λ (l : List Node). Contains l t) (sym (same_nodes vs ts e)) h.0) in
      All-contains (GivesNamed kind (names ++ name ∷ []) name (staged_at (name ∷ []) below)) us t g.some c h.1

  by_case : (given found : Option Node) (ts : List Node) → GivesNode kind names below given → children_of given
      ≡ nodes_from ts → IsAmong ts name found → GivesNode kind (names ++ name ∷ []) (staged_at (name ∷ []) below) found
  by_case None found ts (nothing some later) e h = no_child ts found e h (at_later name below later)
  by_case (Some t) found ts (its_tree n items u is some nodes) e h =
      let g = items_give kind (names ++ name ∷ [])
      (snoc_some names name) name items nodes.0 is.directory.made is.directory.ordered nodes.1 in
      a_child nodes.0 nodes.2.0 ts found nodes.2.1 (ap (λ (x : Node). children_of (Some x)) (sym nodes.2.3) ∙ e) h
      (subst
      (λ (l : List Staged). GivesIn kind (names ++ name ∷ []) name (staged_at (name ∷ []) l) nodes.0) is.leaves g)
  by_case (Some t) found ts (whole n id u is z) e h =
      no_child ts found (ap (λ (x : Node). children_of (Some x)) (sym z) ∙ e) h
      (subst (λ (l : List Staged). All Later (staged_at (name ∷ []) l)) (sym is) (All-nil Later))

  pub child_given : (given found : Option Node) → GivesAt kind staged names given → IsChildOf given name found
      → GivesAt kind staged (names ++ name ∷ []) found
  child_given given found g h = subst (λ (l : List Staged). GivesNode kind (names ++ name ∷ []) l found)
      (sym (at_more names name staged)) (by_case given found h.0 g h.1 h.2)

-- ---- a node, and all below it

abbrev pub row : List Tree → Nodes
row ts = nodes_from (map node_of ts)

below_append : (names : List (List ℕ)) (a b : List Node)
    → spots_below names (nodes_from (a ++ b)) ≡ spots_below names (nodes_from a) ++ spots_below names (nodes_from b)
below_append names [] b = refl
below_append names (t ∷ a) b =
    ap (λ (l : List Spot). spots (names ++ node_name t ∷ []) t ++ l) (below_append names a b) ∙ sym (append_assoc
    (spots (names ++ node_name t ∷ []) t) (spots_below names (nodes_from a)) (spots_below names (nodes_from b)))

pub row_parts : (names : List (List ℕ)) (a b : List Tree)
    → spots_below names (row (a ++ b)) ≡ spots_below names (row a) ++ spots_below names (row b)
row_parts names a b = ap (λ (l : List Node). spots_below names (nodes_from l)) (map-append node_of a b)
    ∙ below_append names (map node_of a) (map node_of b)

module _ (kind : Kind) (rs : List Record) where
  abbrev Right : Spot → Type 0
  Right = IsRight kind rs

  wrong_within : (P : Spot → Type 0) (a b c : List Spot) → All Right a → IsFirstWrongSpot kind rs b P
      → IsFirstWrongSpot kind rs (a ++ (b ++ c)) P
  wrong_within P a b c h w = (
    a ++ w.0,
    w.1,
    w.2 ++ c,
    ap (λ (l : List Spot). a ++ (l ++ c)) w.3 ∙ ap (λ (l : List Spot). a ++ l) (append_assoc w.0 (w.1 ∷ w.2) c)
        ∙ sym (append_assoc a w.0 (w.1 ∷ (w.2 ++ c))),
    All-append Right a w.0 h w.4,
    w.5,
    w.6,
  )

  says_within : (e : Error) (a b c : List Spot) → All Right a → FirstSpotCause kind rs b e
      → FirstSpotCause kind rs (a ++ (b ++ c)) e
  says_within (errors.Other path id count other number) a b c h w =
      wrong_within (λ s. Names (bstring_bytes path) id count s × GivesTreeId kind rs s.names other number) a b c h w
  says_within (errors.Ungiven path id count) a b c h w =
      wrong_within (λ s. Names (bstring_bytes path) id count s × GivesNone kind rs s.names) a b c h w
  says_within (errors.Entries fault) a b c h w = w
  says_within errors.Memory a b c h w = w

  says_own : (e : Error) (s : Spot) (ss : List Spot) → SpotCause kind rs s e → FirstSpotCause kind rs (s ∷ ss) e
  says_own (errors.Other path id count other number) s ss w = ([], s, ss, refl, All-nil Right, w.0, (w.1, w.2))
  says_own (errors.Ungiven path id count) s ss w = ([], s, ss, refl, All-nil Right, w.0, (w.1, w.2))
  says_own (errors.Entries fault) s ss w = w
  says_own errors.Memory s ss w = w

  module _ (names : List (List ℕ)) (t : Tree) (b : List Tree) (below : b ≡ (out-Tree t).children.items) where
    abbrev own : Spot
    own = record { names = names; id = (out-Tree t).id; count = (out-Tree t).num_entries }

    spots_at : spots names (node_of t) ≡ own ∷ spots_below names (row b)
    spots_at = ap (spots names) (node_of-out t) ∙ ap (λ (l : List Tree). own ∷ spots_below names (row l)) (sym below)

    pub own_fault : (e : Error) → SpotCause kind rs own e → FirstSpotCause kind rs (spots names (node_of t)) e
    own_fault e w = subst (λ (l : List Spot). FirstSpotCause kind rs l e) (sym spots_at)
        (says_own e own (spots_below names (row b)) w)

    module _ (i : ℕ) (right : All Right (spots_below names (row (take i b)))) where
      pub all_right : (i < length b → ⊥) → Right own → All Right (spots names (node_of t))
      all_right over h =
          let whole : take i b ≡ b = take_all i b (omega (arith, over)) in
          subst (All Right) (sym spots_at) (All-cons Right own (spots_below names (row b)) h
          (subst (λ (l : List Tree). All Right (spots_below names (row l))) whole right))

      module _ (x : Tree) (lt : i < length b) (is : x ≡ get_or b i x) (name : List ℕ)
          (named : name ≡ (out-Tree x).name.items) where
        abbrev its : List (List ℕ)
        its = names ++ name ∷ []

        one : spots_below names (row (x ∷ [])) ≡ spots its (node_of x)
        one = append-nil (spots (names ++ node_name (node_of x) ∷ []) (node_of x))
            ∙ ap (λ (n : List ℕ). spots (names ++ n ∷ []) (node_of x)) (ap node_name (node_of-out x) ∙ sym named)

        pub child_fault : (e : Error) → Right own → FirstSpotCause kind rs (spots its (node_of x)) e
            → FirstSpotCause kind rs (spots names (node_of t)) e
        child_fault e h w =
            let parts : b ≡ take i b ++ (x ∷ [] ++ drop (i + 1) b) =
            sym (take-append-drop i b) ∙ ap (λ (l : List Tree). take i b ++ l) (cut_at b i x lt is) in
            let back : spots_below names (row (x ∷ [] ++ drop (i + 1) b)) ≡ spots its (node_of x)
            ++ spots_below names (row (drop (i + 1) b)) = row_parts names (x ∷ []) (drop (i + 1) b)
            ∙ ap (λ (l : List Spot). l ++ spots_below names (row (drop (i + 1) b))) one in
            let all : spots_below names (row b) ≡ spots_below names (row (take i b))
            ++ (spots its (node_of x) ++ spots_below names (row (drop (i + 1) b))) =
            ap (λ (l : List Tree). spots_below names (row l)) parts
            ∙ row_parts names (take i b) (x ∷ [] ++ drop (i + 1) b)
            ∙ ap (λ (l : List Spot). spots_below names (row (take i b)) ++ l) back in
            subst (λ (l : List Spot). FirstSpotCause kind rs l e) (sym (spots_at ∙ ap (λ (l : List Spot). own ∷ l) all))
            (says_within e (own ∷ spots_below names (row (take i b))) (spots its (node_of x)) (spots_below names
            (row (drop (i + 1) b))) (All-cons Right own (spots_below names (row (take i b))) h right) w)

        pub more_right : All Right (spots its (node_of x)) → All Right (spots_below names (row (take (i + 1) b)))
        more_right h =
            let more : take (i + 1) b ≡ take i b ++ x ∷ [] =
            take_more b i x lt ∙ ap (λ (y : Tree). take i b ++ y ∷ []) (sym is) in
            let all : spots_below names (row (take (i + 1) b))
            ≡ spots_below names (row (take i b)) ++ spots its (node_of x) =
            ap (λ (l : List Tree). spots_below names (row l)) more ∙ row_parts names (take i b) (x ∷ [])
            ∙ ap (λ (l : List Spot). spots_below names (row (take i b)) ++ l) one in
            subst (All Right) (sym all)
            (All-append Right (spots_below names (row (take i b))) (spots its (node_of x)) right h)

-- ---- the whole

pub root_given : (kind : Kind) (staged : List Staged) (items : DirectoryItems) (t : Node) → IsTreeOf kind staged items
    → IsCached kind [] items t → GivesAt kind staged [] (Some t)
root_given kind staged items t is cached =
    its_tree [] items t (subst (λ (l : List Staged). IsTreeOf kind l items) (sym (at_root staged)) is) (inl refl) cached

pub root_right : (r : Result (Unit {0}) Error) (kind : Kind) (ms qs : List Record) (given : Option Node) (t : Node)
    (front : List ℕ)
    → IfOk r (λ _. (k : Kind) (ss : List Record) (names : List (List ℕ)) → qs ≡ unmerged_in ss
    → front ≡ parent_path names → GivesAt k (staged_in (merged_in ss)) names given → All (IsRight k ss) (spots names t))
    → front ≡ [] → GivesAt kind (staged_in ms) [] given
    → IfOk r (λ _. (rs : List Record) → ms ≡ merged_in rs → qs ≡ unmerged_in rs → AreRight kind rs t)
root_right (Ok u) kind ms qs given t front h f g = λ rs e d.
    h kind rs [] d f (subst (λ (l : List Record). GivesAt kind (staged_in l) [] given) e g)
root_right (Err e) kind ms qs given t front h f g = tt

says_whole : (kind : Kind) (rs : List Record) (t : Node) (e : Error) → AreFit any_name kind (merged_in rs)
    → FirstSpotCause kind rs (spots [] t) e → TreeIdsCause kind rs t e
says_whole kind rs t (errors.Other path id count other number) fit w = (fit, w)
says_whole kind rs t (errors.Ungiven path id count) fit w = (fit, w)
says_whole kind rs t (errors.Entries fault) fit w = absurd w
says_whole kind rs t errors.Memory fit w = tt

pub root_fault : (r : Result (Unit {0}) Error) (kind : Kind) (ms qs : List Record) (given : Option Node) (t : Node)
    (front : List ℕ)
    → IfErr r (λ e. (k : Kind) (ss : List Record) (names : List (List ℕ)) → qs ≡ unmerged_in ss
    → front ≡ parent_path names → GivesAt k (staged_in (merged_in ss)) names given
    → FirstSpotCause k ss (spots names t) e)
    → front ≡ [] → AreFit any_name kind ms → GivesAt kind (staged_in ms) [] given
    → IfErr r (λ e. (rs : List Record) → ms ≡ merged_in rs → qs ≡ unmerged_in rs → TreeIdsCause kind rs t e)
root_fault (Ok u) kind ms qs given t front h f fit g = tt
root_fault (Err e) kind ms qs given t front h f fit g = λ rs is d.
    says_whole kind rs t e (subst (AreFit any_name kind) is fit)
    (h kind rs [] d f (subst (λ (l : List Record). GivesAt kind (staged_in l) [] given) is g))

-- The reason why the merged entries have no trees is the reason for all records.
module _ (kind : Kind) (ms rs : List Record) (t : Node) (S : ℕ → Type 0) (X : Type 0) (is : ms ≡ merged_in rs) where
  abbrev Refused : Refusal → Type 0
  Refused f = AreRefused any_name kind ms f × X

  said_of : (e g : Error) → g ≡ e → TreeIdsCause kind rs t e → TreeIdsCause kind rs t g
  said_of e g p h = subst (TreeIdsCause kind rs t) (sym p) h

  refused_so : (f : Refusal) → Refused f → AreRefused any_name kind (merged_in rs) f
  refused_so f h = subst (λ (l : List Record). AreRefused any_name kind l f) is h.0

  pub passed_said : (fault : WriteError) (e : Error) → IsForwarded fault e → TreesFaultCause fault S Refused
      → TreeIdsCause kind rs t e
  passed_said (writes.Sink number) e p h = said_of errors.Memory e p tt
  passed_said writes.TooManyEntries e p h =
      said_of (errors.Entries writes.TooManyEntries) e p (refused_so TooMany h)
  passed_said (writes.Unmerged path) e p h =
      said_of (errors.Entries (writes.Unmerged path)) e p (refused_so (Unmerged (bstring_bytes path)) h)
  passed_said (writes.Mode path mode) e p h =
      said_of (errors.Entries (writes.Mode path mode)) e p (refused_so (Mode (bstring_bytes path) mode.0) h)
  passed_said (writes.Path path fault) e p h =
      said_of (errors.Entries (writes.Path path fault)) e p (refused_so (Path (bstring_bytes path) fault) h)
  passed_said (writes.OtherKind path) e p h =
      said_of (errors.Entries (writes.OtherKind path)) e p (refused_so (OtherKind (bstring_bytes path)) h)
  passed_said (writes.NullId path) e p h =
      said_of (errors.Entries (writes.NullId path)) e p (refused_so (NullId (bstring_bytes path)) h)
  passed_said (writes.Both file below) e p h = said_of (errors.Entries (writes.Both file below)) e p
      (refused_so (Both (bstring_bytes file) (bstring_bytes below)) h)
  passed_said writes.Memory e p h = said_of errors.Memory e p tt
