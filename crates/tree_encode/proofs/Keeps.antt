-- What an old cached tree leaves of a node is what it leaves of the directory's child.
use Rattle.std.proofs.Common.{◌≡◌, ◌⊎◌, inl, inr, ℕ, zero, suc, ◌+◌, ◌<◌, ◌≤◌, List, [], ◌∷◌, ◌++◌, All, false}
use Rattle.std.proofs.Common.{Contains}
use Rattle.std.proofs.Common.{Option, Some, None, length, take, get_or, set, sym, ap, subst, ◌∙◌}
use Rattle.std.proofs.Common.{append_assoc, append-nil, arith}
use Rattle.std.specs.Prelude.{◌≢◌, IfSome}
use Rattle.std.specs.List.{AllZip}
use Rattle.std.specs.List.Sorted.{IsSorted}
use Rattle.std.proofs.lemmas.List.Sorted.{Contains-permutation, IsPermutation-sym}
use Rattle.std.specs.Ordering.{is_lt, ordering_reverse}
use Rattle.std.specs.declared.cmp.Ordering.TheVariants.{Less, Greater}
use Rattle.std.proofs.lemmas.Cmp.{nat_list_cmp_total}
use Rattle.std.proofs.lemmas.List.{length-append, take_more, take_more_set}
use Rattle.std.proofs.lemmas.List.Elements.{All-append, All-contains, All-contains_itself, All-cons, All-head, All-nil}
use Rattle.std.proofs.lemmas.List.Elements.{All-tail, All-weaker}
use Rattle.std.proofs.lemmas.List.Elements.{Contains-append_cases, Contains-append_left, Contains-append_right}
use Rattle.std.proofs.lemmas.List.Elements.{Contains-push, Contains-push_cases}
use Rattle.std.proofs.lemmas.Option.{same_Some}
use Rattle.index_parts.specs.declared.hash.Kind.{Kind}
use Rattle.index_parts.specs.declared.hash.ObjectId.{ObjectId}
use Rattle.ext_tree.specs.Sound.{RiseFrom}
use Rattle.ext_tree.specs.StorableSteps.{AreApart}
use Rattle.ext_tree.specs.StoredTree.{IsApartFrom}
use Rattle.ext_tree.specs.Tree.{NamesRise, Node, Nodes, SortsChildren, SortsEach, node, none, more, node_name, name_cmp}
use Rattle.ext_tree.specs.Tree.{node_of, nodes_from}
use Rattle.ext_tree.specs.declared.Tree.{Tree}
use Rattle.ext_tree.specs.declared.Tree.TheViews.{out-Tree}
use Rattle.ext_tree.proofs.Sounds.{name_out}
use Rattle.ext_tree.proofs.Spelled.{node_of-out}
use Rattle.ext_tree.proofs.Storables.{apart_of_rise}
use Rattle.tree_encode.specs.Kept.{Becomes, kept, dropped, HasNamesInOrder, HaveNamesInOrder, IsConfirmed}
use Rattle.tree_encode.specs.Kept.{spots_of}
use Rattle.tree_encode.specs.Kept.{KeepsCounts}
use Rattle.tree_encode.specs.KeptSteps.{own_spot}
use Rattle.tree_encode.specs.TreeIds.{Spot, spots, spots_below}
use Rattle.tree_encode.specs.TreeIdsSteps.{IsAmong, IsChildOf, IsSortedBelow, given_node}
use Rattle.tree_encode.proofs.Spots.{row, row_parts, same_nodes}

-- ---- names that lead below others

-- these names, and then more
abbrev pub LeadsOn : List (List ℕ) → Spot → Type 0
LeadsOn names s = (rest : List (List ℕ)) × (s.names ≡ names ++ rest)

abbrev LeadsBelow : List (List ℕ) → Spot → Type 0
LeadsBelow names s = (name : List ℕ) × (rest : List (List ℕ)) × (s.names ≡ names ++ name ∷ rest)

below_of : (names : List (List ℕ)) (name : List ℕ) (s : Spot) → LeadsOn (names ++ name ∷ []) s → LeadsBelow names s
below_of names name s p = (name, p.0, p.1 ∙ append_assoc names (name ∷ []) p.0)

on_of : (names : List (List ℕ)) (s : Spot) → LeadsBelow names s → LeadsOn names s
on_of names s p = (p.0 ∷ p.1, p.2)

mutual
  pub leads_on : (names : List (List ℕ)) (t : Node) → All (LeadsOn names) (spots names t)
  leads_on names (node name id count ts) =
      All-cons (LeadsOn names) (record { names = names; id = id; count = count }) (spots_below names ts)
      ([], sym (append-nil names))
      (All-weaker (LeadsBelow names) (LeadsOn names) (on_of names) (spots_below names ts) (leads_below names ts))

  leads_below : (names : List (List ℕ)) (ts : Nodes) → All (LeadsBelow names) (spots_below names ts)
  leads_below names none = All-nil (LeadsBelow names)
  leads_below names (more t ts) = All-append (LeadsBelow names) (spots (names ++ node_name t ∷ []) t)
      (spots_below names ts) (All-weaker (LeadsOn (names ++ node_name t ∷ [])) (LeadsBelow names)
      (below_of names (node_name t)) (spots (names ++ node_name t ∷ []) t) (leads_on (names ++ node_name t ∷ []) t))
      (leads_below names ts)

one_next : (names : List (List ℕ)) (a b : List ℕ) (r s : List (List ℕ))
    → (names ++ a ∷ []) ++ r ≡ (names ++ b ∷ []) ++ s
    → a ≡ b
one_next [] a b r s e = cc
one_next (n ∷ names) a b r s e =
    let tail : (names ++ a ∷ []) ++ r ≡ (names ++ b ∷ []) ++ s = cc in one_next names a b r s tail

not_here : (names : List (List ℕ)) (name : List ℕ) (rest : List (List ℕ)) → names ≡ names ++ name ∷ rest → ⊥
not_here names name rest e = omega (arith, ap length e, length-append names (name ∷ rest))

-- ---- siblings

first_or_later : (t u : Node) (us : List Node) → Contains (u ∷ us) t → (u ≡ t) ⊎ Contains us t
first_or_later t u us c = by (Contains-append_cases (u ∷ []) us t c)
  where
    none_in : Contains {X = Node} [] t → (u ≡ t) ⊎ Contains us t
    none_in n = absurd (All-contains (λ (_ : Node). ⊥) [] t (All-nil (λ (_ : Node). ⊥)) n)

    its : Contains {X = Node} [] t ⊎ (u ≡ t) → (u ≡ t) ⊎ Contains us t
    its (inl n) = none_in n
    its (inr e) = inl e

    by : Contains (u ∷ []) t ⊎ Contains us t → (u ≡ t) ⊎ Contains us t
    by (inl here) = its (Contains-push_cases [] u t here)
    by (inr later) = inr later

none_here : {X : Type 0} (x : X) → Contains {X = X} [] x → ⊥
none_here {X} x n = All-contains (λ (_ : X). ⊥) [] x (All-nil (λ (_ : X). ⊥)) n

apart_from : (t u : Node) (us : List Node) → IsApartFrom t (nodes_from us) → Contains us u
    → node_name t ≡ node_name u → ⊥
apart_from t u [] h c e = none_here u c
apart_from t u (v ∷ us) h c e = by (first_or_later u v us c) (λ later. apart_from t u us h.1 later e)
  where
    by : (v ≡ u) ⊎ Contains us u → (Contains us u → ⊥) → ⊥
    by (inl same) rest = h.0 (e ∙ ap node_name (sym same))
    by (inr later) rest = rest later

one_named : (ts : List Node) (t u : Node) → AreApart (nodes_from ts) → Contains ts t → Contains ts u
    → node_name t ≡ node_name u → t ≡ u
one_named [] t u h c d e = absurd (none_here t c)
one_named (v ∷ ts) t u h c d e =
    by (first_or_later t v ts c) (first_or_later u v ts d) (λ a b. one_named ts t u h.1 a b e)
  where
    by : (v ≡ t) ⊎ Contains ts t → (v ≡ u) ⊎ Contains ts u → (Contains ts t → Contains ts u → t ≡ u) → t ≡ u
    by (inl a) (inl b) rest = sym a ∙ b
    by (inl a) (inr b) rest = absurd (apart_from v u ts h.0 b (ap node_name a ∙ e))
    by (inr a) (inl b) rest = absurd (apart_from v t ts h.0 a (ap node_name b ∙ sym e))
    by (inr a) (inr b) rest = rest a b

not_above : (t u : Node) → name_cmp t u ≡ Less → is_lt (name_cmp u t) ≡ false
not_above t u e =
    let g : name_cmp u t ≡ Greater = nat_list_cmp_total.antisymm (node_name u) (node_name t) ∙ ap ordering_reverse e in
    ap is_lt g

sorted_from : (t : Node) (ts : List Node) → RiseFrom (Some t) (nodes_from ts) → IsSorted name_cmp (t ∷ ts)
sorted_from t [] r = λ k d low lt. absurd (omega (arith, lt))
sorted_from t (u ∷ us) r = by (sorted_from u us r.1)
  where
    by : IsSorted name_cmp (u ∷ us) → IsSorted name_cmp (t ∷ u ∷ us)
    by rest zero d low lt = not_above t u r.0
    by rest (suc k) d low lt =
        let next : suc k + 1 ≡ suc (k + 1) = omega arith in rw next (rest k d (omega arith) (omega (arith, lt)))

sorted_all : (ts : List Node) → RiseFrom None (nodes_from ts) → IsSorted name_cmp ts
sorted_all [] r = λ k d low lt. absurd (omega (arith, lt))
sorted_all (t ∷ ts) r = sorted_from t ts r

-- siblings in order are such as a search wants
pub in_order_below : (old : Option Node) → IfSome old HasNamesInOrder → IsSortedBelow old
in_order_below None h ts e =
    subst (IsSorted name_cmp) (same_nodes [] ts e) (λ k d low lt. absurd (omega (arith, lt)))
in_order_below (Some (node name id count cs)) h ts e =
    sorted_all ts (subst (RiseFrom None) e h.0)

in_order_each : (ts : List Node) (t : Node) → HaveNamesInOrder (nodes_from ts) → Contains ts t → HasNamesInOrder t
in_order_each [] t h c = absurd (none_here t c)
in_order_each (u ∷ us) t h c = by (first_or_later t u us c) (in_order_each us t h.1)
  where
    by : (u ≡ t) ⊎ Contains us t → (Contains us t → HasNamesInOrder t) → HasNamesInOrder t
    by (inl e) rest = subst HasNamesInOrder e h.0
    by (inr later) rest = rest later

pub in_order_child : (old : Option Node) (name : List ℕ) (found : Option Node)
    → IfSome found (λ t. IsChildOf old name (Some t)) → IfSome old HasNamesInOrder → IfSome found HasNamesInOrder
in_order_child old name None c h = tt
in_order_child None name (Some t) c h =
    let z : [] ≡ c.0 = same_nodes [] c.0 c.1 in
    absurd (none_here t (subst (λ (l : List Node). Contains l t) (sym z) c.2.0))
in_order_child (Some (node n id count cs)) name (Some t) c h =
    in_order_each c.0 t (subst HaveNamesInOrder c.1 h.1) c.2.0

-- ---- the nodes of a child

of_child : (names : List (List ℕ)) (ts : List Node) (t : Node) (s : Spot) → Contains ts t
    → Contains (spots (names ++ node_name t ∷ []) t) s → Contains (spots_below names (nodes_from ts)) s
of_child names [] t s c h = absurd (none_here t c)
of_child names (u ∷ us) t s c h = by (first_or_later t u us c) (λ later. of_child names us t s later h)
  where
    by : (u ≡ t) ⊎ Contains us t → (Contains us t → Contains (spots_below names (nodes_from us)) s)
        → Contains (spots_below names (nodes_from (u ∷ us))) s
    by (inl e) rest = Contains-append_left (spots (names ++ node_name u ∷ []) u) (spots_below names (nodes_from us)) s
        (subst (λ (v : Node). Contains (spots (names ++ node_name v ∷ []) v) s) (sym e) h)
    by (inr later) rest =
        Contains-append_right (spots (names ++ node_name u ∷ []) u) (spots_below names (nodes_from us)) s (rest later)

from_child : (names : List (List ℕ)) (ts : List Node) (s : Spot) → Contains (spots_below names (nodes_from ts)) s
    → (t : Node) × Contains ts t × Contains (spots (names ++ node_name t ∷ []) t) s
from_child names [] s c = absurd (none_here s c)
from_child names (u ∷ us) s c =
    by (Contains-append_cases (spots (names ++ node_name u ∷ []) u) (spots_below names (nodes_from us)) s c)
    (from_child names us s)
  where
    later : (t : Node) × Contains us t × Contains (spots (names ++ node_name t ∷ []) t) s
        → (t : Node) × Contains (u ∷ us) t × Contains (spots (names ++ node_name t ∷ []) t) s
    later p = (p.0, Contains-append_right (u ∷ []) us p.0 p.1, p.2)

    by : Contains (spots (names ++ node_name u ∷ []) u) s ⊎ Contains (spots_below names (nodes_from us)) s
        → (Contains (spots_below names (nodes_from us)) s
        → (t : Node) × Contains us t × Contains (spots (names ++ node_name t ∷ []) t) s)
        → (t : Node) × Contains (u ∷ us) t × Contains (spots (names ++ node_name t ∷ []) t) s
    by (inl here) rest = (u, Contains-append_left (u ∷ []) us u (Contains-push [] u), here)
    by (inr behind) rest = later (rest behind)

module _ (names : List (List ℕ)) (name : List ℕ) where
  abbrev its : List (List ℕ)
  its = names ++ name ∷ []

  confirmed_up : (old found : Option Node) (s : Spot) → IfSome found (λ t. IsChildOf old name (Some t))
      → IsConfirmed its found s → IsConfirmed names old s
  confirmed_up old None s c h = absurd (none_here s h.1)
  confirmed_up None (Some t) s c h =
      let z : [] ≡ c.0 = same_nodes [] c.0 c.1 in
      absurd (none_here t (subst (λ (l : List Node). Contains l t) (sym z) c.2.0))
  confirmed_up (Some (node n id count cs)) (Some t) s c h = (
    h.0,
    Contains-append_right (record { names = names; id = id; count = count } ∷ []) (spots_below names cs) s
        (subst (λ (l : Nodes). Contains (spots_below names l) s) (sym c.1)
        (of_child names c.0 t s c.2.0
        (subst (λ (l : List ℕ). Contains (spots (names ++ l ∷ []) t) s) (sym c.2.1) h.1))),
  )

  module _ (cs : Nodes) (rise : RiseFrom None cs) (s : Spot) (on : LeadsOn its s) where
    in_found : (ts : List Node) (found : Option Node) (t : Node) → cs ≡ nodes_from ts → IsAmong ts name found
        → Contains ts t → Contains (spots (names ++ node_name t ∷ []) t) s → Contains (spots_of its found) s
    in_found ts found t e among c h = by found among
      where
        so : LeadsOn (names ++ node_name t ∷ []) s
        so = All-contains (LeadsOn (names ++ node_name t ∷ [])) (spots (names ++ node_name t ∷ []) t) s
            (leads_on (names ++ node_name t ∷ []) t) h

        named : node_name t ≡ name
        named = one_next names (node_name t) name so.0 on.0 (sym so.1 ∙ on.1)

        by : (found : Option Node) → IsAmong ts name found → Contains (spots_of its found) s
        by None a = absurd (All-contains (λ t. node_name t ≢ name) ts t a c named)
        by (Some u) a =
            let same : t ≡ u = one_named ts t u (apart_of_rise (nodes_from ts) (subst (RiseFrom None) e rise)) c a.0
            (named ∙ sym a.1) in
            subst (λ (v : Node). Contains (spots its v) s) same
            (subst (λ (l : List ℕ). Contains (spots (names ++ l ∷ []) t) s) named h)

  confirmed_down : (old found : Option Node) (s : Spot) → LeadsOn its s → IfSome old HasNamesInOrder
      → IsChildOf old name found → IsConfirmed names old s → IsConfirmed its found s
  confirmed_down None found s on order c h = absurd (none_here s h.1)
  confirmed_down (Some (node n id count cs)) found s on order c h = (
    h.0,
    by
        (Contains-append_cases (own ∷ []) (spots_below names cs) s h.1),
  )
    where
      own : Spot
      own = record { names = names; id = id; count = count }

      here : Contains {X = Spot} [] s ⊎ (own ≡ s) → ⊥
      here (inl n) = none_here s n
      here (inr e) =
          not_here names name on.0 (ap (λ (x : Spot). x.names) e ∙ on.1 ∙ append_assoc names (name ∷ []) on.0)

      by : Contains (own ∷ []) s ⊎ Contains (spots_below names cs) s → Contains (spots_of its found) s
      by (inl o) = absurd (here (Contains-push_cases [] own s o))
      by (inr b) =
          let f = from_child names c.0 s (subst (λ (l : Nodes). Contains (spots_below names l) s) c.1 b) in
          in_found cs order.0 s on c.0 found f.0 c.1 c.2 f.1 f.2

  -- what becomes of a node by the child that the old tree has becomes of it by the old tree
  becomes_up : (kind : Kind) (old found : Option Node) (s t : Spot) → IfSome found (λ t. IsChildOf old name (Some t))
      → (IsSortedBelow old → IsChildOf old name found) → LeadsOn its s → Becomes kind its found s t
      → Becomes kind names old s t
  becomes_up kind old found s t some exactly on (kept c e) = kept (confirmed_up old found s some c) e
  becomes_up kind old found s t some exactly on (dropped n e) = dropped
      (λ order c. n (in_order_child old name found some order) (confirmed_down old found s on order
      (exactly (in_order_below old order)) c)) e

-- ---- a node itself

not_below : (names : List (List ℕ)) (i : ObjectId) (c : Option ℕ) (cs : Nodes)
    → Contains (spots_below names cs) (record { names = names; id = i; count = c }) → ⊥
not_below names i c cs h =
    let s : Spot = record { names = names; id = i; count = c } in
    let b = All-contains (LeadsBelow names) (spots_below names cs) s (leads_below names cs) h in
    not_here names b.0 b.1 b.2

pub told_yes : (names : List (List ℕ)) (old : Option Node) (i : ObjectId) (o : Option ℕ) (c : ℕ) → o ≡ Some c
    → given_node old ≡ Some (i, c) → IsConfirmed names old (record { names = names; id = i; count = o })
told_yes names None i o c is e = absurd cc
told_yes names (Some (node n id None cs)) i o c is e = absurd cc
told_yes names (Some (node n id (Some d) cs)) i o c is e =
    let p : (id, d) ≡ (i, c) = same_Some (id, d) (i, c) e in
    let first : id ≡ i = ap (λ (x : ObjectId × ℕ). x.0) p in
    let second : Some d ≡ o = ap (λ (x : ObjectId × ℕ). Some x.1) p ∙ sym is in
    let same : record { names = names; id = id; count = Some d } ≡ record { names = names; id = i; count = o } =
    ap (λ (x : ObjectId). record { names = names; id = x; count = Some d }) first
    ∙ ap (λ (x : Option ℕ). record { names = names; id = i; count = x }) second in (
      λ z. let clash : None ≡ Some c = sym z ∙ is in absurd cc,
      (0, omega arith, same),
    )

pub told_no : (names : List (List ℕ)) (old : Option Node) (i : ObjectId) (o : Option ℕ) (c : ℕ) → o ≡ Some c
    → (given_node old ≡ Some (i, c) → ⊥) → IsConfirmed names old (record { names = names; id = i; count = o }) → ⊥
told_no names None i o c is n h = none_here (record { names = names; id = i; count = o }) h.1
told_no names (Some (node name id d cs)) i o c is n h =
    by (Contains-append_cases (own ∷ []) (spots_below names cs) s h.1)
  where
    own : Spot
    own = record { names = names; id = id; count = d }

    s : Spot
    s = record { names = names; id = i; count = o }

    same : own ≡ s → ⊥
    same e =
        let second : d ≡ Some c = ap (λ (x : Spot). x.count) e ∙ is in
        n (ap (λ (x : Option ℕ). given_node (Some (node name id x cs))) second
        ∙ ap (λ (x : ObjectId). Some (x, c)) (ap (λ (x : Spot). x.id) e))

    here : Contains {X = Spot} [] s ⊎ (own ≡ s) → ⊥
    here (inl z) = none_here s z
    here (inr e) = same e

    by : Contains (own ∷ []) s ⊎ Contains (spots_below names cs) s → ⊥
    by (inl a) = here (Contains-push_cases [] own s a)
    by (inr b) = not_below names i o cs b

-- ---- lists side by side

zip_both : {X : Type 0} (R : X → X → Type 0) (us vs ws zs : List X) → AllZip R us ws → AllZip R vs zs
    → AllZip R (us ++ vs) (ws ++ zs)
zip_both R [] vs [] zs h g = g
zip_both R [] vs (c ∷ ws) zs h g = absurd h
zip_both R (a ∷ us) vs [] zs h g = absurd h
zip_both R (a ∷ us) vs (c ∷ ws) zs h g = (h.0, zip_both R us vs ws zs h.1 g)

zip_weaker : {X : Type 0} (P : X → Type 0) (R Q : X → X → Type 0) → ((x y : X) → P x → R x y → Q x y) → (us vs : List X)
    → All P us → AllZip R us vs → AllZip Q us vs
zip_weaker P R Q f [] [] p h = tt
zip_weaker P R Q f [] (b ∷ vs) p h = absurd h
zip_weaker P R Q f (a ∷ us) [] p h = absurd h
zip_weaker P R Q f (a ∷ us) (b ∷ vs) p h =
    (f a b (All-head P a us p) h.0, zip_weaker P R Q f us vs (All-tail P a us p) h.1)

-- ---- a node, and all below it

module _ (kind : Kind) (names : List (List ℕ)) (old : Option Node) where
  abbrev So : Spot → Spot → Type 0
  So = Becomes kind names old

  one : (t : Tree) → spots_below names (row (t ∷ [])) ≡ spots (names ++ node_name (node_of t) ∷ []) (node_of t)
  one t = append-nil (spots (names ++ node_name (node_of t) ∷ []) (node_of t))

  more_zipped : (a b : List Tree) (t u : Tree) → AllZip So (spots_below names (row a)) (spots_below names (row b))
      → AllZip So (spots_below names (row (t ∷ []))) (spots_below names (row (u ∷ [])))
      → AllZip So (spots_below names (row (a ++ t ∷ []))) (spots_below names (row (b ++ u ∷ [])))
  more_zipped a b t u h g =
      subst (λ (l : List Spot). AllZip So l (spots_below names (row (b ++ u ∷ [])))) (sym (row_parts names a (t ∷ [])))
      (subst (λ (l : List Spot). AllZip So (spots_below names (row a) ++ spots_below names (row (t ∷ []))) l)
      (sym (row_parts names b (u ∷ []))) (zip_both So (spots_below names (row a)) (spots_below names (row (t ∷ [])))
      (spots_below names (row b)) (spots_below names (row (u ∷ []))) h g))

  -- a child, once it has become what the old tree's child leaves of it
  child_zipped : (t u : Tree) (name : List ℕ) (found : Option Node) → name ≡ (out-Tree t).name.items
      → IfSome found (λ t. IsChildOf old name (Some t)) → (IsSortedBelow old → IsChildOf old name found)
      → KeepsCounts kind (names ++ name ∷ []) found (node_of t) (node_of u)
      → AllZip So (spots_below names (row (t ∷ []))) (spots_below names (row (u ∷ [])))
  child_zipped t u name found e some exactly k =
      let its_name : node_name (node_of t) ≡ name = name_out t ∙ sym e in
      let first : spots_below names (row (t ∷ [])) ≡ spots (names ++ name ∷ []) (node_of t) =
      one t ∙ ap (λ (l : List ℕ). spots (names ++ l ∷ []) (node_of t)) its_name in
      let second : spots_below names (row (u ∷ [])) ≡ spots (names ++ name ∷ []) (node_of u) =
      one u ∙ ap (λ (l : List ℕ). spots (names ++ l ∷ []) (node_of u)) (k.name ∙ its_name) in
      subst (λ (l : List Spot). AllZip So l (spots_below names (row (u ∷ [])))) (sym first)
      (subst (λ (l : List Spot). AllZip So (spots (names ++ name ∷ []) (node_of t)) l) (sym second)
      (zip_weaker (LeadsOn (names ++ name ∷ [])) (Becomes kind (names ++ name ∷ []) found) So
      (λ x y on b. becomes_up names name kind old found x y some exactly on b) (spots (names ++ name ∷ []) (node_of t))
      (spots (names ++ name ∷ []) (node_of u)) (leads_on (names ++ name ∷ []) (node_of t)) k.each))

  -- one more child
  pub step : (xs ys zs : List Tree) (i : ℕ) (x u : Tree) (name : List ℕ) (found : Option Node) → i < length ys
      → length xs ≡ length ys → ((k : ℕ) (d : Tree) → i ≤ k → get_or xs k d ≡ get_or ys k d) → ys ≡ zs
      → name ≡ (out-Tree (get_or xs i x)).name.items → IfSome found (λ t. IsChildOf old name (Some t))
      → (IsSortedBelow old → IsChildOf old name found)
      → KeepsCounts kind (names ++ name ∷ []) found (node_of (get_or xs i x)) (node_of u)
      → AllZip So (spots_below names (row (take i zs))) (spots_below names (row (take i xs)))
      → AllZip So (spots_below names (row (take (i + 1) zs))) (spots_below names (row (take (i + 1) (set xs i u))))
  step xs ys zs i x u name found lt len same is named some exactly k h =
      let first : take (i + 1) zs ≡ take i zs ++ get_or xs i x ∷ [] =
      take_more zs i x (subst (λ (l : List Tree). i < length l) is lt)
      ∙ ap (λ (l : List Tree). take i zs ++ get_or l i x ∷ []) (sym is)
      ∙ ap (λ (y : Tree). take i zs ++ y ∷ []) (sym (same i x (omega arith))) in
      let second : take (i + 1) (set xs i u) ≡ take i xs ++ u ∷ [] = take_more_set xs i u (omega (arith, lt, len)) in
      subst (λ (l : List Tree). AllZip So (spots_below names (row l))
      (spots_below names (row (take (i + 1) (set xs i u))))) (sym first)
      (subst (λ (l : List Tree). AllZip So (spots_below names (row (take i zs ++ get_or xs i x ∷ [])))
      (spots_below names (row l))) (sym second) (more_zipped (take i zs) (take i xs) (get_or xs i x) u h
      (child_zipped (get_or xs i x) u name found named some exactly k)))

  pub whole : (t u v : Tree) (us : List Tree)
      → AllZip So (spots_below names (row (out-Tree t).children.items)) (spots_below names (row us))
      → (out-Tree u).name.items ≡ (out-Tree t).name.items → own_spot names u ≡ own_spot names t
      → (out-Tree u).children.items ≡ us → (out-Tree v).name ≡ (out-Tree u).name
      → (out-Tree v).children ≡ (out-Tree u).children → So (own_spot names u) (own_spot names v)
      → KeepsCounts kind names old (node_of t) (node_of v)
  whole t u v us below n own kids name children so = record {
    name = name_out v ∙ ap (λ x. x.items) name ∙ n ∙ sym (name_out t);
    each = subst (λ (x : Node). AllZip So (spots names x) (spots names (node_of v))) (sym (node_of-out t))
        (subst (λ (y : Node). AllZip So (own_spot names t ∷ spots_below names (row (out-Tree t).children.items))
        (spots names y)) (sym (node_of-out v)) (
          subst (λ (x : Spot). So x (own_spot names v)) own so,
          subst (λ (l : List Tree). AllZip So (spots_below names (row (out-Tree t).children.items))
              (spots_below names (row l))) (sym (ap (λ x. x.items) children ∙ kids)) below,
        ));
  }

-- ---- a tree that was read

rise_behind : (t : Node) (ts : List Node) → NamesRise (t ∷ ts) → RiseFrom (Some t) (nodes_from ts)
rise_behind t [] h = tt
rise_behind t (u ∷ us) h = (h.0.0, rise_behind u us h.1)

rise_all : (ts : List Node) → NamesRise ts → RiseFrom None (nodes_from ts)
rise_all [] h = tt
rise_all (t ∷ ts) h = rise_behind t ts h

have_from : (ts : List Node) → All HasNamesInOrder ts → HaveNamesInOrder (nodes_from ts)
have_from [] h = tt
have_from (t ∷ ts) h = (All-head HasNamesInOrder t ts h, have_from ts (All-tail HasNamesInOrder t ts h))

-- In a tree that bytes encode, the children of each node are in the order of their names.
mutual
  pub sorts_in_order : (u t : Node) → SortsChildren u t → HasNamesInOrder t
  sorts_in_order (node name id count us) t h =
      let vs = h.2.0 in
      let each = sorts_each us h.0 h.1 in
      let inside : All HasNamesInOrder vs = All-weaker (Contains vs) HasNamesInOrder
      (λ v c. All-contains HasNamesInOrder h.0 v each
      (Contains-permutation vs h.0 v (IsPermutation-sym h.0 vs h.2.1) c))
      vs (All-contains_itself vs) in
      subst HasNamesInOrder (sym h.2.3) (rise_all vs h.2.2, have_from vs inside)

  sorts_each : (us : Nodes) (ts : List Node) → SortsEach us ts → All HasNamesInOrder ts
  sorts_each none ts h = subst (All HasNamesInOrder) (sym h) (All-nil HasNamesInOrder)
  sorts_each (more u us) ts h = subst (All HasNamesInOrder) (sym h.2)
      (All-cons HasNamesInOrder h.0 h.1 (sorts_in_order u h.0 h.3) (sorts_each us h.1 h.4))
