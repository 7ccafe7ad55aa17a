-- A cache tree that matches the entries still does after changes.
use Rattle.std.proofs.Common.{◌≡◌, ◌⊎◌, ℕ, ◌+◌, List, [], ◌∷◌, ◌++◌, All, Bool, true, false, cond, take, drop}
use Rattle.std.proofs.Common.{Option, Some, None, refl, sym, ap, subst, ◌∙◌, get_or}
use Rattle.std.specs.Prelude.{◌≢◌, IfSome}
use Rattle.std.specs.Option.{option_and_then}
use Rattle.std.proofs.lemmas.List.Elements.{All-append, All-cons, All-tail, All-nil}
use Rattle.index_parts.specs.Id.{id_kind, null_id}
use Rattle.index_parts.specs.declared.hash.Kind.{Kind}
use Rattle.index_parts.specs.declared.hash.ObjectId.{ObjectId}
use Rattle.ext_tree.specs.StorableSteps.{AreApart}
use Rattle.ext_tree.specs.StoredTree.{IsApartFrom}
use Rattle.ext_tree.specs.Tree.{Node, Nodes, node, none, more, node_name}
use Rattle.ext_tree.proofs.Storables.{apart_of_rise}
use Rattle.entry_list.specs.Record.{Record}
use Rattle.entry_edit.specs.Changes.{applied, applied_one, change_path}
use Rattle.entry_edit.specs.declared.change.Change.{Change}
use Rattle.ext_tree.specs.Invalidation.{is_node_named, invalidated, invalidated_below}
use Rattle.index_parts.specs.Path.{slash_of}
use Rattle.tree_encode.specs.Kept.{HasNamesInOrder, HaveNamesInOrder}
use Rattle.tree_encode.specs.Staged.{Staged}
use Rattle.tree_encode.specs.TreeIds.{AreRight, GivesTreeId, IsMadeOf, IsRight, IsWholeDirectory, Spot}
use Rattle.tree_encode.specs.TreeIds.{behind, behind_all}
use Rattle.tree_encode.specs.TreeIds.{spots, spots_below}
use Rattle.tree_encode.proofs.Behinds.{behind_is, behind_more}
use Rattle.tree_encode.proofs.Keeps.{LeadsOn, leads_on}
use Rattle.index_edit.specs.Invalidated.{all_invalidated}
use Rattle.index_edit_laws.proofs.Aways.{IsAway, away_on, longer}
use Rattle.index_edit_laws.proofs.FirstNames.{IsFirstName, first_name, named_so, other_name, whole_name}
use Rattle.index_edit_laws.proofs.Lists.{merged_stays, seen_stays}
use Rattle.index_edit_laws.proofs.Parts.{All-back, All-front}
use Rattle.index_edit_laws.proofs.SoundTrees.{in_order_stays, same_name}

-- ---- a child whose name isn't the first of what follows the names

other_away : (names : List (List ℕ)) (path q first name : List ℕ) → behind_all names path ≡ Some q → IsFirstName q first
    → first ≢ name → IsAway path (names ++ name ∷ [])
other_away names path q first name e f o x =
    behind_more names name (path ++ 47 ∷ x)
    ∙ ap (option_and_then (behind_all (name ∷ []))) (longer names path q (47 ∷ x) e)
    ∙ none_behind (behind name (q ++ 47 ∷ x)) refl
  where
    none_behind : (o : Option (List ℕ)) → behind name (q ++ 47 ∷ x) ≡ o
        → option_and_then (behind_all []) (behind name (q ++ 47 ∷ x)) ≡ None
    none_behind None g = rw g refl
    none_behind (Some y) g =
        let b = behind_is name (q ++ 47 ∷ x) y g in
        absurd (o (f.alone name x y b.1 b.0))

module _ (kind : Kind) (c : Change) (rs : List Record) where
  abbrev path : List ℕ
  path = change_path c

  abbrev Was : Spot → Type 0
  Was = IsRight kind rs

  abbrev Is : Spot → Type 0
  Is = IsRight kind (applied_one c rs)

  gives_stays : (names : List (List ℕ)) (id : ObjectId) (count : ℕ) → IsAway path names
      → GivesTreeId kind rs names id count
      → GivesTreeId kind (applied_one c rs) names id count
  gives_stays names id count h g = (
    merged_stays names c rs h g.0,
    subst (λ (l : List Staged). IsMadeOf kind names l id count ⊎ IsWholeDirectory l id count)
        (sym (seen_stays names c rs h)) g.1,
  )

  right_away : (s : Spot) → IsAway path s.names → Was s → Is s
  right_away s h r = by s.count r
    where
      by : (o : Option ℕ) → IfSome o (λ count. GivesTreeId kind rs s.names s.id count)
          → IfSome o (λ count. GivesTreeId kind (applied_one c rs) s.names s.id count)
      by None g = tt
      by (Some count) g = gives_stays s.names s.id count h g

  node_away : (names : List (List ℕ)) (t : Node) → IsAway path names → All Was (spots names t) → All Is (spots names t)
  node_away names t h r k d within =
      let s = get_or (spots names t) k d in
      let on : LeadsOn names s = leads_on names t k d within in
      right_away s (subst (IsAway path) (sym on.1) (away_on path names on.0 h)) (r k d within)

  -- ---- the children

  module _ (names : List (List ℕ)) (q first : List ℕ) (e : behind_all names path ≡ Some q)
      (f : IsFirstName q first) where
    child_away : (t : Node) → first ≢ node_name t → All Was (spots (names ++ node_name t ∷ []) t)
        → All Is (spots (names ++ node_name t ∷ []) t)
    child_away t o r = node_away (names ++ node_name t ∷ []) t (other_away names path q first (node_name t) e f o) r

    children_away : (t : Node) (ts : Nodes) → node_name t ≡ first → IsApartFrom t ts → All Was (spots_below names ts)
        → All Is (spots_below names ts)
    children_away t none n a r = All-nil Is
    children_away t (more u us) n a r =
        let here = spots (names ++ node_name u ∷ []) u in
        let rest = spots_below names us in
        All-append Is here rest (child_away u (λ z. a.0 (n ∙ z)) (All-front Was here rest r))
        (children_away t us n a.1 (All-back Was here rest r))

    gone : (t : Node) (ts : Nodes) → IsApartFrom t ts → All Was (spots_below names (more t ts))
        → All Is (spots_below names (invalidated_below first None ts))
        → (b : Bool) → is_node_named first t ≡ b
        → All Is (spots_below names (cond b ts (more t (invalidated_below first None ts))))
    gone t ts a r rest true n = children_away t ts (named_so first t n) a
        (All-back Was (spots (names ++ node_name t ∷ []) t) (spots_below names ts) r)
    gone t ts a r rest false n =
        let here = spots (names ++ node_name t ∷ []) t in
        All-append Is here (spots_below names (invalidated_below first None ts))
        (child_away t (other_name first t n) (All-front Was here (spots_below names ts) r)) rest

    changed : (k : ℕ) (t u : Node) (ts : Nodes) → first ≡ take k q → node_name u ≡ node_name t → IsApartFrom t ts
        → All Was (spots_below names (more t ts)) → All Is (spots_below names (invalidated_below q (Some k) ts))
        → (node_name t ≡ first → All Is (spots (names ++ node_name t ∷ []) u)) → (b : Bool)
        → is_node_named (take k q) t ≡ b
        → All Is (spots_below names (cond b (more u ts) (more t (invalidated_below q (Some k) ts))))
    changed k t u ts z same a r rest child true n =
        let so : node_name t ≡ first = named_so (take k q) t n ∙ sym z in
        let here = spots (names ++ node_name u ∷ []) u in
        All-append Is here (spots_below names ts)
        (subst (λ (m : List ℕ). All Is (spots (names ++ m ∷ []) u)) (sym same) (child so))
        (children_away t ts so a (All-back Was (spots (names ++ node_name t ∷ []) t) (spots_below names ts) r))
    changed k t u ts z same a r rest child false n =
        let here = spots (names ++ node_name t ∷ []) t in
        All-append Is here (spots_below names (invalidated_below q (Some k) ts))
        (child_away t (λ w. other_name (take k q) t n (sym z ∙ w)) (All-front Was here (spots_below names ts) r)) rest

  mutual
    node_right : (names : List (List ℕ)) (q : List ℕ) (t : Node) → behind_all names path ≡ Some q → HasNamesInOrder t
        → All Was (spots names t) → All Is (spots names (invalidated q t))
    node_right names q (node name id count ts) e o r =
        All-cons Is (record { names = names; id = null_id (id_kind id); count = None })
        (spots_below names (invalidated_below q (slash_of q) ts)) tt
        (nodes_right names q (slash_of q) ts refl e (apart_of_rise ts o.0) o.1
        (All-tail Was (record { names = names; id = id; count = count }) (spots_below names ts) r))

    nodes_right : (names : List (List ℕ)) (q : List ℕ) (slash : Option ℕ) (ts : Nodes) → slash_of q ≡ slash
        → behind_all names path ≡ Some q → AreApart ts → HaveNamesInOrder ts → All Was (spots_below names ts)
        → All Is (spots_below names (invalidated_below q slash ts))
    nodes_right names q slash none s e a o r = All-nil Is
    nodes_right names q None (more t ts) s e a o r =
        gone names q q e (whole_name q s) t ts a.0 r
        (nodes_right names q None ts s e a.1 o.1
        (All-back Was (spots (names ++ node_name t ∷ []) t) (spots_below names ts) r)) (is_node_named q t) refl
    nodes_right names q (Some k) (more t ts) s e a o r =
        let here = spots (names ++ node_name t ∷ []) t in
        let rest = spots_below names ts in
        let f = first_name q k s in
        changed names q (take k q) e f.0 k t (invalidated (drop (k + 1) q) t) ts refl
        (same_name (drop (k + 1) q) t) a.0 r
        (nodes_right names q (Some k) ts s e a.1 o.1 (All-back Was here rest r))
        (λ z. node_right (names ++ node_name t ∷ []) (drop (k + 1) q) t
        (behind_more names (node_name t) path ∙ ap (option_and_then (behind_all (node_name t ∷ []))) e
        ∙ ap (option_and_then (behind_all [])) (ap (λ (m : List ℕ). behind m q) z ∙ f.1)) o.0
        (All-front Was here rest r)) (is_node_named (take k q) t) refl

-- ---- a tree

pub right_stays : (kind : Kind) (cs : List Change) (rs : List Record) (t : Node) → HasNamesInOrder t
    → AreRight kind rs t → AreRight kind (applied cs rs) (all_invalidated cs t)
unfolding applied all_invalidated
right_stays kind [] rs t o r = r
right_stays kind (c ∷ cs) rs t o r =
    let path = change_path c in
    right_stays kind cs (applied_one c rs) (invalidated path t) (in_order_stays path t o)
    (node_right kind c rs [] path t refl o r)
