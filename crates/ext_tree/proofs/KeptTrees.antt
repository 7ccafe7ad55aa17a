-- What bytes keep of a tree is kept again as it is; and of a tree that was read all is kept.
use Rattle.std.proofs.Common.{◌≡◌, ℕ, ◌^◌, ◌<◌, Bool, true, false, cond, List, [], ◌∷◌, length, Option, Some, None}
use Rattle.std.proofs.Common.{refl, sym, ap, subst, ◌∙◌, arith}
use Rattle.std.specs.Prelude.{◌≢◌, IfSome, MatchOption}
use Rattle.std.specs.List.{AllByRecursion}
use Rattle.std.specs.Cmp.Lexicographic.{slice_cmp}
use Rattle.std.specs.Ordering.{is_lt, nat_cmp, ordering_reverse}
use Rattle.std.specs.declared.cmp.Ordering.{Ordering}
use Rattle.std.specs.declared.cmp.Ordering.TheVariants.{Less, Equal, Greater}
use Rattle.std.proofs.lemmas.Cmp.{tied_itself}
use Rattle.std.proofs.lemmas.List.{length-replicate}
use Rattle.std.proofs.lemmas.List.Sorted.{length_permutation}
use Rattle.index_parts.proofs.Ids.{id_kind-make_id, id_bytes-make_id}
use Rattle.index_parts.specs.Id.{id_len, id_bytes, id_kind, make_id, null_id}
use Rattle.index_parts.specs.declared.hash.Kind.{Kind}
use Rattle.index_parts.specs.declared.hash.ObjectId.{ObjectId}
use Rattle.ext_tree.specs.Decimal.{IsCount, plain, plus, minus, minus_zero}
use Rattle.ext_tree.specs.Tree.{Node, Nodes, node, none, more, how_many_nodes, nodes_from, IsNodeEncoding}
use Rattle.ext_tree.specs.Tree.{AreNodeEncodings, node_name, name_cmp, NamesRise, SortsChildren, SortsEach, IsTree}
use Rattle.ext_tree.specs.StoredTree.{kept_id, insert_node, stored_node, stored_nodes, IsApartFrom}
use Rattle.ext_tree.specs.StoredTree.{IsPlainNode, ArePlainNodes, IsStorableTree, IsSizedNode, AreSizedNodes}
use Rattle.ext_tree.proofs.Sorted.{names_total}
use Rattle.ext_tree.proofs.Trees.{moved, ids_of_tree, depth_of_tree}

-- ---- nodes in order

-- the first of these isn't below the node
abbrev IsFirst : Node → Nodes → Type 0
IsFirst t none = Unit {0}
IsFirst t (more u us) = is_lt (name_cmp u t) ≡ false

abbrev InOrder : Nodes → Type 0
InOrder none = Unit {0}
InOrder (more t ts) = IsFirst t ts × InOrder ts

insert_first : (t : Node) (ts : Nodes) → IsFirst t ts → insert_node t ts ≡ more t ts
insert_first t none h = refl
insert_first t (more u us) h = rw h refl

not_back : (t u : Node) → is_lt (name_cmp u t) ≡ true → is_lt (name_cmp t u) ≡ false
not_back t u h = by (name_cmp u t) h (names_total.antisymm t u)
  where
    by : (o : Ordering) → is_lt o ≡ true → name_cmp t u ≡ ordering_reverse o → is_lt (name_cmp t u) ≡ false
    by Less e k = ap is_lt k
    by Equal e k = absurd cc
    by Greater e k = absurd cc

first_stays : (t u : Node) (us : Nodes) → is_lt (name_cmp t u) ≡ false → IsFirst u us → IsFirst u (insert_node t us)
first_stays t u none h f = h
first_stays t u (more v vs) h f = by (is_lt (name_cmp v t))
  where
    by : (b : Bool) → IsFirst u (cond b (more v (insert_node t vs)) (more t (more v vs)))
    by true = f
    by false = h

insert_in_order : (t : Node) (ts : Nodes) → InOrder ts → InOrder (insert_node t ts)
insert_in_order t none h = (tt, tt)
insert_in_order t (more u us) h = by (is_lt (name_cmp u t)) refl (insert_in_order t us h.1)
  where
    by : (b : Bool) → is_lt (name_cmp u t) ≡ b → InOrder (insert_node t us)
        → InOrder (cond b (more u (insert_node t us)) (more t (more u us)))
    by true e k = (first_stays t u us (not_back t u e) h.0, k)
    by false e k = (e, h)

stored_in_order : (kind : Kind) (ts : Nodes) → InOrder (stored_nodes kind ts)
stored_in_order kind none = tt
stored_in_order kind (more t ts) = insert_in_order (stored_node kind t) (stored_nodes kind ts) (stored_in_order kind ts)

-- ---- nodes that stay

abbrev AllStay : Kind → Nodes → Type 0
AllStay kind none = Unit {0}
AllStay kind (more t ts) = (stored_node kind t ≡ t) × AllStay kind ts

insert_stays : (kind : Kind) (t : Node) (ts : Nodes) → stored_node kind t ≡ t → AllStay kind ts
    → AllStay kind (insert_node t ts)
insert_stays kind t none e h = (e, tt)
insert_stays kind t (more u us) e h = by (is_lt (name_cmp u t)) (insert_stays kind t us e h.1)
  where
    by : (b : Bool) → AllStay kind (insert_node t us)
        → AllStay kind (cond b (more u (insert_node t us)) (more t (more u us)))
    by true k = (h.0, k)
    by false k = (e, h)

pub nodes_stay : (kind : Kind) (ts : Nodes) → InOrder ts → AllStay kind ts → stored_nodes kind ts ≡ ts
nodes_stay kind none o h = refl
nodes_stay kind (more t ts) o h =
    let first : stored_node kind t ≡ t = h.0 in
    let others : stored_nodes kind ts ≡ ts = nodes_stay kind ts o.1 h.1 in
    rw (first, others) (insert_first t ts o.0)

id_twice : (kind : Kind) (count : Option ℕ) (id : ObjectId)
    → kept_id kind count (kept_id kind count id) ≡ kept_id kind count id
id_twice kind None id = refl
id_twice kind (Some n) id = refl

mutual
  -- what is kept of what was kept is the same
  pub node_twice : (kind : Kind) (t : Node) → stored_node kind (stored_node kind t) ≡ stored_node kind t
  node_twice kind (node n i c ts) =
      let id : kept_id kind c (kept_id kind c i) ≡ kept_id kind c i = id_twice kind c i in
      let below : stored_nodes kind (stored_nodes kind ts) ≡ stored_nodes kind ts =
      nodes_stay kind (stored_nodes kind ts) (stored_in_order kind ts) (each_stays kind ts) in
      rw (id, below) refl

  each_stays : (kind : Kind) (ts : Nodes) → AllStay kind (stored_nodes kind ts)
  each_stays kind none = tt
  each_stays kind (more t ts) =
      insert_stays kind (stored_node kind t) (stored_nodes kind ts) (node_twice kind t) (each_stays kind ts)

-- ---- a tree that was read

record IsKept (kind : Kind) (t : Node) : Type 0 where
  stays : stored_node kind t ≡ t
  plain : IsPlainNode t
  fits : IsSizedNode t

not_above : (t u : Node) → name_cmp t u ≡ Less → is_lt (name_cmp u t) ≡ false
not_above t u e = ap is_lt (names_total.antisymm u t ∙ ap ordering_reverse e)

pub names_differ : (t u : Node) → name_cmp t u ≡ Less → node_name t ≢ node_name u
names_differ t u e same =
    let tie : name_cmp t t ≡ Equal = tied_itself names_total t in
    let less : name_cmp t t ≡ Less = ap (λ (l : List ℕ). slice_cmp nat_cmp (node_name t) l) same ∙ e in
    absurd cc

risen_first : (t : Node) (ts : List Node) → AllByRecursion (λ u. name_cmp t u ≡ Less) ts
    → IsFirst t (nodes_from ts) × IsApartFrom t (nodes_from ts)
risen_first t [] h = (tt, tt)
risen_first t (u ∷ us) h = (not_above t u h.0, (names_differ t u h.0, (risen_first t us h.1).1))

risen_stay : (kind : Kind) (ts : List Node) → NamesRise ts → AllByRecursion (IsKept kind) ts → InOrder (nodes_from ts)
    × AllStay kind (nodes_from ts) × ArePlainNodes (nodes_from ts) × AreSizedNodes (nodes_from ts)
risen_stay kind [] r h = (tt, tt, tt, tt)
risen_stay kind (t ∷ ts) r h =
    let f = risen_first t ts r.0 in
    let others = risen_stay kind ts r.1 h.1 in
    ((f.0, others.0), (h.0.stays, others.1), (h.0.plain, f.1, others.2), (h.0.fits, others.3))

counted_small : (text : List ℕ) (count : Option ℕ) → IsCount text count → IfSome count (λ n. n < 2 ^ 31)
counted_small text count (plain n h small is) = rw is small
counted_small text count (plus digits n parts h small is) = rw is small
counted_small text count (minus digits n parts h low high is) = rw is tt
counted_small text count (minus_zero digits parts h is) = rw is (omega arith)

null_len : (kind : Kind) → length (id_bytes (null_id kind)) ≡ id_len kind
null_len kind = ap length (id_bytes-make_id kind _) ∙ length-replicate (id_len kind) 0

id_kept : (kind : Kind) (count : Option ℕ) (piece : List ℕ) (id : ObjectId) → MatchOption count
    ((piece ≡ []) × (id ≡ null_id kind)) (λ _. (length piece ≡ id_len kind) × (id ≡ make_id kind piece))
    → (kept_id kind count id ≡ id) × (length (id_bytes id) ≡ id_len (id_kind id))
id_kept kind None piece id h = (sym h.1, rw h.1 (null_len kind ∙ ap id_len (sym (id_kind-make_id kind _))))
id_kept kind (Some n) piece id h =
    (refl, rw h.1 (ap length (id_bytes-make_id kind piece) ∙ h.0 ∙ ap id_len (sym (id_kind-make_id kind piece))))

pub listed_number : (ts : List Node) → how_many_nodes (nodes_from ts) ≡ length ts
listed_number [] = refl
listed_number (t ∷ ts) = omega (arith, listed_number ts)

each_number : (us : Nodes) (ts : List Node) → SortsEach us ts → length ts ≡ how_many_nodes us
each_number none ts s = ap length s
each_number (more u us) ts s = omega (arith, ap length s.2, each_number us s.1 s.4)

mutual
  read_kept : (kind : Kind) (limit : Option ℕ) (u t : Node) (bytes rest : List ℕ)
      → IsNodeEncoding kind limit u bytes rest
      → SortsChildren u t → IsKept kind t
  read_kept kind limit (node n i c us) t bytes rest p s =
      let head = p.1 in
      let vs = s.2.0 in
      let each = moved (IsKept kind) s.0 vs s.2.1 (each_kept kind limit us s.0 p.0 rest p.2 s.1) in
      let all = risen_stay kind vs s.2.2 each in
      let id = id_kept kind c head.id i head.is_id in
      let below : stored_nodes kind (nodes_from vs) ≡ nodes_from vs = nodes_stay kind (nodes_from vs) all.0 all.1 in
      let same : kept_id kind c i ≡ i = id.0 in
      let number : how_many_nodes (nodes_from vs) ≡ how_many_nodes us =
      listed_number vs ∙ length_permutation s.0 vs s.2.1 ∙ each_number us s.0 s.1 in
      let few : how_many_nodes (nodes_from vs) < 2 ^ 64 = rw number head.is_number.fits in
      subst (IsKept kind) (sym s.2.3) (record {
        stays = rw (same, below) refl;
        plain = (head.name_apart, counted_small head.count c head.is_count, all.2);
        fits = (id.1, few, all.3);
      })

  each_kept : (kind : Kind) (limit : Option ℕ) (us : Nodes) (ts : List Node) (bytes rest : List ℕ)
      → AreNodeEncodings kind limit us bytes rest → SortsEach us ts → AllByRecursion (IsKept kind) ts
  each_kept kind limit none ts bytes rest p s = subst (AllByRecursion (IsKept kind)) (sym s) tt
  each_kept kind limit (more u us) ts bytes rest p s =
      subst (AllByRecursion (IsKept kind)) (sym s.2)
      (read_kept kind limit u s.0 bytes p.0 p.1 s.3, each_kept kind limit us s.1 p.0 rest p.2 s.4)

-- of a tree that was read all is kept
pub read_stays : (kind : Kind) (limit : Option ℕ) (bytes : List ℕ) (t : Node) → IsTree kind limit bytes t
    → stored_node kind t ≡ t
read_stays kind limit bytes t h = (read_kept kind limit h.spelled t bytes [] h.spells h.sorts).stays

-- and it can be written
pub read_storable : (kind : Kind) (limit : Option ℕ) (bytes : List ℕ) (t : Node) → IsTree kind limit bytes t
    → IsStorableTree kind t
read_storable kind limit bytes t h =
    let k = read_kept kind limit h.spelled t bytes [] h.spells h.sorts in
    record {
      plain = k.plain;
      ids = ids_of_tree kind limit bytes t h;
      shallow = depth_of_tree kind limit bytes t h;
      sized = k.fits;
    }
