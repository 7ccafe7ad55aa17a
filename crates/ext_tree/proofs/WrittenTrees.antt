-- A tree that was written is read again, as what its bytes keep of it.
use Rattle.std.proofs.Common.{◌≡◌, ℕ, suc, ◌+◌, ◌-◌, ◌*◌, ◌/◌, ◌%◌, ◌^◌, ◌<◌, ◌≤◌, Bool, true, false, cond, List, []}
use Rattle.std.proofs.Common.{◌∷◌, ◌++◌, length, Option, Some, None, All, refl, sym, ap, subst, ◌∙◌, append_assoc}
use Rattle.std.proofs.Common.{append-nil, length-append, arith}
use Rattle.std.specs.Prelude.{◌≢◌, decimal, IfSome, MatchOption}
use Rattle.std.specs.List.{AllByRecursion}
use Rattle.std.specs.List.Sorted.{IsPermutation}
use Rattle.std.specs.Ordering.{is_lt, ordering_reverse}
use Rattle.std.specs.declared.cmp.Ordering.{Ordering}
use Rattle.std.specs.declared.cmp.Ordering.TheVariants.{Less, Equal, Greater}
use Rattle.std.proofs.lemmas.Fmt.{decimal_by_steps}
use Rattle.std.proofs.lemmas.List.Elements.{All-nil, All-cons, All-append}
use Rattle.std.proofs.lemmas.List.Sorted.{IsPermutation-refl, IsPermutation-trans, IsPermutation-cons}
use Rattle.std.proofs.lemmas.Map.Lookups.{exact_bytes}
use Rattle.index_parts.specs.Id.{id_len, id_bytes, id_kind, make_id, null_id}
use Rattle.index_parts.specs.declared.hash.Kind.{Kind}
use Rattle.index_parts.specs.declared.hash.ObjectId.{ObjectId}
use Rattle.index_parts.specs.declared.hash.ObjectId.TheVariants as ids
use Rattle.ext_tree.specs.Decimal.{IsDigit, decimal_value, IsDecimal, IsCount, plain, minus}
use Rattle.ext_tree.specs.Tree.{Node, Nodes, node, none, more, how_many_nodes, nodes_from, IsNodeHead}
use Rattle.ext_tree.specs.Tree.{IsNodeEncoding, AreNodeEncodings, node_depth, nodes_depth, NodeIdsAreOf, NodesIdsAreOf}
use Rattle.ext_tree.specs.Tree.{node_name, name_cmp, NamesRise, SortsChildren, SortsEach, IsTree}
use Rattle.ext_tree.specs.TreeImage.{count_bytes, id_part, behind_name, node_head_bytes, node_bytes}
use Rattle.ext_tree.specs.TreeImage.{nodes_bytes}
use Rattle.ext_tree.specs.StoredTree.{kept_id, insert_node, stored_node, stored_nodes, IsApartFrom}
use Rattle.ext_tree.specs.StoredTree.{IsPlainNode, ArePlainNodes, IsStorableTree, IsSizedNode, AreSizedNodes}
use Rattle.ext_tree.proofs.Decimals.{next_power}
use Rattle.ext_tree.proofs.Orders.{first, behind, exchanged}
use Rattle.ext_tree.proofs.Sorted.{names_total}
use Rattle.ext_tree.proofs.Trees.{moved}

-- ---- numbers

abbrev Digits : ℕ → List ℕ → Type 0
Digits n ds = (1 ≤ length ds) × All IsDigit ds × (decimal_value ds ≡ n)

regroup : (x p v e next : ℕ) → next ≡ 10 * p → x * next + (10 * v + e) ≡ 10 * (x * p + v) + e
regroup x p v e next h = rw h (omega arith)

value_push : (ds : List ℕ) (d : ℕ) → decimal_value (ds ++ d ∷ []) ≡ 10 * decimal_value ds + (d - 48)
value_push [] d = omega arith
value_push (b ∷ ds) d =
    let len : length (ds ++ d ∷ []) ≡ suc (length ds) = omega (arith, length-append ds (d ∷ [])) in
    let power : 10 ^ length (ds ++ d ∷ []) ≡ 10 * 10 ^ length ds =
    ap (λ (n : ℕ). 10 ^ n) len ∙ next_power (length ds) in
    ap (λ (v : ℕ). (b - 48) * 10 ^ length (ds ++ d ∷ []) + v) (value_push ds d)
    ∙ regroup (b - 48) (10 ^ length ds) (decimal_value ds) (d - 48) (10 ^ length (ds ++ d ∷ [])) power

one_digit : (n : ℕ) → n < 10 → Digits n ((48 + n) ∷ [])
one_digit n lt = (omega arith, All-cons IsDigit (48 + n) [] (omega arith, omega arith) (All-nil IsDigit), omega arith)

more_digits : (n : ℕ) (ds : List ℕ) → 10 ≤ n → Digits (n / 10) ds → Digits n (ds ++ ((48 + n % 10) ∷ []))
more_digits n ds le h =
    let d : ℕ = 48 + n % 10 in (
      omega (arith, h.0, length-append ds (d ∷ [])),
      All-append IsDigit ds (d ∷ []) h.1
          (All-cons IsDigit d [] (omega arith, omega arith) (All-nil IsDigit)),
      omega (arith, value_push ds d, h.2),
    )

not_empty : (l : List ℕ) → 1 ≤ length l → l ≢ []
not_empty [] h e = omega arith
not_empty (b ∷ l) h e = absurd cc

decimal_spelled : (n : ℕ) → n < 2 ^ 64 → IsDecimal (decimal n) n
decimal_spelled n lt =
    let h = decimal_by_steps Digits one_digit more_digits n lt in
    record { some = not_empty (decimal n) h.0; digits = h.1; value = sym h.2; fits = lt }

one_is : IsDecimal (49 ∷ []) 1
one_is = record {
  some = not_empty (49 ∷ []) (omega arith);
  digits = All-cons IsDigit 49 [] (omega arith, omega arith) (All-nil IsDigit);
  value = refl;
  fits = omega arith;
}

count_spelled : (count : Option ℕ) → IfSome count (λ n. n < 2 ^ 31) → IsCount (count_bytes count) count
count_spelled None h = minus (49 ∷ []) 1 refl one_is (omega arith) (omega arith) refl
count_spelled (Some n) h = plain n (decimal_spelled n (omega arith)) h refl

-- ---- a head

id_spelled : (kind : Kind) (count : Option ℕ) (id : ObjectId) → id_kind id ≡ kind
    → length (id_bytes id) ≡ id_len (id_kind id)
    → MatchOption count ((id_part count id ≡ []) × (kept_id kind count id ≡ null_id kind))
    (λ _. (length (id_part count id) ≡ id_len kind) × (kept_id kind count id ≡ make_id kind (id_part count id)))
id_spelled kind None id k len = (refl, refl)
id_spelled kind (Some n) id k len = (len ∙ ap id_len k, rw (← k) (made id))
  where
    made : (i : ObjectId) → i ≡ make_id (id_kind i) (id_bytes i)
    made (ids.Sha1 bytes) = refl
    made (ids.Sha256 bytes) = refl

head_parts : (n c d i t : List ℕ)
    → (n ++ 0 ∷ (c ++ 32 ∷ (d ++ 10 ∷ i))) ++ t ≡ n ++ 0 ∷ (c ++ 32 ∷ (d ++ 10 ∷ (i ++ t)))
head_parts n c d i t = simp append_assoc refl

head_spelled : (kind : Kind) (name : List ℕ) (id : ObjectId) (count : Option ℕ) (number : ℕ) (tail : List ℕ)
    → All (λ b. b ≢ 0) name → IfSome count (λ n. n < 2 ^ 31) → id_kind id ≡ kind
    → length (id_bytes id) ≡ id_len (id_kind id) → number < 2 ^ 64
    → IsNodeHead kind None (node_head_bytes name id count number ++ tail)
    (record { name = name; count = count; id = kept_id kind count id; number = number }) tail
unfolding node_head_bytes behind_name
head_spelled kind name id count number tail apart small k len few = record {
  count = count_bytes count;
  number = decimal number;
  id = id_part count id;
  parts = head_parts name (count_bytes count) (decimal number) (id_part count id) tail;
  name_apart = apart;
  is_count = count_spelled count small;
  is_number = decimal_spelled number few;
  within = tt;
  is_id = id_spelled kind count id k len;
}

-- ---- a node and all below it

-- the tree as it is read before its children are sorted
abbrev mutual
  nulled : Kind → Node → Node
  nulled kind (node n i c ts) = node n (kept_id kind c i) c (nulled_all kind ts)

  nulled_all : Kind → Nodes → Nodes
  nulled_all kind none = none
  nulled_all kind (more t ts) = more (nulled kind t) (nulled_all kind ts)

as_many : (kind : Kind) (ts : Nodes) → how_many_nodes (nulled_all kind ts) ≡ how_many_nodes ts
as_many kind none = refl
as_many kind (more t ts) = ap (λ (n : ℕ). n + 1) (as_many kind ts)

mutual
  node_spelled : (kind : Kind) (t : Node) (rest : List ℕ) → IsPlainNode t → NodeIdsAreOf kind t → IsSizedNode t
      → IsNodeEncoding kind None (nulled kind t) (node_bytes t ++ rest) rest
  node_spelled kind (node n i c ts) rest p k f =
      let tail : List ℕ = nodes_bytes ts ++ rest in
      let head = head_spelled kind n i c (how_many_nodes ts) tail p.0 p.1 k.0 f.0 f.1 in
      let joined = subst (λ (l : List ℕ). IsNodeHead kind None l
      (record { name = n; count = c; id = kept_id kind c i; number = how_many_nodes ts }) tail)
      (sym (append_assoc (node_head_bytes n i c (how_many_nodes ts)) (nodes_bytes ts) rest)) head in
      let counted = subst (λ (m : ℕ). IsNodeHead kind None (node_bytes (node n i c ts) ++ rest)
      (record { name = n; count = c; id = kept_id kind c i; number = m }) tail) (sym (as_many kind ts)) joined in
      (tail, counted, nodes_spelled kind ts rest p.2 k.1 f.2)

  nodes_spelled : (kind : Kind) (ts : Nodes) (rest : List ℕ) → ArePlainNodes ts → NodesIdsAreOf kind ts
      → AreSizedNodes ts → AreNodeEncodings kind None (nulled_all kind ts) (nodes_bytes ts ++ rest) rest
  nodes_spelled kind none rest p k f = refl
  nodes_spelled kind (more t ts) rest p k f =
      let after : List ℕ = nodes_bytes ts ++ rest in (
        after,
        subst (λ (l : List ℕ). IsNodeEncoding kind None (nulled kind t) l after) (sym (append_assoc (node_bytes t)
            (nodes_bytes ts) rest)) (node_spelled kind t after p.0 k.0 f.0),
        nodes_spelled kind ts rest p.2 k.1 f.1,
      )

mutual
  same_depth : (kind : Kind) (t : Node) → node_depth (nulled kind t) ≡ node_depth t
  same_depth kind (node n i c ts) = same_depths kind ts

  same_depths : (kind : Kind) (ts : Nodes) → nodes_depth (nulled_all kind ts) ≡ nodes_depth ts
  same_depths kind none = refl
  same_depths kind (more t ts) = let a = same_depth kind t in let b = same_depths kind ts in omega (arith, a, b)

-- ---- sorted

abbrev insert_list : Node → List Node → List Node
insert_list t [] = t ∷ []
insert_list t (u ∷ us) = cond (is_lt (name_cmp u t)) (u ∷ insert_list t us) (t ∷ u ∷ us)

abbrev stored_list : Kind → Nodes → List Node
stored_list kind none = []
stored_list kind (more t ts) = stored_node kind t ∷ stored_list kind ts

abbrev sort_list : Kind → Nodes → List Node
sort_list kind none = []
sort_list kind (more t ts) = insert_list (stored_node kind t) (sort_list kind ts)

inserted : (t : Node) (us : List Node) → nodes_from (insert_list t us) ≡ insert_node t (nodes_from us)
inserted t [] = refl
inserted t (u ∷ us) = by (is_lt (name_cmp u t)) (inserted t us)
  where
    by : (b : Bool) → nodes_from (insert_list t us) ≡ insert_node t (nodes_from us)
        → nodes_from (cond b (u ∷ insert_list t us) (t ∷ u ∷ us))
        ≡ cond b (more u (insert_node t (nodes_from us))) (more t (more u (nodes_from us)))
    by true e = ap (more u) e
    by false e = refl

stored_is : (kind : Kind) (ts : Nodes) → stored_nodes kind ts ≡ nodes_from (sort_list kind ts)
stored_is kind none = refl
stored_is kind (more t ts) =
    ap (insert_node (stored_node kind t)) (stored_is kind ts) ∙ sym (inserted (stored_node kind t) (sort_list kind ts))

insert_permutes : (t : Node) (us : List Node) → IsPermutation (t ∷ us) (insert_list t us)
insert_permutes t [] = IsPermutation-refl (t ∷ [])
insert_permutes t (u ∷ us) = by (is_lt (name_cmp u t)) (insert_permutes t us)
  where
    by : (b : Bool) → IsPermutation (t ∷ us) (insert_list t us)
        → IsPermutation (t ∷ u ∷ us) (cond b (u ∷ insert_list t us) (t ∷ u ∷ us))
    by true h = exchanged t u us (insert_list t us) h
    by false h = IsPermutation-refl (t ∷ u ∷ us)

sort_permutes : (kind : Kind) (ts : Nodes) → IsPermutation (stored_list kind ts) (sort_list kind ts)
sort_permutes kind none = IsPermutation-refl []
sort_permutes kind (more t ts) =
    let s = stored_node kind t in
    IsPermutation-trans (s ∷ stored_list kind ts) (s ∷ sort_list kind ts) (insert_list s (sort_list kind ts))
    (IsPermutation-cons s (stored_list kind ts) (sort_list kind ts) (sort_permutes kind ts))
    (insert_permutes s (sort_list kind ts))

insert_rises : (t : Node) (us : List Node) → AllByRecursion (λ u. node_name t ≢ node_name u) us → NamesRise us
    → NamesRise (insert_list t us)
insert_rises t [] a r = (tt, tt)
insert_rises t (u ∷ us) a r = by (name_cmp u t) refl (insert_rises t us a.1 r.1)
  where
    by : (o : Ordering) → name_cmp u t ≡ o → NamesRise (insert_list t us)
        → NamesRise (cond (is_lt o) (u ∷ insert_list t us) (t ∷ u ∷ us))
    by Less e h = behind t u us (insert_list t us) e r (insert_permutes t us) h
    by Equal e h = absurd (a.0 (sym (exact_bytes (node_name u) (node_name t) e)))
    by Greater e h = first t u us (names_total.antisymm t u ∙ ap ordering_reverse e) r

same_name : (kind : Kind) (t : Node) → node_name (stored_node kind t) ≡ node_name t
same_name kind (node n i c ts) = refl

apart_stored : (kind : Kind) (t : Node) (ts : Nodes) → IsApartFrom t ts
    → AllByRecursion (λ u. node_name (stored_node kind t) ≢ node_name u) (stored_list kind ts)
apart_stored kind t none h = tt
apart_stored kind t (more u us) h =
    (λ e. h.0 (sym (same_name kind t) ∙ e ∙ same_name kind u), apart_stored kind t us h.1)

sort_rises : (kind : Kind) (ts : Nodes) → ArePlainNodes ts → NamesRise (sort_list kind ts)
sort_rises kind none h = tt
sort_rises kind (more t ts) h =
    let s = stored_node kind t in
    insert_rises s (sort_list kind ts) (moved (λ u. node_name s ≢ node_name u) (stored_list kind ts) (sort_list kind ts)
    (sort_permutes kind ts) (apart_stored kind t ts h.1)) (sort_rises kind ts h.2)

mutual
  node_sorts : (kind : Kind) (t : Node) → IsPlainNode t → SortsChildren (nulled kind t) (stored_node kind t)
  node_sorts kind (node n i c ts) p = (
    stored_list kind ts,
    nodes_sort kind ts p.2,
    (
      sort_list kind ts,
      sort_permutes kind ts,
      sort_rises kind ts p.2,
      ap (node n (kept_id kind c i) c) (stored_is kind ts),
    ),
  )

  nodes_sort : (kind : Kind) (ts : Nodes) → ArePlainNodes ts → SortsEach (nulled_all kind ts) (stored_list kind ts)
  nodes_sort kind none p = refl
  nodes_sort kind (more t ts) p =
      (stored_node kind t, stored_list kind ts, refl, node_sorts kind t p.0, nodes_sort kind ts p.2)

subst_empty : (kind : Kind) (t : Node) (bytes : List ℕ) → IsNodeEncoding kind None t (bytes ++ []) []
    → IsNodeEncoding kind None t bytes []
subst_empty kind t bytes h = subst (λ (l : List ℕ). IsNodeEncoding kind None t l []) (append-nil bytes) h

-- the bytes of a storable tree are a cached tree: what they keep of it
pub tree_again : (kind : Kind) (t : Node) → IsStorableTree kind t → IsTree kind None (node_bytes t) (stored_node kind t)
tree_again kind t h = record {
  spelled = nulled kind t;
  spells = subst_empty kind (nulled kind t) (node_bytes t) (node_spelled kind t [] h.plain h.ids h.sized);
  shallow = omega (arith, h.shallow, same_depth kind t);
  sorts = node_sorts kind t h.plain;
}
