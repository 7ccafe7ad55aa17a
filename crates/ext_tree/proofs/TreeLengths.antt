-- How many bytes a tree has, and of which pieces.
use Rattle.std.proofs.Common.{◌≡◌, ℕ, ◌+◌, ◌-◌, ◌<◌, ◌≤◌, Bool, true, false, cond, ltb, List, [], ◌∷◌, ◌++◌, length}
use Rattle.std.proofs.Common.{take, get_or, map, Option, Some, None, refl, sym, ap, ◌∙◌, arith, append_assoc}
use Rattle.std.proofs.Common.{length-append}
use Rattle.std.specs.Prelude.{codes, decimal}
use Rattle.std.specs.List.{flat_map}
use Rattle.std.proofs.lemmas.Bool.{ltb-true, ltb-false, lt-ltb, le-ltb}
use Rattle.std.proofs.lemmas.List.Concat.{flat_map-cons}
use Rattle.std.proofs.lemmas.List.Folds.{length-flat_map-take}
use Rattle.std.proofs.lemmas.Option.{same_Some}
use Rattle.index_parts.specs.declared.hash.ObjectId.{ObjectId}
use Rattle.ext_tree.specs.Tree.{Node, how_many_nodes, nodes_from, node_of}
use Rattle.ext_tree.specs.TreeImage.{count_bytes, id_part, behind_name, node_head_bytes, node_bytes}
use Rattle.ext_tree.specs.TreeImage.{nodes_bytes}
use Rattle.index_extensions.specs.Encoding.{item_bytes}
use Rattle.index_parts.specs.Numbers.{be32}
use Rattle.ext_tree.specs.TreeImage.{tree_item}
use Rattle.ext_tree.specs.TreeWriting.{room_left}
use Rattle.ext_tree.specs.declared.Tree.{Tree}
use Rattle.ext_tree.specs.declared.Tree.TheViews.{out-Tree}
use Rattle.ext_tree.proofs.Spelled.{node_of-out}

head_sum : (n c d i : List ℕ)
    → length (n ++ 0 ∷ (c ++ 32 ∷ (d ++ 10 ∷ i))) ≡ length n + length c + length d + length i + 3
head_sum n c d i = omega (
  arith,
  length-append n (0 ∷ (c ++ 32 ∷ (d ++ 10 ∷ i))),
  length-append c (32 ∷ (d ++ 10 ∷ i)),
  length-append d (10 ∷ i),
)

pub length_head : (name : List ℕ) (id : ObjectId) (count : Option ℕ) (number : ℕ)
    → length (node_head_bytes name id count number)
    ≡ length name + length (count_bytes count) + length (decimal number) + length (id_part count id) + 3
unfolding node_head_bytes behind_name
length_head name id count number = head_sum name (count_bytes count) (decimal number) (id_part count id)

-- ---- pieces collected one after another

regrouped : (c n i : List ℕ) → (((((0 ∷ []) ++ c) ++ 32 ∷ []) ++ n) ++ 10 ∷ []) ++ i ≡ 0 ∷ (c ++ 32 ∷ (n ++ 10 ∷ i))
regrouped c n i = simp append_assoc refl

pub behind_is : (id : ObjectId) (count : Option ℕ) (number : ℕ) (a b d e f g c n i : List ℕ) → a ≡ 0 ∷ [] → b ≡ a ++ c
    → d ≡ b ++ 32 ∷ [] → e ≡ d ++ n → f ≡ e ++ 10 ∷ [] → g ≡ f ++ i
    → c ≡ count_bytes count → n ≡ decimal number → i ≡ id_part count id → g ≡ behind_name id count number
unfolding behind_name
behind_is id count number a b d e f g c n i p q r s t u x y z =
    let whole : g ≡ (((((0 ∷ []) ++ c) ++ 32 ∷ []) ++ n) ++ 10 ∷ []) ++ i = rw (u, t, s, r, q, p) refl in
    let spelled : 0 ∷ (c ++ 32 ∷ (n ++ 10 ∷ i))
    ≡ 0 ∷ (count_bytes count ++ 32 ∷ (decimal number ++ 10 ∷ id_part count id)) = rw (x, y, z) refl in
    whole ∙ regrouped c n i ∙ spelled

-- ---- a node and those below it

listed : (ts : List Tree) → nodes_bytes (nodes_from (map node_of ts)) ≡ flat_map (λ t. node_bytes (node_of t)) ts
listed [] = refl
listed (t ∷ ts) = ap (λ (l : List ℕ). node_bytes (node_of t) ++ l) (listed ts)
    ∙ sym (flat_map-cons (λ (x : Tree). node_bytes (node_of x)) t ts)

pub number : (ts : List Tree) → how_many_nodes (nodes_from (map node_of ts)) ≡ length ts
number [] = refl
number (t ∷ ts) = omega (arith, number ts)

-- a node's bytes, and those of its children
pub node_bytes_out : (t : Tree)
    → node_bytes (node_of t) ≡ node_head_bytes (out-Tree t).name.items (out-Tree t).id (out-Tree t).num_entries
    (length (out-Tree t).children.items) ++ flat_map (λ u. node_bytes (node_of u)) (out-Tree t).children.items
node_bytes_out t =
    let o = out-Tree t in
    ap node_bytes (node_of-out t) ∙ ap (λ (n : ℕ). node_head_bytes o.name.items o.id o.num_entries n
    ++ nodes_bytes (nodes_from (map node_of o.children.items))) (number o.children.items)
    ∙ ap (λ (l : List ℕ). node_head_bytes o.name.items o.id o.num_entries (length o.children.items) ++ l)
    (listed o.children.items)

-- a node without its children, and these
abbrev pub own_head : Tree → List ℕ
own_head t = node_head_bytes (out-Tree t).name.items (out-Tree t).id (out-Tree t).num_entries
    (length (out-Tree t).children.items)

abbrev pub below : Tree → List ℕ
below t = flat_map (λ u. node_bytes (node_of u)) (out-Tree t).children.items

pub length_node : (t : Tree) → length (node_bytes (node_of t)) ≡ length (own_head t) + length (below t)
length_node t = ap length (node_bytes_out t) ∙ length-append (own_head t) (below t)

-- ---- room

pub no_room : (room n : ℕ) → room < n → room_left room n ≡ None
no_room room n lt = rw (lt-ltb room n lt) refl

pub some_room : (room n : ℕ) → n ≤ room → room_left room n ≡ Some (room - n)
some_room room n le = rw (le-ltb room n le) refl

pub room_fits : (room n left : ℕ) → room_left room n ≡ Some left → (n ≤ room) × (left ≡ room - n)
room_fits room n left e = by (ltb room n) refl e
  where
    by : (t : Bool) → ltb room n ≡ t → cond t None (Some (room - n)) ≡ Some left → (n ≤ room) × (left ≡ room - n)
    by true h k = absurd cc
    by false h k = let same : room - n ≡ left = same_Some (room - n) left k in (ltb-false room n h, sym same)

-- after a first part and a second
pub room_behind_both : (room a b left : ℕ) → room_left room a ≡ Some left → room_left room (a + b) ≡ room_left left b
room_behind_both room a b left e =
    let h = room_fits room a left e in
    let same : room - (a + b) ≡ left - b = omega (arith, h.0, h.1) in
    by (ltb left b) refl h.0 h.1 same
  where
    by : (t : Bool) → ltb left b ≡ t → a ≤ room → left ≡ room - a → room - (a + b) ≡ left - b
        → room_left room (a + b) ≡ room_left left b
    by true k le is same =
        let lt : left < b = ltb-true left b k in
        no_room room (a + b) (omega arith) ∙ sym (no_room left b lt)
    by false k le is same =
        let fits : b ≤ left = ltb-false left b k in
        some_room room (a + b) (omega arith) ∙ ap (λ (n : ℕ). Some n) same ∙ sym (some_room left b fits)

-- the eight bytes before a tree's content, and the content
pub item_parts : (t : Node) (head : List ℕ) (len : ℕ) → head ≡ codes "TREE" ++ be32 len → len ≡ length (node_bytes t)
    → head ++ node_bytes t ≡ item_bytes (tree_item t)
item_parts t head len e n =
    ap (λ (h : List ℕ). h ++ node_bytes t) e ∙ ap (λ (k : ℕ). codes "TREE" ++ (be32 k ++ node_bytes t)) n

none_room : (room n : ℕ) → room_left room n ≡ None → room < n
none_room room n e = by (ltb room n) refl e
  where
    by : (t : Bool) → ltb room n ≡ t → cond t None (Some (room - n)) ≡ None → room < n
    by true h k = ltb-true room n h
    by false h k = absurd cc

-- the items before a place fit, and the one there doesn't
pub no_room_at : (f : Tree → List ℕ) (ts : List Tree) (i : ℕ) (d : Tree) (room left : ℕ) → i < length ts
    → room_left room (length (flat_map f (take i ts))) ≡ Some left → room_left left (length (f (get_or ts i d))) ≡ None
    → room_left room (length (flat_map f ts)) ≡ None
no_room_at f ts i d room left lt e full =
    let h = room_fits room (length (flat_map f (take i ts))) left e in
    no_room room (length (flat_map f ts))
    (omega (arith, h.0, h.1, none_room left (length (f (get_or ts i d))) full, length-flat_map-take f ts i d lt))
