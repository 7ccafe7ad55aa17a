-- Nodes in git's order, length by length of their names.
use Rattle.std.proofs.Common.{◌≡◌, ℕ, ◌+◌, ◌<◌, ◌≤◌, Bool, true, false, cond, eqb, ltb, List, [], ◌∷◌, ◌++◌}
use Rattle.std.specs.Prelude.{is_some}
use Rattle.std.proofs.Common.{Option, Some, None, length, map, All, refl, sym, ap, ◌∙◌, arith}
use Rattle.std.proofs.Common.{append_assoc, length-append}
use Rattle.std.specs.List.{flat_map}
use Rattle.std.proofs.lemmas.Bool.{eqb-false, eqb-true, le-ltb, lt-ltb, ltb-false, ltb-true}
use Rattle.std.proofs.lemmas.List.Concat.{flat_map-cons}
use Rattle.std.proofs.lemmas.List.Elements.{All-head, All-tail}
use Rattle.ext_tree.specs.GitOrder.{all_in_git_order, bytes_of_len, in_git_order, insert_by_length, name_len}
use Rattle.ext_tree.specs.GitOrder.{has_len, ordered_if}
use Rattle.ext_tree.specs.Tree.{Node, Nodes, node, none, more, how_many_nodes, node_of, nodes_from}
use Rattle.ext_tree.specs.TreeImage.{node_bytes, node_head_bytes, nodes_bytes}
use Rattle.ext_tree.specs.declared.Tree.{Tree}
use Rattle.ext_tree.specs.declared.Tree.TheViews.{out-Tree}
use Rattle.ext_tree.proofs.Spelled.{node_of-out}
use Rattle.ext_tree.proofs.TreeLengths.{node_bytes_out, number, own_head}

-- the nodes of trees, in git's order
abbrev pub ordered : List Tree → Nodes
ordered trees = all_in_git_order (nodes_from (map node_of trees))

-- the bytes of those with shorter names
abbrev pub shorter : ℕ → Nodes → List ℕ
shorter len none = []
shorter len (more t ts) = cond (ltb (name_len t) len) (node_bytes t) [] ++ shorter len ts

-- the bytes of those with names so long
abbrev pub as_long : ℕ → Nodes → List ℕ
as_long len none = []
as_long len (more t ts) = cond (eqb (name_len t) len) (node_bytes t) [] ++ as_long len ts

pub same_len : (t : Node) → name_len (in_git_order t) ≡ name_len t
same_len (node name id count children) = refl

short : (t : Node) → name_len t ≤ 256
short (node name id count children) = omega arith

-- ---- as many nodes, and as many bytes

one_more : (t : Node) (us : Nodes) → how_many_nodes (insert_by_length t us) ≡ how_many_nodes us + 1
one_more t none = refl
one_more t (more u us) = by (ltb (name_len u) (name_len t)) (one_more t us)
  where
    by : (b : Bool) → how_many_nodes (insert_by_length t us) ≡ how_many_nodes us + 1
        → how_many_nodes (cond b (more u (insert_by_length t us)) (more t (more u us)))
        ≡ how_many_nodes (more u us) + 1
    by true e = ap (λ (n : ℕ). n + 1) e
    by false e = refl

pub as_many : (ts : Nodes) → how_many_nodes (all_in_git_order ts) ≡ how_many_nodes ts
as_many none = refl
as_many (more t ts) =
    one_more (in_git_order t) (all_in_git_order ts) ∙ ap (λ (n : ℕ). n + 1) (as_many ts)

length_inserted : (t : Node) (us : Nodes)
    → length (nodes_bytes (insert_by_length t us)) ≡ length (node_bytes t) + length (nodes_bytes us)
length_inserted t none = length-append (node_bytes t) []
length_inserted t (more u us) = by (ltb (name_len u) (name_len t)) (length_inserted t us)
  where
    by : (b : Bool) → length (nodes_bytes (insert_by_length t us)) ≡ length (node_bytes t) + length (nodes_bytes us)
        → length (nodes_bytes (cond b (more u (insert_by_length t us)) (more t (more u us))))
        ≡ length (node_bytes t) + length (nodes_bytes (more u us))
    by true e = omega (
      arith,
      e,
      length-append (node_bytes u) (nodes_bytes (insert_by_length t us)),
      length-append (node_bytes u) (nodes_bytes us),
    )
    by false e = length-append (node_bytes t) (nodes_bytes (more u us))

mutual
  pub same_length : (t : Node) → length (node_bytes (in_git_order t)) ≡ length (node_bytes t)
  same_length (node name id count children) =
      let head : List ℕ = node_head_bytes name id count (how_many_nodes children) in
      ap (λ (n : ℕ). length (node_head_bytes name id count n ++ nodes_bytes (all_in_git_order children)))
      (as_many children)
      ∙ omega (
        arith,
        length-append head (nodes_bytes (all_in_git_order children)),
        length-append head (nodes_bytes children),
        same_lengths children,
      )

  same_lengths : (ts : Nodes) → length (nodes_bytes (all_in_git_order ts)) ≡ length (nodes_bytes ts)
  same_lengths none = refl
  same_lengths (more t ts) = omega (
    arith,
    length_inserted (in_git_order t) (all_in_git_order ts),
    same_length t,
    same_lengths ts,
    length-append (node_bytes t) (nodes_bytes ts),
  )

pub same_length_if : (b : Bool) (t : Node) → length (node_bytes (ordered_if b t)) ≡ length (node_bytes t)
same_length_if true t = same_length t
same_length_if false t = refl

-- a node in git's order: its own head, and those below it
pub ordered_out : (t : Tree)
    → node_bytes (in_git_order (node_of t)) ≡ own_head t ++ nodes_bytes (ordered (out-Tree t).children.items)
ordered_out t =
    let o = out-Tree t in
    let cs : List Tree = o.children.items in
    ap (λ (n : Node). node_bytes (in_git_order n)) (node_of-out t)
    ∙ ap (λ (n : ℕ). node_head_bytes o.name.items o.id o.num_entries n ++ nodes_bytes (ordered cs))
    (as_many (nodes_from (map node_of cs)) ∙ number cs)

-- the bytes after a node's own head
abbrev pub below_if : Bool → List Tree → List ℕ
below_if true ts = nodes_bytes (ordered ts)
below_if false ts = flat_map (λ t. bytes_of_len None (node_of t)) ts

pub ordered_if_out : (b : Bool) (t : Tree)
    → node_bytes (ordered_if b (node_of t)) ≡ own_head t ++ below_if b (out-Tree t).children.items
ordered_if_out true t = ordered_out t
ordered_if_out false t = node_bytes_out t

-- ---- names get no shorter

abbrev AllLonger : ℕ → Nodes → Type 0
AllLonger n none = Unit {0}
AllLonger n (more t ts) = (n ≤ name_len t) × AllLonger n ts

abbrev Lengthens : Nodes → Type 0
Lengthens none = Unit {0}
Lengthens (more t ts) = AllLonger (name_len t) ts × Lengthens ts

longer_too : (n m : ℕ) (ts : Nodes) → n ≤ m → AllLonger m ts → AllLonger n ts
longer_too n m none le h = tt
longer_too n m (more t ts) le h = (omega (arith, h.0), longer_too n m ts le h.1)

longer_inserted : (n : ℕ) (t : Node) (us : Nodes) → n ≤ name_len t → AllLonger n us
    → AllLonger n (insert_by_length t us)
longer_inserted n t none le h = (le, tt)
longer_inserted n t (more u us) le h = by (ltb (name_len u) (name_len t)) (longer_inserted n t us le h.1)
  where
    by : (b : Bool) → AllLonger n (insert_by_length t us)
        → AllLonger n (cond b (more u (insert_by_length t us)) (more t (more u us)))
    by true k = (h.0, k)
    by false k = (le, h)

insert_lengthens : (t : Node) (us : Nodes) → Lengthens us → Lengthens (insert_by_length t us)
insert_lengthens t none h = (tt, tt)
insert_lengthens t (more u us) h = by (ltb (name_len u) (name_len t)) refl (insert_lengthens t us h.1)
  where
    by : (b : Bool) → ltb (name_len u) (name_len t) ≡ b → Lengthens (insert_by_length t us)
        → Lengthens (cond b (more u (insert_by_length t us)) (more t (more u us)))
    by true e k =
        let lt : name_len u < name_len t = ltb-true (name_len u) (name_len t) e in
        (longer_inserted (name_len u) t us (omega arith) h.0, k)
    by false e k =
        let le : name_len t ≤ name_len u = ltb-false (name_len u) (name_len t) e in
        ((le, longer_too (name_len t) (name_len u) us le h.0), h)

lengthens : (ts : Nodes) → Lengthens (all_in_git_order ts)
lengthens none = tt
lengthens (more t ts) = insert_lengthens (in_git_order t) (all_in_git_order ts) (lengthens ts)

-- ---- the bytes of one length more

none_shorter : (len : ℕ) (ts : Nodes) → AllLonger len ts → shorter len ts ≡ []
none_shorter len none h = refl
none_shorter len (more t ts) h =
    rw (le-ltb (name_len t) len h.0) (none_shorter len ts h.1)

one_longer : (len : ℕ) (ts : Nodes) → Lengthens ts → shorter (len + 1) ts ≡ shorter len ts ++ as_long len ts
one_longer len none h = refl
one_longer len (more t ts) h = by (ltb (name_len t) len) refl (eqb (name_len t) len) refl (one_longer len ts h.1)
  where
    by : (b : Bool) → ltb (name_len t) len ≡ b → (c : Bool) → eqb (name_len t) len ≡ c
        → shorter (len + 1) ts ≡ shorter len ts ++ as_long len ts
        → cond (ltb (name_len t) (len + 1)) (node_bytes t) [] ++ shorter (len + 1) ts
        ≡ (cond b (node_bytes t) [] ++ shorter len ts) ++ (cond c (node_bytes t) [] ++ as_long len ts)
    by true e true f k =
        let lt : name_len t < len = ltb-true (name_len t) len e in
        let same : name_len t ≡ len = eqb-true (name_len t) len f in
        absurd (omega arith)
    by true e false f k =
        let lt : name_len t < len = ltb-true (name_len t) len e in
        rw (lt-ltb (name_len t) (len + 1) (omega arith)) (ap (λ (l : List ℕ). node_bytes t ++ l) k
        ∙ sym (append_assoc (node_bytes t) (shorter len ts) (as_long len ts)))
    by false e true f k =
        let same : name_len t ≡ len = eqb-true (name_len t) len f in
        let empty : shorter len ts ≡ [] = none_shorter len ts (longer_too len (name_len t) ts (omega arith) h.0) in
        rw (lt-ltb (name_len t) (len + 1) (omega arith)) (ap (λ (l : List ℕ). node_bytes t ++ l)
        (k ∙ ap (λ (l : List ℕ). l ++ as_long len ts) empty)
        ∙ sym (ap (λ (l : List ℕ). l ++ (node_bytes t ++ as_long len ts)) empty))
    by false e false f k =
        let le : len ≤ name_len t = ltb-false (name_len t) len e in
        let differs : name_len t ≡ len → ⊥ = eqb-false (name_len t) len f in
        let more_than : len + 1 ≤ name_len t = above le differs in
        rw (le-ltb (name_len t) (len + 1) more_than) k
      where
        above : len ≤ name_len t → (name_len t ≡ len → ⊥) → len + 1 ≤ name_len t
        above le differs = omega (arith, le, differs)

as_long_inserted : (len : ℕ) (t : Node) (us : Nodes)
    → as_long len (insert_by_length t us) ≡ cond (eqb (name_len t) len) (node_bytes t) [] ++ as_long len us
as_long_inserted len t none = refl
as_long_inserted len t (more u us) = by (ltb (name_len u) (name_len t)) refl (as_long_inserted len t us)
  where
    swapped : (b c : Bool) → eqb (name_len t) len ≡ b → eqb (name_len u) len ≡ c → name_len u < name_len t
        → cond c (node_bytes u) [] ++ (cond b (node_bytes t) [] ++ as_long len us)
        ≡ cond b (node_bytes t) [] ++ (cond c (node_bytes u) [] ++ as_long len us)
    swapped true true p q lt =
        let a : name_len t ≡ len = eqb-true (name_len t) len p in
        let b : name_len u ≡ len = eqb-true (name_len u) len q in
        absurd (omega arith)
    swapped true false p q lt = refl
    swapped false true p q lt = refl
    swapped false false p q lt = refl

    by : (b : Bool) → ltb (name_len u) (name_len t) ≡ b
        → as_long len (insert_by_length t us) ≡ cond (eqb (name_len t) len) (node_bytes t) [] ++ as_long len us
        → as_long len (cond b (more u (insert_by_length t us)) (more t (more u us)))
        ≡ cond (eqb (name_len t) len) (node_bytes t) [] ++ as_long len (more u us)
    by true e k = ap (λ (l : List ℕ). cond (eqb (name_len u) len) (node_bytes u) [] ++ l) k
        ∙ swapped (eqb (name_len t) len) (eqb (name_len u) len) refl refl (ltb-true (name_len u) (name_len t) e)
    by false e k = refl

as_long_is : (len : ℕ) (ts : List Tree)
    → as_long len (ordered ts) ≡ flat_map (λ t. bytes_of_len (Some len) (node_of t)) ts
as_long_is len [] = refl
as_long_is len (t ∷ ts) =
    as_long_inserted len (in_git_order (node_of t)) (ordered ts)
    ∙ ap (λ (n : ℕ). cond (eqb n len) (node_bytes (in_git_order (node_of t))) [] ++ as_long len (ordered ts))
    (same_len (node_of t))
    ∙ ap (λ (l : List ℕ). bytes_of_len (Some len) (node_of t) ++ l) (as_long_is len ts)
    ∙ sym (flat_map-cons (λ (x : Tree). bytes_of_len (Some len) (node_of x)) t ts)

-- if it has that length
pub of_len : (len : Option ℕ) (t : Node) → has_len len t ≡ true
    → node_bytes (ordered_if (is_some len) t) ≡ bytes_of_len len t
of_len len t e = rw e refl

pub next_length : (len : ℕ) (ts : List Tree) → shorter (len + 1) (ordered ts)
    ≡ shorter len (ordered ts) ++ flat_map (λ t. bytes_of_len (Some len) (node_of t)) ts
next_length len ts =
    one_longer len (ordered ts) (lengthens (nodes_from (map node_of ts)))
    ∙ ap (λ (l : List ℕ). shorter len (ordered ts) ++ l) (as_long_is len ts)

-- ---- lengths that no name has

abbrev Jumps : ℕ → ℕ → Nodes → Type 0
Jumps least next none = Unit {0}
Jumps least next (more t ts) = (least ≤ name_len t → next ≤ name_len t) × Jumps least next ts

jumps_inserted : (least next : ℕ) (t : Node) (us : Nodes) → (least ≤ name_len t → next ≤ name_len t)
    → Jumps least next us → Jumps least next (insert_by_length t us)
jumps_inserted least next t none h k = (h, tt)
jumps_inserted least next t (more u us) h k =
    by (ltb (name_len u) (name_len t)) (jumps_inserted least next t us h k.1)
  where
    by : (b : Bool) → Jumps least next (insert_by_length t us)
        → Jumps least next (cond b (more u (insert_by_length t us)) (more t (more u us)))
    by true x = (k.0, x)
    by false x = (h, k)

jumps : (least next : ℕ) (ts : List Tree) → All (λ t. least ≤ name_len (node_of t) → next ≤ name_len (node_of t)) ts
    → Jumps least next (ordered ts)
jumps least next [] h = tt
jumps least next (t ∷ ts) h =
    let far : Tree → Type 0 = λ u. least ≤ name_len (node_of u) → next ≤ name_len (node_of u) in
    let same : name_len (in_git_order (node_of t)) ≡ name_len (node_of t) = same_len (node_of t) in
    let here : least ≤ name_len (node_of t) → next ≤ name_len (node_of t) = All-head far t ts h in
    jumps_inserted least next (in_git_order (node_of t)) (ordered ts) (rw same here)
    (jumps least next ts (All-tail far t ts h))

none_between : (least next : ℕ) (ts : Nodes) → least ≤ next → Jumps least next ts → shorter next ts ≡ shorter least ts
none_between least next none le h = refl
none_between least next (more t ts) le h = by (ltb (name_len t) least) refl (none_between least next ts le h.1)
  where
    by : (b : Bool) → ltb (name_len t) least ≡ b → shorter next ts ≡ shorter least ts
        → cond (ltb (name_len t) next) (node_bytes t) [] ++ shorter next ts
        ≡ cond b (node_bytes t) [] ++ shorter least ts
    by true e k =
        let lt : name_len t < least = ltb-true (name_len t) least e in
        rw (lt-ltb (name_len t) next (omega arith)) (ap (λ (l : List ℕ). node_bytes t ++ l) k)
    by false e k = rw (le-ltb (name_len t) next (h.0 (ltb-false (name_len t) least e))) k

pub jumped : (least next : ℕ) (ts : List Tree) → least ≤ next
    → All (λ t. least ≤ name_len (node_of t) → next ≤ name_len (node_of t)) ts
    → shorter next (ordered ts) ≡ shorter least (ordered ts)
jumped least next ts le h = none_between least next (ordered ts) le (jumps least next ts h)

-- ---- the first length, and the last

shorter_none : (ts : Nodes) → shorter 0 ts ≡ []
shorter_none none = refl
shorter_none (more t ts) = rw (le-ltb (name_len t) 0 (omega arith)) (shorter_none ts)

pub first_length : (next : ℕ) (ts : List Tree)
    → All (λ t. 0 ≤ name_len (node_of t) → next ≤ name_len (node_of t)) ts → shorter next (ordered ts) ≡ []
first_length next ts h = jumped 0 next ts (omega arith) h ∙ shorter_none (ordered ts)

pub all_shorter : (len : ℕ) (ts : Nodes) → 256 < len → shorter len ts ≡ nodes_bytes ts
all_shorter len none lt = refl
all_shorter len (more t ts) lt =
    let s = short t in
    rw (lt-ltb (name_len t) len (omega (arith, s, lt))) (ap (λ (l : List ℕ). node_bytes t ++ l) (all_shorter len ts lt))

-- the bytes after those with shorter names
prefix : (len : ℕ) (ts : Nodes) → Lengthens ts → (rest : List ℕ) × (shorter len ts ++ rest ≡ nodes_bytes ts)
prefix len none h = ([], refl)
prefix len (more t ts) h = by (ltb (name_len t) len) refl (prefix len ts h.1)
  where
    by : (b : Bool) → ltb (name_len t) len ≡ b → (rest : List ℕ) × (shorter len ts ++ rest ≡ nodes_bytes ts)
        → (rest : List ℕ) × ((cond b (node_bytes t) [] ++ shorter len ts) ++ rest ≡ nodes_bytes (more t ts))
    by true e k = (
      k.0,
      append_assoc (node_bytes t) (shorter len ts) k.0 ∙ ap (λ (l : List ℕ). node_bytes t ++ l) k.1,
    )
    by false e k =
        let le : len ≤ name_len t = ltb-false (name_len t) len e in (
          nodes_bytes (more t ts),
          ap (λ (l : List ℕ). l ++ nodes_bytes (more t ts))
              (none_shorter len ts (longer_too len (name_len t) ts le h.0)),
        )

pub behind_length : (len : ℕ) (ts : List Tree) → (rest : List ℕ)
    × ((shorter len (ordered ts) ++ flat_map (λ t. bytes_of_len (Some len) (node_of t)) ts) ++ rest
    ≡ nodes_bytes (ordered ts))
behind_length len ts =
    let p = prefix (len + 1) (ordered ts) (lengthens (nodes_from (map node_of ts))) in
    (p.0, ap (λ (l : List ℕ). l ++ p.0) (sym (next_length len ts)) ∙ p.1)
