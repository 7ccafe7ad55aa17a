-- A child at the first place of its name is what the definition finds.
use Rattle.std.proofs.Common.{◌≡◌, ℕ, zero, suc, ◌+◌, ◌<◌, true, false, cond, List, [], ◌∷◌, ◌++◌, length, map, take, drop}
use Rattle.std.proofs.Common.{Option, Some, None, All, get_or, set, sym, ap, ◌∙◌, arith, refl}
use Rattle.std.proofs.lemmas.List.Elements.{All-head, All-tail}
use Rattle.index_parts.specs.declared.hash.ObjectId.{ObjectId}
use Rattle.ext_tree.specs.Tree.{Node, Nodes, node, more, nodes_from}
use Rattle.ext_tree.specs.Invalidation.{invalidated, invalidated_below, is_node_named}

-- no child before a place has the name
abbrev pub NoneBefore : {X : Type 0} → (X → Node) → List ℕ → X → List X → ℕ → Type 0
NoneBefore f name d xs i = (k : ℕ) → k < i → is_node_named name (f (get_or xs k d)) ≡ false

later : {X : Type 0} (f : X → Node) (name : List ℕ) (d x : X) (xs : List X) (i : ℕ)
    → NoneBefore f name d (x ∷ xs) (suc i) → NoneBefore f name d xs i
later f name d x xs i h = λ k lt. h (suc k) (omega (arith, lt))

-- without the child at the first place of the name
pub gone : {X : Type 0} (f : X → Node) (path : List ℕ) (d : X) (xs : List X) (i : ℕ) → i < length xs
    → is_node_named path (f (get_or xs i d)) ≡ true → NoneBefore f path d xs i
    → nodes_from (map f (take i xs ++ drop (suc i) xs)) ≡ invalidated_below path None (nodes_from (map f xs))
gone f path d [] i lt h n = absurd (omega (arith, lt))
gone f path d (x ∷ xs) zero lt h n =
    let ts = nodes_from (map f xs) in
    sym (ap (λ b. cond b ts (more (f x) (invalidated_below path None ts))) h)
gone f path d (x ∷ xs) (suc i) lt h n =
    let ts = nodes_from (map f xs) in
    ap (λ us. more (f x) us) (gone f path d xs i (omega (arith, lt)) h (later f path d x xs i n))
    ∙ sym (ap (λ b. cond b ts (more (f x) (invalidated_below path None ts))) (n zero (omega arith)))

-- with another child at the first place of the name
pub changed : {X : Type 0} (f : X → Node) (path : List ℕ) (k : ℕ) (d u : X) (xs : List X) (i : ℕ) → i < length xs
    → is_node_named (take k path) (f (get_or xs i d)) ≡ true → NoneBefore f (take k path) d xs i
    → f u ≡ invalidated (drop (k + 1) path) (f (get_or xs i d))
    → nodes_from (map f (set xs i u)) ≡ invalidated_below path (Some k) (nodes_from (map f xs))
changed f path k d u [] i lt h n e = absurd (omega (arith, lt))
changed f path k d u (x ∷ xs) zero lt h n e =
    let ts = nodes_from (map f xs) in
    ap (λ t. more t ts) e
    ∙ sym (ap (λ b. cond b (more (invalidated (drop (k + 1) path) (f x)) ts)
    (more (f x) (invalidated_below path (Some k) ts))) h)
changed f path k d u (x ∷ xs) (suc i) lt h n e =
    let ts = nodes_from (map f xs) in
    ap (λ us. more (f x) us)
    (changed f path k d u xs i (omega (arith, lt)) h (later f (take k path) d x xs i n) e)
    ∙ sym (ap (λ b. cond b (more (invalidated (drop (k + 1) path) (f x)) ts)
    (more (f x) (invalidated_below path (Some k) ts))) (n zero (omega arith)))

-- no child has the name
pub none_gone : {X : Type 0} (f : X → Node) (path : List ℕ) (xs : List X)
    → All (λ x. is_node_named path (f x) ≡ false) xs
    → nodes_from (map f xs) ≡ invalidated_below path None (nodes_from (map f xs))
none_gone f path [] h = refl
none_gone {X} f path (x ∷ xs) h =
    let ts = nodes_from (map f xs) in
    let P : X → Type 0 = λ y. is_node_named path (f y) ≡ false in
    ap (λ us. more (f x) us) (none_gone f path xs (All-tail P x xs h))
    ∙ sym (ap (λ b. cond b ts (more (f x) (invalidated_below path None ts))) (All-head P x xs h))

pub none_changed : {X : Type 0} (f : X → Node) (path : List ℕ) (k : ℕ) (xs : List X)
    → All (λ x. is_node_named (take k path) (f x) ≡ false) xs
    → nodes_from (map f xs) ≡ invalidated_below path (Some k) (nodes_from (map f xs))
none_changed f path k [] h = refl
none_changed {X} f path k (x ∷ xs) h =
    let ts = nodes_from (map f xs) in
    let P : X → Type 0 = λ y. is_node_named (take k path) (f y) ≡ false in
    ap (λ us. more (f x) us) (none_changed f path k xs (All-tail P x xs h))
    ∙ sym (ap (λ b. cond b (more (invalidated (drop (k + 1) path) (f x)) ts)
    (more (f x) (invalidated_below path (Some k) ts))) (All-head P x xs h))

pub same_node : (n m : List ℕ) (i j : ObjectId) (c d : Option ℕ) (s u : Nodes) → n ≡ m → i ≡ j → c ≡ d → s ≡ u
    → node n i c s ≡ node m j d u
same_node n m i j c d s u a b e f = rw (a, b, e, f) refl
