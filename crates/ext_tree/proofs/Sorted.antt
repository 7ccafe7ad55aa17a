-- Nodes whose names increase. Two such lists of the same nodes are equal, and if two neighbours tie there is no such
-- list.
use Rattle.std.proofs.Common.{◌≡◌, ℕ, zero, suc, ◌+◌, ◌-◌, ◌<◌, ◌≤◌, ◌⊎◌, inl, inr, Bool, true, false, Bor, List, []}
use Rattle.std.proofs.Common.{◌∷◌, length, get_or, map, refl, sym, ap, subst, cond, zero-add, ◌∙◌, arith}
use Rattle.std.specs.Cmp.{IsTotalOrder}
use Rattle.std.specs.Fn.{Called}
use Rattle.std.specs.List.{AllByRecursion, AllAdjacentBelow, Contains, sum_by}
use Rattle.std.specs.List.Sorted.{IsPermutation, IsSortedByClosure}
use Rattle.std.specs.Ordering.{is_lt, is_eq, ordering_reverse}
use Rattle.std.specs.declared.cmp.Ordering.{Ordering}
use Rattle.std.specs.declared.cmp.Ordering.TheVariants.{Less, Equal, Greater}
use Rattle.std.proofs.lemmas.Bool.{false≢true}
use Rattle.std.proofs.lemmas.Cmp.{on_total, nat_list_cmp_total, tied_itself}
use Rattle.std.proofs.lemmas.Fn.{always_returns_same}
use Rattle.std.proofs.lemmas.List.{get_or_default, get_or_read, length-map}
use Rattle.std.proofs.lemmas.List.Sorted.{Contains-permutation, IsPermutation-sym, ranks_by, sum_by-IsPermutation}
use Rattle.std.proofs.lemmas.List.Sums.{sum_by-append}
use denote.Param.Members.{Mut}
use Rattle.ext_tree.specs.Tree.{Node, node_of, node_name, name_cmp, NamesRise}
use Rattle.ext_tree.specs.declared.Tree.{Tree}

pub names_total : IsTotalOrder name_cmp
names_total = on_total node_name nat_list_cmp_total

-- ---- one order

abbrev Above : Node → List Node → Type 0
Above t ts = AllByRecursion (λ u. name_cmp t u ≡ Less) ts

contains_cases : (x : Node) (xs : List Node) (z : Node) → Contains (x ∷ xs) z → (x ≡ z) ⊎ Contains xs z
contains_cases x xs z c = by c.0 c.1 c.2
  where
    by : (k : ℕ) → k < length (x ∷ xs) → get_or (x ∷ xs) k z ≡ z → (x ≡ z) ⊎ Contains xs z
    by zero h e = inl e
    by (suc k) h e = inr (k, omega arith, e)

contains_later : (x : Node) (xs : List Node) (z : Node) → Contains xs z → Contains (x ∷ xs) z
contains_later x xs z c = (suc c.0, omega (arith, c.1), c.2)

above_at : (t : Node) (ts : List Node) (z : Node) → Above t ts → Contains ts z → name_cmp t z ≡ Less
above_at t [] z a c = absurd (omega (arith, c.1))
above_at t (u ∷ us) z a c = by (λ d. above_at t us z a.1 d) (contains_cases u us z c)
  where
    by : (Contains us z → name_cmp t z ≡ Less) → (u ≡ z) ⊎ Contains us z → name_cmp t z ≡ Less
    by f (inl e) = rw (← e) a.0
    by f (inr d) = f d

not_below_itself : (t : Node) → name_cmp t t ≡ Less → ⊥
not_below_itself t h = let e = tied_itself names_total t in cc

below_both : (t u : Node) → name_cmp t u ≡ Less → name_cmp u t ≡ Less → ⊥
below_both t u h k = not_below_itself t (names_total.trans t u t h k)

-- the least of one list is the least of the other
same_first : (t u : Node) (ts us : List Node) → Above t ts → Above u us → (t ≡ u) ⊎ Contains ts u
    → (u ≡ t) ⊎ Contains us t → t ≡ u
same_first t u ts us a b (inl e) q = e
same_first t u ts us a b (inr d) (inl e) = sym e
same_first t u ts us a b (inr d) (inr f) = absurd (below_both t u (above_at t ts u a d) (above_at u us t b f))

-- a node that follows the one follows the other
same_rest : (t u : Node) (ts us : List Node) → t ≡ u → Above t ts → (z : Node) → Contains ts z → (u ≡ z) ⊎ Contains us z
    → Contains us z
same_rest t u ts us e a z c (inl f) =
    let same : t ≡ z = e ∙ f in
    absurd (not_below_itself t (subst (λ (x : Node). name_cmp t x ≡ Less) (sym same) (above_at t ts z a c)))
same_rest t u ts us e a z c (inr d) = d

same_risen : (ts us : List Node) → NamesRise ts → NamesRise us → ((z : Node) → Contains ts z → Contains us z)
    → ((z : Node) → Contains us z → Contains ts z) → ts ≡ us
same_risen [] [] p q f g = refl
same_risen [] (u ∷ us) p q f g = let c = g u (0, omega arith, refl) in absurd (omega (arith, c.1))
same_risen (t ∷ ts) [] p q f g = let c = f t (0, omega arith, refl) in absurd (omega (arith, c.1))
same_risen (t ∷ ts) (u ∷ us) p q f g =
    let e : t ≡ u = same_first t u ts us p.0 q.0 (contains_cases t ts u (g u (0, omega arith, refl)))
    (contains_cases u us t (f t (0, omega arith, refl))) in
    let rest : ts ≡ us = same_risen ts us p.1 q.1
    (λ z c. same_rest t u ts us e p.0 z c (contains_cases u us z (f z (contains_later t ts z c))))
    (λ z c. same_rest u t us ts (sym e) q.0 z c (contains_cases t ts z (g z (contains_later u us z c)))) in
    rw (e, rest) refl

pub one_order : (ts us : List Node) → IsPermutation ts us → NamesRise ts → NamesRise us → ts ≡ us
one_order ts us h p q = same_risen ts us p q (λ z c. Contains-permutation ts us z h c)
    (λ z c. Contains-permutation us ts z (IsPermutation-sym ts us h) c)

-- ---- neighbours that rise

above_chain : (t u : Node) (us : List Node) → name_cmp t u ≡ Less → Above u us → Above t us
above_chain t u [] h a = tt
above_chain t u (v ∷ vs) h a = (names_total.trans t u v h a.0, above_chain t u vs h a.1)

rise : (t : Node) (ts : List Node) → AllAdjacentBelow (λ t u. name_cmp t u ≡ Less) (t ∷ ts) (length (t ∷ ts))
    → NamesRise (t ∷ ts)
rise t [] adj = (tt, tt)
rise t (u ∷ us) adj =
    let h : name_cmp t u ≡ Less = adj 0 t (omega arith) in
    let r =
    rise u us (λ k d l. let e : suc k + 1 ≡ suc (k + 1) = omega arith in rw e at (adj (suc k) d (omega arith))) in
    ((h, above_chain t u us h r.0), r)

pub rise_from_adjacent : (ts : List Node) → AllAdjacentBelow (λ t u. name_cmp t u ≡ Less) ts (length ts) → NamesRise ts
rise_from_adjacent [] adj = tt
rise_from_adjacent (t ∷ ts) adj = rise t ts adj

get_or-map : {A B : Type 0} (f : A → B) (xs : List A) (i : ℕ) (d : A) → get_or (map f xs) i (f d) ≡ f (get_or xs i d)
get_or-map f [] i d = refl
get_or-map f (x ∷ xs) zero d = refl
get_or-map f (x ∷ xs) (suc i) d = get_or-map f xs i d

pub read_map : {A B : Type 0} (f : A → B) (xs : List A) (i : ℕ) (x : A) (d : B) → i < length xs → x ≡ get_or xs i x
    → get_or (map f xs) i d ≡ f x
read_map f xs i x d h e =
    let long : i < length (map f xs) = omega (arith, length-map xs f) in
    get_or_default (map f xs) i d (f x) long ∙ get_or-map f xs i x ∙ ap f (sym e)

pub less_from : (o : Ordering) → is_lt o ≡ true → o ≡ Less
less_from Less e = refl
less_from Equal e = cc
less_from Greater e = cc

-- ---- neighbours that tie

-- one if the node has the name of n
abbrev tally : Node → Node → ℕ
tally n t = cond (is_eq (name_cmp t n)) 1 0

sum_tally-cons : (n t : Node) (ts : List Node) → sum_by (tally n) (t ∷ ts) ≡ tally n t + sum_by (tally n) ts
sum_tally-cons n t ts = sum_by-append (tally n) (t ∷ []) ts ∙ ap (λ k. k + sum_by (tally n) ts) (zero-add (tally n t))

none_equal : (n t : Node) (ts : List Node) → name_cmp t n ≡ Equal → Above t ts → sum_by (tally n) ts ≡ 0
none_equal n t [] e a = refl
none_equal n t (u ∷ us) e a =
    let back : name_cmp n u ≡ Less = sym (names_total.congr t n u e) ∙ a.0 in
    let greater : name_cmp u n ≡ Greater = names_total.antisymm u n ∙ ap ordering_reverse back in
    let zero_here : tally n u ≡ 0 = rw greater refl in
    omega (arith, sum_tally-cons n u us, zero_here, none_equal n t us e a.1)

tally_risen : (n : Node) (ts : List Node) → NamesRise ts → sum_by (tally n) ts ≤ 1
tally_risen n [] r = omega arith
tally_risen n (t ∷ ts) r = by (name_cmp t n) refl (tally_risen n ts r.1)
  where
    by : (o : Ordering) → name_cmp t n ≡ o → sum_by (tally n) ts ≤ 1 → sum_by (tally n) (t ∷ ts) ≤ 1
    by Less e h = let z : tally n t ≡ 0 = rw e refl in omega (arith, sum_tally-cons n t ts, z, h)
    by Greater e h = let z : tally n t ≡ 0 = rw e refl in omega (arith, sum_tally-cons n t ts, z, h)
    by Equal e h = let z : tally n t ≡ 1 = rw e refl in omega (arith, sum_tally-cons n t ts, z, none_equal n t ts e r.0)

tally_two : (n : Node) (ts : List Node) (i : ℕ) → 0 < i → i < length ts
    → ((d : Node) → tally n (get_or ts (i - 1) d) ≡ 1) → ((d : Node) → tally n (get_or ts i d) ≡ 1)
    → 2 ≤ sum_by (tally n) ts
tally_two n [] i p h a b = absurd (omega arith)
tally_two n (t ∷ ts) zero p h a b = absurd (omega arith)
tally_two n (t ∷ []) (suc i) p h a b = absurd (omega arith)
tally_two n (t ∷ u ∷ us) (suc zero) p h a b =
    let x : tally n t ≡ 1 = a t in
    let y : tally n u ≡ 1 = b t in
    omega (arith, sum_tally-cons n t (u ∷ us), sum_tally-cons n u us, x, y)
tally_two n (t ∷ u ∷ us) (suc (suc i)) p h a b =
    let e : suc (suc i) - 1 ≡ suc i = omega arith in
    let f : suc i - 1 ≡ i = omega arith in
    let a' : (d : Node) → tally n (get_or (u ∷ us) (suc i - 1) d) ≡ 1 = λ d. rw f (rw e at (a d)) in
    omega (arith, sum_tally-cons n t (u ∷ us), tally_two n (u ∷ us) (suc i) (omega arith) (omega arith) a' b)

abbrev tree_lt : Tree → Tree → Bool
tree_lt a b = is_lt (name_cmp (node_of a) (node_of b))

-- in a sorted list the later of two neighbours is not below
pub sorted_at : {F : Type 0} (g : Mut F (Bor Tree × (Bor Tree × Unit {0})) Ordering) (f : F) (xs : List Tree)
    → IsSortedByClosure g f xs → ((a : Bor Tree × (Bor Tree × Unit {0})) (r : Ordering) (f' : F) → Called g f a r f'
    → (r ≡ name_cmp (node_of a.0.now) (node_of a.1.0.now)) × (f' ≡ f)) → (i : ℕ) (a b : Tree) → 0 < i → i < length xs
    → a ≡ get_or xs (i - 1) a → b ≡ get_or xs i b → is_lt (name_cmp (node_of b) (node_of a)) ≡ false
sorted_at g f xs s h i a b p l ra rb =
    let by = s tree_lt (ranks_by names_total node_of) (always_returns_same g
    (λ a r. is_lt r ≡ tree_lt a.0.now a.1.0.now) f (λ a r f' k. (ap is_lt (h a r f' k).0, (h a r f' k).1))) in
    let n : i - 1 + 1 ≡ i = omega arith in
    let at = rw n at (by (i - 1) a (omega arith) (omega arith)) in
    let same : b ≡ get_or xs i a = get_or_read xs i b l rb a in
    ap (λ (x : Tree). is_lt (name_cmp (node_of x) (node_of a))) same
    ∙ ap (λ (x : Tree). is_lt (name_cmp (node_of (get_or xs i a)) (node_of x))) ra ∙ at

tied : (o p : Ordering) → p ≡ ordering_reverse o → is_lt o ≡ false → is_lt p ≡ false → o ≡ Equal
tied Less p e h k = cc
tied Equal p e h k = refl
tied Greater p e h k = absurd (false≢true (sym k ∙ ap is_lt e))

pub no_order : (old : List Node) (xs : List Tree) (i : ℕ) (a b : Tree) → IsPermutation old (map node_of xs) → 0 < i
    → i < length xs → a ≡ get_or xs (i - 1) a → b ≡ get_or xs i b → is_lt (name_cmp (node_of b) (node_of a)) ≡ false
    → is_lt (name_cmp (node_of a) (node_of b)) ≡ false → (vs : List Node) → IsPermutation old vs → NamesRise vs → ⊥
no_order old xs i a b perm p l ra rb h k vs q r =
    let n = node_of b in
    let e : name_cmp (node_of a) n ≡ Equal =
    tied (name_cmp (node_of a) n) (name_cmp n (node_of a)) (names_total.antisymm n (node_of a)) k h in
    let one : tally n (node_of a) ≡ 1 = rw e refl in
    let self : tally n n ≡ 1 = rw (tied_itself names_total n) refl in
    let len : length (map node_of xs) ≡ length xs = length-map xs node_of in
    let two : 2 ≤ sum_by (tally n) (map node_of xs) = tally_two n (map node_of xs) i p (omega arith)
    (λ d. ap (tally n) (read_map node_of xs (i - 1) a d (omega arith) ra) ∙ one)
    (λ d. ap (tally n) (read_map node_of xs i b d l rb) ∙ self) in
    omega (
      arith,
      two,
      tally_risen n vs r,
      sum_by-IsPermutation (tally n) old (map node_of xs) perm,
      sum_by-IsPermutation (tally n) old vs q,
    )
