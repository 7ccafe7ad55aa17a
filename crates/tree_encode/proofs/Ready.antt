-- What is staged below a front, and what of it is staged below a name.
use Rattle.std.proofs.Common.{◌≡◌, ◌⊎◌, inl, inr, ℕ, suc, ◌-◌, ◌<◌, List, [], ◌∷◌, ◌++◌, All, AllPairs, length, map}
use Rattle.std.proofs.Common.{get_or, refl, sym, ap, subst, ◌∙◌, append_assoc, arith}
use Rattle.std.specs.Prelude.{◌≢◌}
use Rattle.std.specs.declared.cmp.Ordering.{Ordering}
use Rattle.std.specs.declared.cmp.Ordering.TheVariants.{Less}
use Rattle.std.specs.Ordering.{ordering_then}
use Rattle.std.proofs.lemmas.Cmp.{nat_cmp_total, nat_list_cmp_total, tied_itself}
use Rattle.std.proofs.lemmas.List.{append-nil, get_or-map, get_or_append_left, length-append, length-map}
use Rattle.std.proofs.lemmas.List.Elements.{All-cons, All-head, All-tail, All-nil}
use Rattle.index_parts.specs.declared.hash.Kind.{Kind}
use Rattle.entry_list.specs.Order.{path_cmp}
use Rattle.tree_encode.specs.Directory.{IsPathComponent}
use Rattle.tree_encode.specs.Refusals.{HasPathPrefix, IsInside}
use Rattle.tree_encode.specs.Staged.{Staged}
use Rattle.tree_encode.specs.WritingSteps.{Ahead, IsComponent, IsLeaf, IsReady}
use Rattle.tree_encode.proofs.Aparts.{between}
use Rattle.tree_encode.proofs.PathNames.{NoSlash, IsBehind, ahead_from, path_behind, path_some}
use Rattle.tree_encode.proofs.Pushes.{under}

-- ---- parts

pairs_tail : (R : Staged → Staged → Type 0) (x : Staged) (xs : List Staged) → AllPairs R (x ∷ xs) → AllPairs R xs
pairs_tail R x xs h i j d lt within = h (suc i) (suc j) d (omega (arith, lt)) (omega (arith, within))

pub pairs_head : (R : Staged → Staged → Type 0) (x : Staged) (xs : List Staged) → AllPairs R (x ∷ xs) → All (R x) xs
pairs_head R x xs h k d within = h 0 (suc k) d (omega arith) (omega (arith, within))

ready_tail : (kind : Kind) (levels : ℕ) (x : Staged) (xs : List Staged) → IsReady kind levels (x ∷ xs)
    → IsReady kind levels xs
ready_tail kind levels x xs h = record {
  each = All-tail (IsLeaf kind levels) x xs h.each;
  rise = pairs_tail (λ s t. path_cmp s.path t.path ≡ Less) x xs h.rise;
  outside = pairs_tail (λ s t. IsInside t.path s → ⊥) x xs h.outside;
}

pub ready_back : (kind : Kind) (levels : ℕ) (a b : List Staged) → IsReady kind levels (a ++ b) → IsReady kind levels b
ready_back kind levels [] b h = h
ready_back kind levels (x ∷ a) b h = ready_back kind levels a b (ready_tail kind levels x (a ++ b) h)

pairs_front : (R : Staged → Staged → Type 0) (xs ys : List Staged) → AllPairs R (xs ++ ys) → AllPairs R xs
pairs_front R xs ys h i j d lt within =
    let a : get_or (xs ++ ys) i d ≡ get_or xs i d = get_or_append_left xs ys d i (omega (arith, lt, within)) in
    let b : get_or (xs ++ ys) j d ≡ get_or xs j d = get_or_append_left xs ys d j within in
    subst (λ (y : Staged). R (get_or xs i d) y) b (subst (λ (x : Staged). R x (get_or (xs ++ ys) j d)) a
    (h i j d lt (omega (arith, within, length-append xs ys))))

all_front : (P : Staged → Type 0) (xs ys : List Staged) → All P (xs ++ ys) → All P xs
all_front P xs ys h k d within =
    subst P (get_or_append_left xs ys d k within) (h k d (omega (arith, within, length-append xs ys)))

pub ready_front : (kind : Kind) (levels : ℕ) (a b : List Staged) → IsReady kind levels (a ++ b) → IsReady kind levels a
ready_front kind levels a b h = record {
  each = all_front (IsLeaf kind levels) a b h.each;
  rise = pairs_front (λ s t. path_cmp s.path t.path ≡ Less) a b h.rise;
  outside = pairs_front (λ s t. IsInside t.path s → ⊥) a b h.outside;
}

pub all_back : (P : Staged → Type 0) (xs ys : List Staged) → All P (xs ++ ys) → All P ys
all_back P [] ys h = h
all_back P (x ∷ xs) ys h = all_back P xs ys (All-tail P x (xs ++ ys) h)

-- ---- below a name

-- the same bytes in front leave the order as it is
pub cancel : (f p q : List ℕ) → path_cmp (f ++ p) (f ++ q) ≡ path_cmp p q
cancel [] p q = refl
cancel (c ∷ f) p q =
    ap (λ (o : Ordering). ordering_then o (path_cmp (f ++ p) (f ++ q))) (tied_itself nat_cmp_total c) ∙ cancel f p q

not_first : (p : List ℕ) → path_cmp p [] ≡ Less → ⊥
not_first [] e = absurd cc
not_first (x ∷ p) e = absurd cc

module _ (kind : Kind) (levels : ℕ) (name shown : List ℕ) (is : shown ≡ name ++ 47 ∷ []) (slash : NoSlash name) where
  longer : (rest : List ℕ) → shown ++ rest ≡ name ++ 47 ∷ rest
  longer rest = ap (λ (l : List ℕ). l ++ rest) is ∙ append_assoc name (47 ∷ []) rest

  behind : (s : Staged) (h : IsLeaf kind levels (under shown s)) → s.path ≢ []
      → IsBehind h.check levels s.kind name s.path
  behind s h some = path_behind h.check levels s.kind (shown ++ s.path) name s.path (longer s.path) slash some h.path

  leaf_behind : (s : Staged) → IsLeaf kind levels (under shown s) → s.path ≢ [] → IsLeaf kind (levels - 1) s
  leaf_behind s h some = record { check = h.check; path = (behind s h some).path; of_kind = h.of_kind; len = h.len }

  rise_behind : (ss : List Staged) → AllPairs (λ s t. path_cmp s.path t.path ≡ Less) (map (under shown) ss)
      → AllPairs (λ s t. path_cmp s.path t.path ≡ Less) ss
  rise_behind ss h i j d lt within =
      let inside : j < length (map (under shown) ss) = omega (arith, within, length-map ss (under shown)) in
      let a : get_or (map (under shown) ss) i d ≡ under shown (get_or ss i d) =
      get_or-map (under shown) ss i d d (omega (arith, lt, within)) in
      let b : get_or (map (under shown) ss) j d ≡ under shown (get_or ss j d) =
      get_or-map (under shown) ss j d d within in
      sym (cancel shown (get_or ss i d).path (get_or ss j d).path)
      ∙ subst (λ (t : Staged). path_cmp (shown ++ (get_or ss i d).path) t.path ≡ Less) b (subst
      (λ (s : Staged). path_cmp s.path (get_or (map (under shown) ss) j d).path ≡ Less) a (h i j d lt inside))

  outside_behind : (ss : List Staged) → AllPairs (λ s t. IsInside t.path s → ⊥) (map (under shown) ss)
      → AllPairs (λ s t. IsInside t.path s → ⊥) ss
  outside_behind ss h i j d lt within inner =
      let inside : j < length (map (under shown) ss) = omega (arith, within, length-map ss (under shown)) in
      let a : get_or (map (under shown) ss) i d ≡ under shown (get_or ss i d) =
      get_or-map (under shown) ss i d d (omega (arith, lt, within)) in
      let b : get_or (map (under shown) ss) j d ≡ under shown (get_or ss j d) =
      get_or-map (under shown) ss j d d within in
      let no = subst (λ (t : Staged). IsInside t.path (under shown (get_or ss i d)) → ⊥) b
      (subst (λ (s : Staged). IsInside (get_or (map (under shown) ss) j d).path s → ⊥) a (h i j d lt inside)) in
      no (
        inner.0,
        (
          inner.1.0,
          ap (λ (l : List ℕ). shown ++ l) inner.1.1 ∙ sym (append_assoc shown (get_or ss i d).path inner.1.0),
        ),
      )

  each_behind : (ss : List Staged) → All (λ s. s.path ≢ []) ss → All (IsLeaf kind levels) (map (under shown) ss)
      → All (IsLeaf kind (levels - 1)) ss
  each_behind [] some h = All-nil (IsLeaf kind (levels - 1))
  each_behind (s ∷ ss) some h =
      All-cons (IsLeaf kind (levels - 1)) s ss
      (leaf_behind s (All-head (IsLeaf kind levels) (under shown s) (map (under shown) ss) h)
      (All-head (λ s. s.path ≢ []) s ss some))
      (each_behind ss (All-tail (λ s. s.path ≢ []) s ss some)
      (All-tail (IsLeaf kind levels) (under shown s) (map (under shown) ss) h))

  pub ready_behind : (first : Staged) (others : List Staged) → first.path ≢ []
      → IsReady kind levels (map (under shown) (first ∷ others)) → IsReady kind (levels - 1) (first ∷ others)
  ready_behind first others some h =
      let rise = rise_behind (first ∷ others) h.rise in
      let above : All (λ s. s.path ≢ []) others =
      λ k d within e. not_first first.path (subst (λ (l : List ℕ). path_cmp first.path l ≡ Less) e
      (pairs_head (λ s t. path_cmp s.path t.path ≡ Less) first others rise k d within)) in
      record {
        each = each_behind (first ∷ others) (All-cons (λ s. s.path ≢ []) first others some above) h.each;
        rise = rise;
        outside = outside_behind (first ∷ others) h.outside;
      }

  -- the name, and that a level is left
  pub named_behind : (first : Staged) → first.path ≢ [] → IsLeaf kind levels (under shown first)
      → IsPathComponent name × (0 < levels)
  named_behind first some h = let b = behind first h some in (b.named, b.more)

-- ---- what is ahead

-- After a directory: what doesn't begin with it follows it.
pub ahead_directory : (name shown rest : List ℕ) (left : List Staged) → shown ≡ name ++ 47 ∷ [] → NoSlash name
    → All (λ s. path_cmp (shown ++ rest) s.path ≡ Less) left → AllPairs (λ s t. path_cmp s.path t.path ≡ Less) left
    → ((first : Staged) (others : List Staged) → left ≡ first ∷ others → HasPathPrefix first.path shown → ⊥)
    → All (Ahead shown) left
ahead_directory name shown rest [] is slash less rise stops = All-nil (Ahead shown)
ahead_directory name shown rest (s ∷ ss) is slash less rise stops = All-cons (Ahead shown) s ss (first) others
  where
    below : (p : List ℕ) → path_cmp (shown ++ rest) p ≡ Less → path_cmp shown p ≡ Less
    below p e = by rest e
      where
        at_or_below : (r : List ℕ) → (path_cmp shown (shown ++ r) ≡ Less) ⊎ (r ≡ [])
        at_or_below [] = inr refl
        at_or_below (c ∷ r) =
            inl (ap (λ (l : List ℕ). path_cmp l (shown ++ c ∷ r)) (sym (append-nil shown)) ∙ cancel shown [] (c ∷ r))

        split : (r : List ℕ) → (path_cmp shown (shown ++ r) ≡ Less) ⊎ (r ≡ []) → path_cmp (shown ++ r) p ≡ Less
            → path_cmp shown p ≡ Less
        split r (inl lt) d = nat_list_cmp_total.trans shown (shown ++ r) p lt d
        split r (inr z) d =
            subst (λ (l : List ℕ). path_cmp l p ≡ Less) (ap (λ (l : List ℕ). shown ++ l) z ∙ append-nil shown) d

        by : (r : List ℕ) → path_cmp (shown ++ r) p ≡ Less → path_cmp shown p ≡ Less
        by r d = split r (at_or_below r) d

    at_first : path_cmp shown s.path ≡ Less
    at_first = below s.path (All-head (λ s. path_cmp (shown ++ rest) s.path ≡ Less) s ss less)

    no_first : HasPathPrefix s.path shown → ⊥
    no_first = stops s ss refl

    first : Ahead shown s
    first = ahead_from shown s at_first (inr (name, is, slash, no_first))

    others : All (Ahead shown) ss
    others = λ k d within.
        let t = get_or ss k d in
        let lt : path_cmp (shown ++ rest) t.path ≡ Less =
        All-tail (λ s. path_cmp (shown ++ rest) s.path ≡ Less) s ss less k d within in
        let up : path_cmp s.path t.path ≡ Less =
        pairs_head (λ s t. path_cmp s.path t.path ≡ Less) s ss rise k d within in
        ahead_from shown t (below t.path lt)
        (inr (name, is, slash, λ b. no_first (between shown s.path t.path at_first up b)))

first_behind : (path : List ℕ) (name shown : List ℕ) → path ≢ [] → IsComponent path name shown
    → path_cmp [] shown ≡ Less
first_behind path name [] some c = absurd (by c.is)
  where
    by : ([] ≡ name ++ 47 ∷ []) ⊎ (([] ≡ name) × (path ≡ name)) → ⊥
    by (inl e) = absurd (omega (arith, ap length e, length-append name (47 ∷ [])))
    by (inr e) = some (e.1 ∙ sym e.0)
first_behind path name (b ∷ shown) some c = refl

-- at first all is ahead
pub ahead_none : (kind : Kind) (levels : ℕ) (left : List Staged) → IsReady kind levels left → All (Ahead []) left
ahead_none kind levels left h = λ k d within name shown c.
    let l = h.each k d within in
    first_behind (get_or left k d).path name shown
    (path_some l.check levels (get_or left k d).kind (get_or left k d).path l.path) c
