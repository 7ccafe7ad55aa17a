-- Staged paths none of which is inside another: a further one is inside one of them, or inside none.
use Rattle.std.proofs.Common.{◌≡◌, ◌⊎◌, inl, inr, ℕ, List, [], ◌∷◌, ◌++◌, Bool, true, false, Contains, length, take}
use Rattle.std.proofs.Common.{eqb, refl, sym, ap, subst, ◌∙◌, append_assoc, arith}
use Rattle.std.specs.Cmp.Lexicographic.{pointwise}
use Rattle.std.specs.declared.cmp.Ordering.TheVariants.{Less}
use Rattle.std.proofs.lemmas.Cmp.{nat_list_cmp_total, tied_itself}
use Rattle.std.proofs.lemmas.List.{length-append}
use Rattle.std.proofs.lemmas.List.Elements.{Contains-append_cases, Contains-append_left, Contains-append_right}
use Rattle.std.proofs.lemmas.List.Elements.{Contains-push, Contains-push_cases}
use Rattle.index_parts.specs.declared.object.tree.EntryKind.TheVariants as kinds
use Rattle.entry_list.specs.Order.{path_cmp}
use Rattle.tree_encode.specs.Refusals.{AreDisjointPaths, HasPathPrefix, IsBelow, IsInside, LiesIn}
use Rattle.tree_encode.specs.Staged.{Staged}
use Rattle.tree_encode.proofs.Aparts.{begins_from, below_begins, below_or_same, lies_begins, not_after}
use Rattle.tree_encode.proofs.Aparts.{not_begins}
use Rattle.index_laws.proofs.TreeNames.{tree_or_file}

-- ---- a path that is inside another

begins_judged : (p f : List ℕ) → HasPathPrefix p f ⊎ (HasPathPrefix p f → ⊥)
begins_judged p f = by (pointwise eqb f (take (length f) p)) refl
  where
    by : (r : Bool) → r ≡ pointwise eqb f (take (length f) p) → HasPathPrefix p f ⊎ (HasPathPrefix p f → ⊥)
    by true e = inl (begins_from p f true e refl)
    by false e = inr (not_begins p f false e refl)

below_judged : (p f : List ℕ) → IsBelow p f ⊎ (IsBelow p f → ⊥)
below_judged p f = by (begins_judged p (f ++ 47 ∷ []))
  where
    by : HasPathPrefix p (f ++ 47 ∷ []) ⊎ (HasPathPrefix p (f ++ 47 ∷ []) → ⊥) → IsBelow p f ⊎ (IsBelow p f → ⊥)
    by (inl b) = inl (b.0, b.1 ∙ append_assoc f (47 ∷ []) b.0)
    by (inr n) = inr (λ b. n (b.0, b.1 ∙ sym (append_assoc f (47 ∷ []) b.0)))

neither : (p : List ℕ) (s : Staged) → (IsBelow p s.path → ⊥) → (IsInside p s → ⊥) → LiesIn p s → ⊥
neither p s n m (inl b) = n b
neither p s n m (inr i) = m i

lies_judged : (p : List ℕ) (s : Staged) → LiesIn p s ⊎ (LiesIn p s → ⊥)
lies_judged p s = by (below_judged p s.path) (tree_or_file s.kind) (begins_judged p s.path)
  where
    by : IsBelow p s.path ⊎ (IsBelow p s.path → ⊥) → (s.kind ≡ kinds.Tree) ⊎ (s.kind ≡ kinds.Tree → ⊥)
        → HasPathPrefix p s.path ⊎ (HasPathPrefix p s.path → ⊥) → LiesIn p s ⊎ (LiesIn p s → ⊥)
    by (inl b) t c = inl (inl b)
    by (inr n) (inl t) (inl b) = inl (inr (t, b))
    by (inr n) (inl t) (inr m) = inr (neither p s n (λ i. m i.1))
    by (inr n) (inr o) c = inr (neither p s n (λ i. o i.0))

abbrev pub IsInOne : List ℕ → List Staged → Type 0
IsInOne p ss = (s : Staged) × Contains ss s × LiesIn p s

pub some_judged : (p : List ℕ) (ss : List Staged) → IsInOne p ss ⊎ ((s : Staged) → Contains ss s → LiesIn p s → ⊥)
some_judged p [] = inr (λ s c. absurd (omega (arith, c.1)))
some_judged p (s ∷ ss) = by (lies_judged p s) (some_judged p ss)
  where
    by : LiesIn p s ⊎ (LiesIn p s → ⊥) → IsInOne p ss ⊎ ((t : Staged) → Contains ss t → LiesIn p t → ⊥)
        → IsInOne p (s ∷ ss) ⊎ ((t : Staged) → Contains (s ∷ ss) t → LiesIn p t → ⊥)
    by (inl l) r = inl (s, Contains-append_left (s ∷ []) ss s (Contains-push [] s), l)
    by (inr n) (inl f) = inl (f.0, Contains-append_right (s ∷ []) ss f.0 f.1, f.2)
    by (inr n) (inr m) = inr (λ t c. split t (Contains-append_cases (s ∷ []) ss t c))
      where
        at_head : (t : Staged) → Contains [] t ⊎ (s ≡ t) → LiesIn p t → ⊥
        at_head t (inl c) l = absurd (omega (arith, c.1))
        at_head t (inr e) l = n (subst (LiesIn p) (sym e) l)

        split : (t : Staged) → Contains (s ∷ []) t ⊎ Contains ss t → LiesIn p t → ⊥
        split t (inl c) l = at_head t (Contains-push_cases [] s t c) l
        split t (inr c) l = m t c l

-- ---- two paths that one path is inside

prefixes : (p q x y : List ℕ) → p ++ x ≡ q ++ y → ((z : List ℕ) × (q ≡ p ++ z)) ⊎ ((z : List ℕ) × (p ≡ q ++ z))
prefixes [] q x y e = inl (q, refl)
prefixes (a ∷ p) [] x y e = inr (a ∷ p, refl)
prefixes (a ∷ p) (b ∷ q) x y e = by (prefixes p q x y tail)
  where
    head : a ≡ b
    head = cc

    tail : p ++ x ≡ q ++ y
    tail = cc

    by : ((z : List ℕ) × (q ≡ p ++ z)) ⊎ ((z : List ℕ) × (p ≡ q ++ z))
        → ((z : List ℕ) × (b ∷ q ≡ a ∷ (p ++ z))) ⊎ ((z : List ℕ) × (a ∷ p ≡ b ∷ (q ++ z)))
    by (inl h) = inl (h.0, ap (λ (c : ℕ). c ∷ q) (sym head) ∙ ap (λ (l : List ℕ). a ∷ l) h.1)
    by (inr h) = inr (h.0, ap (λ (c : ℕ). c ∷ p) head ∙ ap (λ (l : List ℕ). b ∷ l) h.1)

-- the longer of both is the same
longer_same : (before : List Staged) → AreDisjointPaths before → (path : List ℕ) (s t : Staged) (z : List ℕ)
    → Contains before s
    → Contains before t → t.path ≡ s.path ++ z → LiesIn path s → LiesIn path t → s.path ≡ t.path
longer_same before apart path s t z c d e (inr i) m = sym (apart.inside s t c d (i.0, (z, e)))
longer_same before apart path s t z c d e (inl b) m = by (lies_begins path t m)
  where
    split : (t.path ≡ s.path) ⊎ IsBelow t.path s.path → s.path ≡ t.path
    split (inl same) = sym same
    split (inr below) = absurd (apart.below s t c d below)

    by : HasPathPrefix path t.path → s.path ≡ t.path
    by g = split (below_or_same s.path t.path path z g.0 e g.1 b)

pub one_file : (before : List Staged) → AreDisjointPaths before → (path : List ℕ) (s t : Staged) → Contains before s
    → Contains before t → LiesIn path s → LiesIn path t → s.path ≡ t.path
one_file before apart path s t c d l m =
    let a = lies_begins path s l in
    let b = lies_begins path t m in
    by (prefixes s.path t.path a.0 b.0 (sym a.1 ∙ b.1))
  where
    by : ((z : List ℕ) × (t.path ≡ s.path ++ z)) ⊎ ((z : List ℕ) × (s.path ≡ t.path ++ z)) → s.path ≡ t.path
    by (inl h) = longer_same before apart path s t h.0 c d h.1 l m
    by (inr h) = sym (longer_same before apart path t s h.0 d c h.1 m l)

-- ---- one more that is inside none before it

pub not_itself : (p : List ℕ) → path_cmp p p ≡ Less → ⊥
not_itself p e = let tie = tied_itself nat_list_cmp_total p in absurd (cc (tie, e))

module _ (ss : List Staged) (x : Staged) (apart : AreDisjointPaths ss) (rise : (s : Staged) → Contains ss s
    → path_cmp s.path x.path ≡ Less) (out : (s : Staged) → Contains ss s → LiesIn x.path s → ⊥) where
  below_more : (p u : Staged) → Contains (ss ++ x ∷ []) p → Contains (ss ++ x ∷ []) u → IsBelow u.path p.path → ⊥
  below_more p u a b below = by (Contains-push_cases ss x p a) (Contains-push_cases ss x u b)
    where
      longer : (f : List ℕ) → IsBelow f f → ⊥
      longer f d = omega (arith, ap length d.1, length-append f (47 ∷ d.0))

      by : Contains ss p ⊎ (x ≡ p) → Contains ss u ⊎ (x ≡ u) → ⊥
      by (inl c) (inl d) = apart.below p u c d below
      by (inl c) (inr s) = out p c (inl (subst (λ (y : Staged). IsBelow y.path p.path) (sym s) below))
      by (inr s) (inl d) = not_after u.path x.path (rise u d)
          (below_begins u.path x.path (subst (λ (y : Staged). IsBelow u.path y.path) (sym s) below))
      by (inr s) (inr t) = longer x.path (subst (λ (y : Staged). IsBelow y.path x.path) (sym t)
          (subst (λ (y : Staged). IsBelow u.path y.path) (sym s) below))

  inside_more : (p u : Staged) → Contains (ss ++ x ∷ []) p → Contains (ss ++ x ∷ []) u → IsInside u.path p
      → u.path ≡ p.path
  inside_more p u a b inside = by (Contains-push_cases ss x p a) (Contains-push_cases ss x u b)
    where
      by : Contains ss p ⊎ (x ≡ p) → Contains ss u ⊎ (x ≡ u) → u.path ≡ p.path
      by (inl c) (inl d) = apart.inside p u c d inside
      by (inl c) (inr s) = absurd (out p c (inr (subst (λ (y : Staged). IsInside y.path p) (sym s) inside)))
      by (inr s) (inl d) = absurd
          (not_after u.path x.path (rise u d) (subst (λ (y : Staged). HasPathPrefix u.path y.path) (sym s) inside.1))
      by (inr s) (inr t) = ap (λ (y : Staged). y.path) (sym t ∙ s)

  pub apart_more : AreDisjointPaths (ss ++ x ∷ [])
  apart_more = record { below = below_more; inside = inside_more }
