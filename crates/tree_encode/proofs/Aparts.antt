-- Paths that begin with others, and the leaves that a later path may begin with.
use Rattle.std.proofs.Common.{◌≡◌, ◌⊎◌, inl, inr, ℕ, List, [], ◌∷◌, ◌++◌, Bool, true, false, All, AllPairs, Contains}
use Rattle.std.proofs.Common.{length, take, drop, get_or, eqb, refl, sym, ap, subst, ◌∙◌, append_assoc, arith}
use Rattle.std.specs.Ordering.{nat_cmp, ordering_then}
use Rattle.std.specs.declared.cmp.Ordering.{Ordering}
use Rattle.std.specs.declared.cmp.Ordering.TheVariants.{Less, Equal, Greater}
use Rattle.std.specs.Cmp.Lexicographic.{pointwise}
use Rattle.std.proofs.lemmas.Bool.Decides.{Decides-eqb}
use Rattle.std.proofs.lemmas.Cmp.{tied_itself, nat_cmp_total, nat_list_cmp_total}
use Rattle.std.proofs.lemmas.List.{append-nil, get_or_append_left, get_or_default, length-append}
use Rattle.std.proofs.lemmas.List.Elements.{All-contains, Contains-append_cases, Contains-append_left, Contains-push}
use Rattle.std.proofs.lemmas.List.Elements.{Contains-push_cases}
use Rattle.std.proofs.lemmas.List.Prefix.{front_rest}
use Rattle.std.proofs.lemmas.List.Quantifiers.{all_pairs_push}
use Rattle.std.proofs.lemmas.Map.Lookups.{exact_unsigned}
use Rattle.std.proofs.lemmas.Slice.Eq.{starts_is}
use Rattle.index_parts.specs.declared.object.tree.EntryKind.TheVariants as kinds
use Rattle.entry_list.specs.Order.{path_cmp}
use Rattle.tree_encode.specs.ApartSteps.{EndsWith}
use Rattle.tree_encode.specs.Refusals.{HasPathPrefix, IsBelow, IsInside, AreDisjointPaths, LiesIn}
use Rattle.tree_encode.specs.Staged.{Staged}

-- Each of these paths is before the path.
abbrev pub Follows : List Staged → List ℕ → Type 0
Follows ss q = (s : Staged) → Contains ss s → path_cmp s.path q ≡ Less

-- Of what is staged so far, these may begin later paths. What isn't among them begins none. Each of them begins those
-- after it. No staged path is inside another.
pub record MayBegin (ss fs : List Staged) : Type 0 where
  pub past : (s : Staged) → Contains ss s → Contains fs s ⊎ ((q : List ℕ) → Follows ss q → HasPathPrefix q s.path → ⊥)
  pub known : (f : Staged) → Contains fs f → Contains ss f
  pub chain : AllPairs (λ f g. HasPathPrefix g.path f.path × (path_cmp f.path g.path ≡ Less)) fs
  pub apart : AreDisjointPaths ss

abbrev pub Path : Type 0
Path = List ℕ

-- ---- a path that begins with another

pub begins_from : (p f : Path) (r : Bool) → r ≡ pointwise eqb f (take (length f) p) → r ≡ true → HasPathPrefix p f
begins_from p f r e t = (drop (length f) p, (starts_is Decides-eqb p f r e).0 t)

pub not_begins : (p f : Path) (r : Bool) → r ≡ pointwise eqb f (take (length f) p) → r ≡ false → HasPathPrefix p f → ⊥
not_begins p f r e t b = let yes : r ≡ true = (starts_is Decides-eqb p f r e).1 b.0 b.1 in absurd (cc (yes, t))

pub below_begins : (p f : Path) → IsBelow p f → HasPathPrefix p f
below_begins p f b = (47 ∷ b.0, b.1)

pub lies_begins : (q : Path) (s : Staged) → LiesIn q s → HasPathPrefix q s.path
lies_begins q s (inl b) = below_begins q s.path b
lies_begins q s (inr b) = b.1

pub not_lies : (q : Path) (s : Staged) → (IsBelow q s.path → ⊥) → (s.kind ≡ kinds.Tree → ⊥) → LiesIn q s → ⊥
not_lies q s n m (inl b) = n b
not_lies q s n m (inr b) = m b.0

-- A path between a path and one that begins with it begins with it too.
pub between : (p q r : Path) → path_cmp p q ≡ Less → path_cmp q r ≡ Less → HasPathPrefix r p → HasPathPrefix q p
between [] q r e d b = (q, refl)
between (x ∷ p) [] r e d b = absurd cc
between (x ∷ p) (y ∷ q) [] e d b = absurd cc
between (x ∷ p) (y ∷ q) (z ∷ r) e d b = by (between p q r) (nat_cmp x y) refl e
  where
    first : z ≡ x
    first = cc (b.1)

    rest : r ≡ p ++ b.0
    rest = cc (b.1)

    same : (path_cmp p q ≡ Less → path_cmp q r ≡ Less → HasPathPrefix r p → HasPathPrefix q p) → x ≡ y
        → path_cmp p q ≡ Less
        → HasPathPrefix (y ∷ q) (x ∷ p)
    same again s less =
        let turned : ordering_then (nat_cmp y z) (path_cmp q r) ≡ Less = d in
        let tie : nat_cmp y z ≡ Equal =
        subst (λ (i : ℕ). nat_cmp y i ≡ Equal) (sym s ∙ sym first) (tied_itself nat_cmp_total y) in
        let below : path_cmp q r ≡ Less = subst (λ (o : Ordering). ordering_then o (path_cmp q r) ≡ Less) tie turned in
        let inner = again less below (b.0, rest) in
        (inner.0, ap (λ (i : ℕ). i ∷ q) (sym s) ∙ ap (λ (l : Path). x ∷ l) inner.1)

    above : nat_cmp x y ≡ Less → ⊥
    above less =
        let turned : ordering_then (nat_cmp y z) (path_cmp q r) ≡ Less = d in
        let more : nat_cmp y z ≡ Greater =
        subst (λ (i : ℕ). nat_cmp y i ≡ Greater) (sym first) (nat_cmp_total.antisymm y x ∙ rw less refl) in
        let wrong : Greater ≡ Less = subst (λ (o : Ordering). ordering_then o (path_cmp q r) ≡ Less) more turned in
        absurd cc

    by : (path_cmp p q ≡ Less → path_cmp q r ≡ Less → HasPathPrefix r p → HasPathPrefix q p) → (o : Ordering)
        → nat_cmp x y ≡ o → ordering_then o (path_cmp p q) ≡ Less → HasPathPrefix (y ∷ q) (x ∷ p)
    by again Less is less = absurd (above is)
    by again Greater is less = absurd cc
    by again Equal is less = same again (exact_unsigned x y is) less

-- A path that begins with another isn't before that.
pub not_after : (p q : Path) → path_cmp p q ≡ Less → HasPathPrefix p q → ⊥
not_after p [] e b = by p e
  where
    by : (l : Path) → path_cmp l [] ≡ Less → ⊥
    by [] d = absurd cc
    by (x ∷ l) d = absurd cc
not_after [] (y ∷ q) e b = absurd (cc (b.1))
not_after (x ∷ p) (y ∷ q) e b =
    let first : x ≡ y = cc (b.1) in
    let rest : p ≡ q ++ b.0 = cc (b.1) in
    let tie : nat_cmp x y ≡ Equal = subst (λ (i : ℕ). nat_cmp x i ≡ Equal) first (tied_itself nat_cmp_total x) in
    let turned : ordering_then (nat_cmp x y) (path_cmp p q) ≡ Less = e in
    let less : path_cmp p q ≡ Less = subst (λ (o : Ordering). ordering_then o (path_cmp p q) ≡ Less) tie turned in
    not_after p q less (b.0, rest)

-- A path that begins one below `p`, and begins with `p`, is `p` itself or is below it.
pub below_or_same : (p top q t s : Path) → top ≡ p ++ t → q ≡ top ++ s → IsBelow q p → (top ≡ p) ⊎ IsBelow top p
below_or_same p top q t s a b h = by t a
  where
    by : (l : Path) → top ≡ p ++ l → (top ≡ p) ⊎ IsBelow top p
    by [] e = inl (e ∙ append-nil p)
    by (c ∷ l) e =
        let whole : p ++ (c ∷ (l ++ s)) ≡ p ++ 47 ∷ h.0 =
        sym (append_assoc p (c ∷ l) s) ∙ ap (λ (x : Path). x ++ s) (sym e) ∙ sym b ∙ h.1 in
        let rest : c ∷ (l ++ s) ≡ 47 ∷ h.0 = sym (front_rest (p ++ (c ∷ (l ++ s))) p (c ∷ (l ++ s)) refl)
        ∙ ap (drop (length p)) whole ∙ front_rest (p ++ 47 ∷ h.0) p (47 ∷ h.0) refl in
        let slash : c ≡ 47 = cc (rest) in
        inr (l, e ∙ ap (λ (i : ℕ). p ++ i ∷ l) slash)

-- ---- what is kept of the leaves so far

no_element : (x : Staged) → Contains [] x → ⊥
no_element x c = absurd (omega (arith, c.1))

pub kept_none : MayBegin [] []
kept_none = record {
  past = λ p c. absurd (no_element p c);
  known = λ f c. absurd (no_element f c);
  chain = λ i j d lt within. absurd (omega (arith, within));
  apart = record { below = λ s t a b h. absurd (no_element s a); inside = λ s t a b h. absurd (no_element s a) };
}

pairs_front : (R : Staged → Staged → Type 0) (xs ys : List Staged) → AllPairs R (xs ++ ys) → AllPairs R xs
pairs_front R xs ys h i j d lt within =
    let a : get_or (xs ++ ys) i d ≡ get_or xs i d = get_or_append_left xs ys d i (omega (arith, lt, within)) in
    let b : get_or (xs ++ ys) j d ≡ get_or xs j d = get_or_append_left xs ys d j within in
    subst (λ (y : Staged). R (get_or xs i d) y) b (subst (λ (x : Staged). R x (get_or (xs ++ ys) j d)) a
    (h i j d lt (omega (arith, within, length-append xs ys))))

last_at : (xs : List Staged) (y d : Staged) → get_or (xs ++ y ∷ []) (length xs) d ≡ y
last_at [] y d = refl
last_at (x ∷ xs) y d = last_at xs y d

pub pairs_last : (R : Staged → Staged → Type 0) (xs : List Staged) (y x : Staged) → AllPairs R (xs ++ y ∷ [])
    → Contains xs x → R x y
pairs_last R xs y x h c =
    let a : get_or (xs ++ y ∷ []) c.0 x ≡ x = get_or_append_left xs (y ∷ []) x c.0 c.1 ∙ c.2 in
    subst (λ (z : Staged). R x z) (last_at xs y x) (subst (λ (z : Staged). R z (get_or (xs ++ y ∷ []) (length xs) x)) a
    (h c.0 (length xs) x c.1 (omega (arith, length-append xs (y ∷ [])))))

abbrev Chained : Staged → Staged → Type 0
Chained f g = HasPathPrefix g.path f.path × (path_cmp f.path g.path ≡ Less)

-- What is left before a path: nothing, or the path begins with the last of it, but isn't inside that.
abbrev pub Last : List Staged → Path → Type 0
Last fs q = (fs ≡ []) ⊎ EndsWith fs (λ f. HasPathPrefix q f.path × (LiesIn q f → ⊥))

apart_itself : (p q : Path) → path_cmp p q ≡ Less → q ≡ p → ⊥
apart_itself p q e s =
    let less : path_cmp p p ≡ Less = subst (λ (x : Path). path_cmp p x ≡ Less) s e in
    let tie = tied_itself nat_list_cmp_total p in
    absurd (cc (tie, less))

module _ (ss fs kept gone : List Staged) (x : Staged) (h : MayBegin ss fs) (parts : fs ≡ kept ++ gone)
    (taken : All (λ f. HasPathPrefix x.path f.path → ⊥) gone) (last : Last kept x.path) (rise : Follows ss x.path) where
  abbrev q : Path
  q = x.path

  in_staged : (f : Staged) → Contains kept f → Contains ss f
  in_staged f c = h.known f (subst (λ (l : List Staged). Contains l f) (sym parts) (Contains-append_left kept gone f c))

  chained : AllPairs Chained kept
  chained = pairs_front Chained kept gone (subst (AllPairs Chained) parts h.chain)

  -- the path begins with each that is kept
  begins_each : Last kept q → (f : Staged) → Contains kept f → HasPathPrefix q f.path
  begins_each (inl e) f c = absurd (no_element f (subst (λ (l : List Staged). Contains l f) e c))
  begins_each (inr e) f c = by (Contains-push_cases e.0 e.1 f (subst (λ (l : List Staged). Contains l f) e.2 c))
    where
      by : Contains e.0 f ⊎ (e.1 ≡ f) → HasPathPrefix q f.path
      by (inr s) = subst (λ (g : Staged). HasPathPrefix q g.path) s e.3.0
      by (inl d) =
          let up = (pairs_last Chained e.0 e.1 f (subst (AllPairs Chained) e.2 chained) d).0 in
          (up.0 ++ e.3.0.0, e.3.0.1 ∙ ap (λ (l : Path). l ++ e.3.0.0) up.1 ∙ append_assoc f.path up.0 e.3.0.0)

  not_in_kept : Last kept q → (f : Staged) → Contains kept f → LiesIn q f → ⊥
  not_in_kept (inl e) f c b = no_element f (subst (λ (l : List Staged). Contains l f) e c)
  not_in_kept (inr e) f c b = by (Contains-push_cases e.0 e.1 f (subst (λ (l : List Staged). Contains l f) e.2 c)) b
    where
      top_kept : Contains kept e.1
      top_kept = subst (λ (l : List Staged). Contains l e.1) (sym e.2) (Contains-push e.0 e.1)

      by : Contains e.0 f ⊎ (e.1 ≡ f) → LiesIn q f → ⊥
      by (inr s) l = e.3.1 (subst (LiesIn q) (sym s) l)
      by (inl d) (inl l) =
          let up = pairs_last Chained e.0 e.1 f (subst (AllPairs Chained) e.2 chained) d in
          split (below_or_same f.path e.1.path q up.0.0 e.3.0.0 up.0.1 e.3.0.1 l) up.1
        where
          split : (e.1.path ≡ f.path) ⊎ IsBelow e.1.path f.path → path_cmp f.path e.1.path ≡ Less → ⊥
          split (inl s) less = apart_itself f.path e.1.path less s
          split (inr m) less = h.apart.below f e.1 (in_staged f c) (in_staged e.1 top_kept) m
      by (inl d) (inr l) =
          let up = pairs_last Chained e.0 e.1 f (subst (AllPairs Chained) e.2 chained) d in
          apart_itself f.path e.1.path up.1 (h.apart.inside f e.1 (in_staged f c) (in_staged e.1 top_kept) (l.0, up.0))

  not_in : (p : Staged) → Contains ss p → LiesIn q p → ⊥
  not_in p c b = by (h.past p c)
    where
      held : Contains kept p ⊎ Contains gone p → ⊥
      held (inl d) = not_in_kept last p d b
      held (inr d) = All-contains (λ f. HasPathPrefix q f.path → ⊥) gone p taken d (lies_begins q p b)

      by : Contains fs p ⊎ ((r : Path) → Follows ss r → HasPathPrefix r p.path → ⊥) → ⊥
      by (inl d) = held (Contains-append_cases kept gone p (subst (λ (l : List Staged). Contains l p) parts d))
      by (inr d) = d q rise (lies_begins q p b)

  before : (r : Path) → Follows (ss ++ x ∷ []) r → Follows ss r
  before r f p c = f p (Contains-append_left ss (x ∷ []) p c)

  past_more : (p : Staged) → Contains (ss ++ x ∷ []) p
      → Contains (kept ++ x ∷ []) p ⊎ ((r : Path) → Follows (ss ++ x ∷ []) r → HasPathPrefix r p.path → ⊥)
  past_more p c = by (Contains-push_cases ss x p c)
    where
      held : Contains ss p → Contains kept p ⊎ Contains gone p
          → Contains (kept ++ x ∷ []) p ⊎ ((r : Path) → Follows (ss ++ x ∷ []) r → HasPathPrefix r p.path → ⊥)
      held a (inl d) = inl (Contains-append_left kept (x ∷ []) p d)
      held a (inr d) = inr (λ r f b. All-contains (λ f. HasPathPrefix q f.path → ⊥) gone p taken d
          (between p.path q r (rise p a) (f x (Contains-push ss x)) b))

      old : Contains ss p → Contains fs p ⊎ ((r : Path) → Follows ss r → HasPathPrefix r p.path → ⊥)
          → Contains (kept ++ x ∷ []) p ⊎ ((r : Path) → Follows (ss ++ x ∷ []) r → HasPathPrefix r p.path → ⊥)
      old a (inl d) = held a (Contains-append_cases kept gone p (subst (λ (l : List Staged). Contains l p) parts d))
      old a (inr d) = inr (λ r f b. d r (before r f) b)

      by : Contains ss p ⊎ (x ≡ p)
          → Contains (kept ++ x ∷ []) p ⊎ ((r : Path) → Follows (ss ++ x ∷ []) r → HasPathPrefix r p.path → ⊥)
      by (inl a) = old a (h.past p a)
      by (inr s) = inl (subst (Contains (kept ++ x ∷ [])) s (Contains-push kept x))

  known_more : (f : Staged) → Contains (kept ++ x ∷ []) f → Contains (ss ++ x ∷ []) f
  known_more f c = by (Contains-push_cases kept x f c)
    where
      by : Contains kept f ⊎ (x ≡ f) → Contains (ss ++ x ∷ []) f
      by (inl d) = Contains-append_left ss (x ∷ []) f (in_staged f d)
      by (inr s) = subst (Contains (ss ++ x ∷ [])) s (Contains-push ss x)

  below_more : (p u : Staged) → Contains (ss ++ x ∷ []) p → Contains (ss ++ x ∷ []) u → IsBelow u.path p.path → ⊥
  below_more p u a b below = by (Contains-push_cases ss x p a) (Contains-push_cases ss x u b)
    where
      longer : (f : Path) → IsBelow f f → ⊥
      longer f d = omega (arith, ap length d.1, length-append f (47 ∷ d.0))

      by : Contains ss p ⊎ (x ≡ p) → Contains ss u ⊎ (x ≡ u) → ⊥
      by (inl c) (inl d) = h.apart.below p u c d below
      by (inl c) (inr s) = not_in p c (inl (subst (λ (y : Staged). IsBelow y.path p.path) (sym s) below))
      by (inr s) (inl d) = not_after u.path q (rise u d)
          (below_begins u.path q (subst (λ (y : Staged). IsBelow u.path y.path) (sym s) below))
      by (inr s) (inr t) = longer q (subst (λ (y : Staged). IsBelow y.path q) (sym t)
          (subst (λ (y : Staged). IsBelow u.path y.path) (sym s) below))

  inside_more : (p u : Staged) → Contains (ss ++ x ∷ []) p → Contains (ss ++ x ∷ []) u → IsInside u.path p
      → u.path ≡ p.path
  inside_more p u a b inside = by (Contains-push_cases ss x p a) (Contains-push_cases ss x u b)
    where
      by : Contains ss p ⊎ (x ≡ p) → Contains ss u ⊎ (x ≡ u) → u.path ≡ p.path
      by (inl c) (inl d) = h.apart.inside p u c d inside
      by (inl c) (inr s) = absurd (not_in p c (inr (subst (λ (y : Staged). IsInside y.path p) (sym s) inside)))
      by (inr s) (inl d) =
          absurd (not_after u.path q (rise u d) (subst (λ (y : Staged). HasPathPrefix u.path y.path) (sym s) inside.1))
      by (inr s) (inr t) = ap (λ (y : Staged). y.path) (sym t ∙ s)

  pub kept_more : MayBegin (ss ++ x ∷ []) (kept ++ x ∷ [])
  kept_more = record {
    past = past_more;
    known = known_more;
    chain = all_pairs_push Chained kept x chained (λ k d within.
        let f = get_or kept k d in
        let c : Contains kept f = (k, within, get_or_default kept k f d within) in
        (begins_each last f c, rise f (in_staged f c)));
    apart = record { below = below_more; inside = inside_more };
  }
