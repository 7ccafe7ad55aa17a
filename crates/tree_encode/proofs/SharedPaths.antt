-- Paths that go through the directories of one that is right.
use Rattle.std.proofs.Common.{◌≡◌, ◌⊎◌, inl, inr, ℕ, zero, suc, ◌+◌, ◌-◌, ◌<◌, ◌≤◌, ◌==◌, List, [], ◌∷◌, ◌++◌, All, Bool, true}
use Rattle.std.proofs.Common.{false, Contains, Option, Some, None, IfSome, map, length, take, drop, get_or, refl, sym}
use Rattle.std.proofs.Common.{ap, subst, ◌∙◌, append_assoc, arith}
use Rattle.std.specs.Prelude.{◌≢◌, cond, count_by}
use Rattle.std.specs.List.{HoldsAt}
use Rattle.std.proofs.lemmas.Bool.{eqb-false, eqb-true}
use Rattle.std.proofs.lemmas.List.{length-append, length-drop, map-append, take-append-drop, take_more}
use Rattle.std.proofs.lemmas.List.Sums.{sum_by-cons}
use Rattle.std.proofs.lemmas.List.Elements.{All-cons, All-contains, All-head, All-nil, All-tail}
use Rattle.std.proofs.lemmas.List.Elements.{Contains-push}
use Rattle.index_parts.specs.NameCheck.{refusal_as}
use Rattle.index_parts.specs.declared.object.tree.EntryKind.{EntryKind}
use Rattle.index_parts.specs.declared.object.tree.EntryKind.TheVariants as kinds
use Rattle.index_parts.specs.declared.hash.Kind.{Kind}
use Rattle.entry_list.specs.Record.{Record}
use Rattle.tree_encode.specs.ApartSteps.{EndsWith}
use Rattle.tree_encode.specs.Directory.{IsPathComponent}
use Rattle.tree_encode.specs.Refusals.{NameCheck, IsTreeRecord, IsMisnamed, IsTreePath, of_file, of_directory}
use Rattle.tree_encode.specs.Refusals.{beneath, later_name}
use Rattle.tree_encode.specs.SharedSteps.{IsCheckPassed}
use Rattle.tree_encode.specs.Staged.{Staged, staged_in, staged_of}
use Rattle.tree_encode.specs.TreeIdsSteps.{parent_path}
use Rattle.tree_encode.specs.declared.error.NameFault.{NameFault}
use Rattle.tree_encode.specs.declared.leaf.Leaf.{Leaf}
use Rattle.tree_encode.proofs.Aparts.{MayBegin}
use Rattle.tree_encode.proofs.PathNames.{NoSlash, first_slash, no_slash_in}
use Rattle.tree_encode.proofs.Whole.{each_path}

-- ---- fewer bytes that are alike

pub fewer : (m n : ℕ) (xs ys : List ℕ) → n ≤ m → take m xs ≡ take m ys → take n xs ≡ take n ys
fewer m zero xs ys le e = refl
fewer zero (suc n) xs ys le e = absurd (omega (arith, le))
fewer (suc m) (suc n) [] [] le e = refl
fewer (suc m) (suc n) [] (y ∷ ys) le e = absurd cc
fewer (suc m) (suc n) (x ∷ xs) [] le e = absurd cc
fewer (suc m) (suc n) (x ∷ xs) (y ∷ ys) le e =
    let head : x ≡ y = cc in
    let tail : take m xs ≡ take m ys = cc in
    rw (head, fewer m n xs ys (omega (arith, le)) tail) refl

-- ---- the names of what ends with a slash

abbrev pub is_slash : ℕ → Bool
is_slash b = b == 47

count_more : (b : ℕ) (bs : List ℕ) (t : Bool) → (b == 47) ≡ t
    → count_by is_slash (b ∷ bs) ≡ cond t 1 0 + count_by is_slash bs
count_more b bs t e =
    sum_by-cons (λ (x : ℕ). cond (is_slash x) 1 0) b bs ∙ ap (λ (u : Bool). cond u 1 0 + count_by is_slash bs) e

record AreNamesOf (path : List ℕ) : Type 0 where
  pub names : List (List ℕ)
  pub joined : path ≡ parent_path names
  pub apart : All NoSlash names
  pub count : count_by is_slash path ≡ length names

names_of : (g : List ℕ) → AreNamesOf (g ++ 47 ∷ [])
names_of [] = record {
  names = [] ∷ [];
  joined = refl;
  apart = All-cons NoSlash [] [] (All-nil (λ b. b ≢ 47)) (All-nil NoSlash);
  count = refl;
}
names_of (b ∷ g) = by (b == 47) refl (names_of g)
  where
    more : (b == 47) ≡ false → (names : List (List ℕ)) → g ++ 47 ∷ [] ≡ parent_path names → All NoSlash names
        → count_by is_slash (g ++ 47 ∷ []) ≡ length names → AreNamesOf (b ∷ (g ++ 47 ∷ []))
    more e [] joined apart count =
        absurd (omega (arith, ap length joined, length-append g (47 ∷ [])))
    more e (name ∷ names) joined apart count = record {
      names = (b ∷ name) ∷ names;
      joined = ap (λ (l : List ℕ). b ∷ l) joined;
      apart = All-cons NoSlash (b ∷ name) names
          (All-cons (λ b. b ≢ 47) b name (eqb-false b 47 e) (All-head NoSlash name names apart))
          (All-tail NoSlash name names apart);
      count = omega (arith, count, count_more b (g ++ 47 ∷ []) false e);
    }

    by : (t : Bool) → (b == 47) ≡ t → AreNamesOf (g ++ 47 ∷ []) → AreNamesOf (b ∷ (g ++ 47 ∷ []))
    by true e h = record {
      names = [] ∷ h.names;
      joined = ap (λ (n : ℕ). n ∷ (g ++ 47 ∷ [])) (eqb-true b 47 e) ∙ ap (λ (l : List ℕ). 47 ∷ l) h.joined;
      apart = All-cons NoSlash [] h.names (All-nil (λ b. b ≢ 47)) h.apart;
      count = omega (arith, h.count, count_more b (g ++ 47 ∷ []) true e);
    }
    by false e h = more e h.names h.joined h.apart h.count

-- ---- what follows valid names

module _ (check : NameCheck) where
  -- The first name, and what follows it.
  record IsUnder (levels : ℕ) (k : EntryKind) (name rest : List ℕ) : Type 0 where
    pub named : IsPathComponent name
    pub passes : refusal_as check name kinds.Tree ≡ None
    pub below : ℕ
    pub is : levels ≡ suc below
    pub path : IsTreePath check below k rest ⊎ (rest ≡ [])

  under : (levels : ℕ) (k : EntryKind) (path name rest : List ℕ) → path ≡ name ++ 47 ∷ rest → NoSlash name
      → IsTreePath check levels k path → IsUnder levels k name rest
  under levels k path name rest e s (of_file l j n t m r) = absurd (no_slash_in n name rest m.component e)
  under levels k path name rest e s (of_directory l n m r) =
      let f = first_slash n name [] rest m.component s e in
      record {
        named = subst IsPathComponent f.0 m;
        passes = subst (λ (x : List ℕ). refusal_as check x kinds.Tree ≡ None) f.0 r;
        below = l;
        is = refl;
        path = inr (sym f.1);
      }
  under levels k path name rest e s (beneath l j n more m r h) =
      let f = first_slash n name more rest m.component s e in
      record {
        named = subst IsPathComponent f.0 m;
        passes = subst (λ (x : List ℕ). refusal_as check x kinds.Tree ≡ None) f.0 r;
        below = l;
        is = refl;
        path = inl (subst (IsTreePath check l j) f.1 h);
      }

  -- If a path after a front is valid below fewer levels, so is the complete path. If it is misnamed and not empty, the
  -- complete path has the same error.
  pub record Decides (levels count : ℕ) (front : List ℕ) : Type 0 where
    pub fits : count ≤ levels
    pub right : (k : EntryKind) (rest : List ℕ) → IsTreePath check (levels - count) k rest
        → IsTreePath check levels k (front ++ rest)
    pub wrong : (k : EntryKind) (rest : List ℕ) (f : NameFault) → rest ≢ []
        → IsMisnamed check (levels - count) k rest f → IsMisnamed check levels k (front ++ rest) f

  decides_none : (levels : ℕ) → Decides levels 0 []
  decides_none levels =
      let all : levels - 0 ≡ levels = omega arith in
      record {
        fits = omega arith;
        right = λ k rest h. subst (λ (l : ℕ). IsTreePath check l k rest) all h;
        wrong = λ k rest f some h. subst (λ (l : ℕ). IsMisnamed check l k rest f) all h;
      }

  decides_more : (levels below count : ℕ) (name front : List ℕ) → levels ≡ suc below → IsPathComponent name
      → refusal_as check name kinds.Tree ≡ None → Decides below count front
      → Decides levels (suc count) (name ++ 47 ∷ front)
  decides_more levels below count name front is named passes h =
      let n : levels - suc count ≡ below - count = omega (arith, is) in
      record {
        fits = omega (arith, is, h.fits);
        right = λ k rest p. subst (λ (l : ℕ). IsTreePath check l k ((name ++ 47 ∷ front) ++ rest)) (sym is)
            (subst (IsTreePath check (suc below) k) (sym (append_assoc name (47 ∷ front) rest))
            (beneath below k name (front ++ rest) named passes
            (h.right k rest (subst (λ (l : ℕ). IsTreePath check l k rest) n p))));
        wrong = λ k rest f some p.
            let more : front ++ rest ≢ [] =
            λ z. absurd (length_some rest some (omega (arith, ap length z, length-append front rest))) in
            subst (λ (l : ℕ). IsMisnamed check l k ((name ++ 47 ∷ front) ++ rest) f) (sym is)
            (subst (λ (x : List ℕ). IsMisnamed check (suc below) k x f) (sym (append_assoc name (47 ∷ front) rest))
            (later_name below k name (front ++ rest) f named passes (inr more)
            (h.wrong k rest f some (subst (λ (l : ℕ). IsMisnamed check l k rest f) n p))));
      }
    where
      length_some : (l : List ℕ) → l ≢ [] → length l ≡ 0 → ⊥
      length_some [] some z = some refl
      length_some (b ∷ l) some z = absurd (omega (arith, z))

  decides : (names : List (List ℕ)) (levels : ℕ) (k : EntryKind) (x : List ℕ) → All NoSlash names
      → IsTreePath check levels k (parent_path names ++ x) → Decides levels (length names) (parent_path names)
  decides [] levels k x s h = decides_none levels
  decides (name ∷ names) levels k x s h =
      let u = under levels k (parent_path (name ∷ names) ++ x) name (parent_path names ++ x)
      (append_assoc name (47 ∷ parent_path names) x) (All-head NoSlash name names s) h in
      decides_more levels u.below (length names) name (parent_path names) u.is u.named u.passes
      (by names u.below (λ l p. decides names u.below l x (All-tail NoSlash name names s) p) u.path)
    where
      by : (names : List (List ℕ)) (below : ℕ)
          → ((l : EntryKind) → IsTreePath check below l (parent_path names ++ x)
          → Decides below (length names) (parent_path names))
          → IsTreePath check below k (parent_path names ++ x) ⊎ (parent_path names ++ x ≡ [])
          → Decides below (length names) (parent_path names)
      by names below again (inl p) = again k p
      by [] below again (inr z) = decides_none below
      by (m ∷ ms) below again (inr z) = absurd (omega (
        arith,
        ap length z,
        length-append (m ++ 47 ∷ parent_path ms) x,
        length-append m (47 ∷ parent_path ms),
      ))

  -- ---- what two paths share

  module _ (levels n : ℕ) (before path : List ℕ) (passed : IsCheckPassed check levels before)
      (same : take n path ≡ take n before)
      (slash : (n ≡ 0) ⊎ ((n < length path) × HoldsAt (λ b. b ≡ 47) path (n - 1))) where
    abbrev front : List ℕ
    front = take n path

    abbrev rest : List ℕ
    rest = drop n path

    shared : (m : ℕ) → m ≡ n → Decides levels (count_by is_slash front) front
    shared zero e = subst (λ (i : ℕ). Decides levels (count_by is_slash (take i path)) (take i path)) e
        (decides_none levels)
    shared (suc m) e = subst (λ (i : ℕ). Decides levels (count_by is_slash (take i path)) (take i path)) e
        (by slash)
      where
        by : (n ≡ 0) ⊎ ((n < length path) × HoldsAt (λ b. b ≡ 47) path (n - 1))
            → Decides levels (count_by is_slash (take (suc m) path)) (take (suc m) path)
        by (inl z) = absurd (omega (arith, e, z))
        by (inr s) =
            let inside : m < length path = omega (arith, e, s.0) in
            let one : m + 1 ≡ suc m = omega arith in
            let last : n - 1 ≡ m = omega (arith, e) in
            let is : get_or path m 0 ≡ 47 = ap (λ (i : ℕ). get_or path i 0) (sym last) ∙ s.1 0 in
            let ends : take m path ++ 47 ∷ [] ≡ take (suc m) path =
            ap (λ (b : ℕ). take m path ++ b ∷ []) (sym is) ∙ sym (take_more path m 0 inside)
            ∙ ap (λ (i : ℕ). take i path) one in
            let a = subst AreNamesOf ends (names_of (take m path)) in
            let own : take (suc m) path ≡ take (suc m) before =
            subst (λ (i : ℕ). take i path ≡ take i before) (sym e) same in
            from a own inside passed
          where
            from : (a : AreNamesOf (take (suc m) path)) → take (suc m) path ≡ take (suc m) before → m < length path
                → IsCheckPassed check levels before
                → Decides levels (count_by is_slash (take (suc m) path)) (take (suc m) path)
            from a own inside (inl z) = absurd (clash path own inside)
              where
                clash : (p : List ℕ) → take (suc m) p ≡ take (suc m) before → m < length p → ⊥
                clash [] d lt = absurd (omega (arith, lt))
                clash (b ∷ p) d lt = absurd (cc (d, ap (take (suc m)) z))
            from a own inside (inr h) =
                let whole : before ≡ parent_path a.names ++ drop (suc m) before =
                sym (take-append-drop (suc m) before)
                ∙ ap (λ (l : List ℕ). l ++ drop (suc m) before) (sym own ∙ a.joined) in
                let d = decides a.names levels h.0 (drop (suc m) before) a.apart
                (subst (IsTreePath check levels h.0) whole h.1) in
                subst (λ (c : ℕ). Decides levels c (take (suc m) path)) (sym a.count)
                (subst (Decides levels (length a.names)) (sym a.joined) d)

    whole : front ++ rest ≡ path
    whole = take-append-drop n path

    pub count_fits : count_by is_slash front ≤ levels
    count_fits = (shared n refl).fits

    pub right_whole : (k : EntryKind) → IsTreePath check (levels - count_by is_slash front) k rest
        → IsTreePath check levels k path
    right_whole k h = subst (IsTreePath check levels k) whole ((shared n refl).right k rest h)

    wrong_whole : (k : EntryKind) (f : NameFault) → IsMisnamed check (levels - count_by is_slash front) k rest f
        → IsMisnamed check levels k path f
    wrong_whole k f h = by slash
      where
        none : (m : ℕ) → m ≡ 0 → IsMisnamed check (levels - count_by is_slash (take m path)) k (drop m path) f
            → IsMisnamed check levels k path f
        none zero e p =
            let all : levels - 0 ≡ levels = omega arith in
            subst (λ (l : ℕ). IsMisnamed check l k path f) all p
        none (suc m) e p = absurd (omega (arith, e))

        by : (n ≡ 0) ⊎ ((n < length path) × HoldsAt (λ b. b ≡ 47) path (n - 1)) → IsMisnamed check levels k path f
        by (inl z) = none n z h
        by (inr s) = subst (λ (p : List ℕ). IsMisnamed check levels k p f) whole
            ((shared n refl).wrong k rest f (λ z. absurd (omega (arith, s.0, ap length z, length-drop n path))) h)

    pub wrong_some : (k : EntryKind) (o : Option NameFault)
        → IfSome o (IsMisnamed check (levels - count_by is_slash front) k rest)
        → IfSome o (IsMisnamed check levels k path)
    wrong_some k None h = tt
    wrong_some k (Some f) h = wrong_whole k f h

-- ---- the path before

-- that of the last leaf that is kept is the path of a record so far
pub last_passed : (check : NameCheck) (kind : Kind) (rs : List Record) (ls : List Leaf) (path : List ℕ)
    → All (IsTreeRecord check kind) rs → MayBegin (staged_in rs) (map staged_of ls)
    → (path ≡ []) ⊎ EndsWith ls (λ f. f.path.now ≡ path) → IsCheckPassed check 2048 path
last_passed check kind rs ls path fit kept (inl z) = inl z
last_passed check kind rs ls path fit kept (inr e) =
    let c : Contains (staged_in rs) (staged_of e.1) = kept.known (staged_of e.1)
    (subst (λ (l : List Leaf). Contains (map staged_of l) (staged_of e.1)) (sym e.2)
    (subst (λ (l : List Staged). Contains l (staged_of e.1)) (sym (map-append staged_of e.0 (e.1 ∷ [])))
    (Contains-push (map staged_of e.0) (staged_of e.1)))) in
    inr (
      e.1.kind,
      subst (IsTreePath check 2048 e.1.kind) e.3
          (All-contains (λ s. IsTreePath check 2048 s.kind s.path) (staged_in rs) (staged_of e.1)
          (each_path check kind rs fit) c),
    )
