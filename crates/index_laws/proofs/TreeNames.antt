-- Each path is made of names, or has one first fault.
use Rattle.std.proofs.Common.{◌≡◌, ◌⊎◌, inl, inr, ℕ, zero, suc, List, [], ◌∷◌, ◌++◌, All, Bool, true, false, ◌==◌}
use Rattle.std.proofs.Common.{Option, Some, None, refl, sym, ap, subst, ◌∙◌, arith}
use Rattle.std.specs.Prelude.{◌≢◌}
use Rattle.std.proofs.lemmas.Bool.{eqb-false, eqb-true}
use Rattle.std.proofs.lemmas.List.Elements.{All-cons, All-head, All-nil, All-tail}
use Rattle.std.proofs.lemmas.Option.{same_Some}
use Rattle.index_parts.specs.declared.object.tree.EntryKind.{EntryKind}
use Rattle.index_parts.specs.declared.object.tree.EntryKind.TheVariants as kinds
use Rattle.index_parts.specs.NameCheck.{refusal_as}
use Rattle.tree_encode.specs.Directory.{IsPathComponent}
use Rattle.tree_encode.specs.Refusals.{NameCheck, IsBadName, IsMisnamed, IsTreePath, of_file, of_directory, beneath}
use Rattle.tree_encode.specs.Refusals.{last_name, some_name, no_slash, deep, later_name}
use Rattle.tree_encode.specs.declared.error.NameFault.{NameFault}
use Rattle.tree_encode.specs.declared.error.NameFault.TheVariants as faults
use Rattle.tree_encode.proofs.PathNames.{NoSlash, bad_front, first_slash, no_slash_in, path_whole, too_deep}

-- ---- one or another

pub same_or_other : (a b : ℕ) → (a ≡ b) ⊎ (a ≡ b → ⊥)
same_or_other a b = by (a == b) refl
  where
    by : (r : Bool) → (a == b) ≡ r → (a ≡ b) ⊎ (a ≡ b → ⊥)
    by true e = inl (eqb-true a b e)
    by false e = inr (eqb-false a b e)

pub tree_or_file : (k : EntryKind) → (k ≡ kinds.Tree) ⊎ (k ≡ kinds.Tree → ⊥)
tree_or_file kinds.Tree = inl refl
tree_or_file kinds.Blob = inr (λ e. absurd cc)
tree_or_file kinds.BlobExecutable = inr (λ e. absurd cc)
tree_or_file kinds.Link = inr (λ e. absurd cc)
tree_or_file kinds.Commit = inr (λ e. absurd cc)

none_or_some : (l : List ℕ) → (l ≡ []) ⊎ (l ≡ [] → ⊥)
none_or_some [] = inl refl
none_or_some (c ∷ l) = inr (λ e. absurd cc)

-- a path up to its first slash, and after it
abbrev IsCutAt : List ℕ → Type 0
IsCutAt path = (name rest : List ℕ) × NoSlash name × (path ≡ name ++ 47 ∷ rest)

cut_path : (path : List ℕ) → NoSlash path ⊎ IsCutAt path
cut_path [] = inl (All-nil (λ b. b ≢ 47))
cut_path (c ∷ path) = by (same_or_other c 47) (cut_path path)
  where
    by : (c ≡ 47) ⊎ (c ≡ 47 → ⊥) → NoSlash path ⊎ IsCutAt path → NoSlash (c ∷ path) ⊎ IsCutAt (c ∷ path)
    by (inl e) r = inr ([], path, All-nil (λ b. b ≢ 47), ap (λ (b : ℕ). b ∷ path) e)
    by (inr o) (inl h) = inl (All-cons (λ b. b ≢ 47) c path o h)
    by (inr o) (inr s) = inr (c ∷ s.0, s.1, All-cons (λ b. b ≢ 47) c s.0 o s.2, ap (λ (l : List ℕ). c ∷ l) s.3)

no_nul : (name : List ℕ) → All (λ b. b ≢ 0) name ⊎ (All (λ b. b ≢ 0) name → ⊥)
no_nul [] = inl (All-nil (λ b. b ≢ 0))
no_nul (c ∷ name) = by (same_or_other c 0) (no_nul name)
  where
    by : (c ≡ 0) ⊎ (c ≡ 0 → ⊥) → All (λ b. b ≢ 0) name ⊎ (All (λ b. b ≢ 0) name → ⊥)
        → All (λ b. b ≢ 0) (c ∷ name) ⊎ (All (λ b. b ≢ 0) (c ∷ name) → ⊥)
    by (inl e) r = inr (λ h. All-head (λ b. b ≢ 0) c name h e)
    by (inr o) (inl h) = inl (All-cons (λ b. b ≢ 0) c name o h)
    by (inr o) (inr n) = inr (λ h. n (All-tail (λ b. b ≢ 0) c name h))

-- ---- names

-- a name that the check lets pass
abbrev IsGood : NameCheck → List ℕ → EntryKind → Type 0
IsGood check name k = IsPathComponent name × (refusal_as check name k ≡ None)

abbrev HasBad : NameCheck → List ℕ → EntryKind → Type 0
HasBad check name k = (f : NameFault) × IsBadName check name k f

good_or_bad : (check : NameCheck) (name : List ℕ) (k : EntryKind) → NoSlash name
    → IsGood check name k ⊎ HasBad check name k
good_or_bad check [] k h = inr (faults.Empty, refl)
good_or_bad check (c ∷ name) k h = by (no_nul (c ∷ name)) (refusal_as check (c ∷ name) k) refl
  where
    named : All (λ b. b ≢ 0) (c ∷ name) → IsPathComponent (c ∷ name)
    named a = record { some = λ e. absurd cc; apart = a; component = h }

    by : All (λ b. b ≢ 0) (c ∷ name) ⊎ (All (λ b. b ≢ 0) (c ∷ name) → ⊥) → (o : Option ℕ)
        → refusal_as check (c ∷ name) k ≡ o → IsGood check (c ∷ name) k ⊎ HasBad check (c ∷ name) k
    by (inr n) o e = inr (faults.Nul, n)
    by (inl a) None e = inl (named a, e)
    by (inl a) (Some number) e = inr (faults.Refused number, (named a, e))

good_not_bad : (check : NameCheck) (name : List ℕ) (k : EntryKind) (f : NameFault) → IsGood check name k
    → IsBadName check name k f → ⊥
good_not_bad check name k faults.Empty g b = g.0.some b
good_not_bad check name k faults.Nul g b = b g.0.apart
good_not_bad check name k (faults.Refused number) g b = let e : None ≡ Some number = sym g.1 ∙ b.1 in absurd cc
good_not_bad check name k faults.NoSlash g b = b
good_not_bad check name k faults.TooDeep g b = b

one_bad : (check : NameCheck) (name : List ℕ) (k : EntryKind) (f g : NameFault) → IsBadName check name k f
    → IsBadName check name k g → f ≡ g
one_bad check name k faults.Empty faults.Empty a b = refl
one_bad check name k faults.Empty faults.Nul a b = absurd (b (subst (All (λ c. c ≢ 0)) (sym a) (All-nil (λ c. c ≢ 0))))
one_bad check name k faults.Empty (faults.Refused m) a b = absurd (b.0.some a)
one_bad check name k faults.Empty faults.NoSlash a b = absurd b
one_bad check name k faults.Empty faults.TooDeep a b = absurd b
one_bad check name k faults.Nul faults.Empty a b = absurd (a (subst (All (λ c. c ≢ 0)) (sym b) (All-nil (λ c. c ≢ 0))))
one_bad check name k faults.Nul faults.Nul a b = refl
one_bad check name k faults.Nul (faults.Refused m) a b = absurd (a b.0.apart)
one_bad check name k faults.Nul faults.NoSlash a b = absurd b
one_bad check name k faults.Nul faults.TooDeep a b = absurd b
one_bad check name k (faults.Refused n) faults.Empty a b = absurd (a.0.some b)
one_bad check name k (faults.Refused n) faults.Nul a b = absurd (b a.0.apart)
one_bad check name k (faults.Refused n) (faults.Refused m) a b = ap faults.Refused (same_Some n m (sym a.1 ∙ b.1))
one_bad check name k (faults.Refused n) faults.NoSlash a b = absurd b
one_bad check name k (faults.Refused n) faults.TooDeep a b = absurd b
one_bad check name k faults.NoSlash g a b = absurd a
one_bad check name k faults.TooDeep g a b = absurd a

-- ---- a path, or its fault

abbrev HasMisnamed : NameCheck → ℕ → EntryKind → List ℕ → Type 0
HasMisnamed check levels k path = (f : NameFault) × IsMisnamed check levels k path f

last_judged : (check : NameCheck) (levels : ℕ) (k : EntryKind) (path : List ℕ) → NoSlash path
    → IsTreePath check levels k path ⊎ HasMisnamed check levels k path
last_judged check levels k path h = by (tree_or_file k) (good_or_bad check path k h)
  where
    by : (k ≡ kinds.Tree) ⊎ (k ≡ kinds.Tree → ⊥) → IsGood check path k ⊎ HasBad check path k
        → IsTreePath check levels k path ⊎ HasMisnamed check levels k path
    by t (inr b) = inr (b.0, last_name levels k path b.0 h b.1)
    by (inr o) (inl g) = inl (of_file levels k path o g.0 g.1)
    by (inl e) (inl g) =
        let passes : refusal_as check path kinds.Tree ≡ None =
        subst (λ (j : EntryKind). refusal_as check path j ≡ None) e g.1 in
        inr (
          faults.NoSlash,
          subst (λ (j : EntryKind). IsMisnamed check levels j path faults.NoSlash) (sym e)
              (no_slash levels path g.0 passes),
        )

module _ (check : NameCheck) (k : EntryKind) (path name rest : List ℕ) (e : path ≡ name ++ 47 ∷ rest)
    (cut : NoSlash name) where
  top_judged : IsTreePath check zero k path ⊎ HasMisnamed check zero k path
  top_judged = by (good_or_bad check name kinds.Tree cut)
    where
      by : IsGood check name kinds.Tree ⊎ HasBad check name kinds.Tree
          → IsTreePath check zero k path ⊎ HasMisnamed check zero k path
      by (inr b) = inr (b.0, bad_front check k path name rest e zero b.0 cut b.1)
      by (inl g) = inr (faults.TooDeep, too_deep check k path name rest e zero refl g.0 g.1)

  below_judged : (l : ℕ) → IsTreePath check l k rest ⊎ HasMisnamed check l k rest
      → IsTreePath check (suc l) k path ⊎ HasMisnamed check (suc l) k path
  below_judged l again = by (good_or_bad check name kinds.Tree cut)
    where
      later : (k ≢ kinds.Tree) ⊎ (rest ≢ []) → IsGood check name kinds.Tree → IsTreePath check l k rest
          ⊎ HasMisnamed check l k rest → IsTreePath check (suc l) k path ⊎ HasMisnamed check (suc l) k path
      later o g (inl p) =
          inl (subst (λ (x : List ℕ). IsTreePath check (suc l) k x) (sym e) (beneath l k name rest g.0 g.1 p))
      later o g (inr b) = inr (
        b.0,
        subst (λ (x : List ℕ). IsMisnamed check (suc l) k x b.0) (sym e) (later_name l k name rest b.0 g.0 g.1 o b.1),
      )

      good : (k ≡ kinds.Tree) ⊎ (k ≡ kinds.Tree → ⊥) → (rest ≡ []) ⊎ (rest ≡ [] → ⊥) → IsGood check name kinds.Tree
          → IsTreePath check (suc l) k path ⊎ HasMisnamed check (suc l) k path
      good (inr o) n g = later (inl o) g again
      good (inl t) (inr n) g = later (inr n) g again
      good (inl t) (inl z) g =
          inl (path_whole check k path name rest e (suc l) (λ q. absurd (omega (arith, q))) g.0 g.1 t z)

      by : IsGood check name kinds.Tree ⊎ HasBad check name kinds.Tree
          → IsTreePath check (suc l) k path ⊎ HasMisnamed check (suc l) k path
      by (inr b) = inr (b.0, bad_front check k path name rest e (suc l) b.0 cut b.1)
      by (inl g) = good (tree_or_file k) (none_or_some rest) g

pub path_judged : (check : NameCheck) (levels : ℕ) (k : EntryKind) (path : List ℕ)
    → IsTreePath check levels k path ⊎ HasMisnamed check levels k path
path_judged check zero k path = by (cut_path path)
  where
    by : NoSlash path ⊎ IsCutAt path → IsTreePath check zero k path ⊎ HasMisnamed check zero k path
    by (inl h) = last_judged check zero k path h
    by (inr s) = top_judged check k path s.0 s.1 s.3 s.2
path_judged check (suc l) k path = by (path_judged check l k) (cut_path path)
  where
    by : ((p : List ℕ) → IsTreePath check l k p ⊎ HasMisnamed check l k p) → NoSlash path ⊎ IsCutAt path
        → IsTreePath check (suc l) k path ⊎ HasMisnamed check (suc l) k path
    by again (inl h) = last_judged check (suc l) k path h
    by again (inr s) = below_judged check k path s.0 s.1 s.3 s.2 l (again s.1)

-- ---- one fault

-- the fault of a path that is one name
abbrev IsLone : NameCheck → EntryKind → List ℕ → NameFault → Type 0
IsLone check k path f =
    IsBadName check path k f ⊎ ((k ≡ kinds.Tree) × IsGood check path kinds.Tree × (f ≡ faults.NoSlash))

lone : (check : NameCheck) (levels : ℕ) (k : EntryKind) (path : List ℕ) (f : NameFault) → NoSlash path
    → IsMisnamed check levels k path f → IsLone check k path f
lone check levels k path f h (last_name l j name g n b) = inl b
lone check levels k path f h (some_name l j name rest g n b) = absurd (no_slash_in (name ++ 47 ∷ rest) name rest h refl)
lone check levels k path f h (no_slash l name n r) = inr (refl, (n, r), refl)
lone check levels k path f h (deep j name rest n r) = absurd (no_slash_in (name ++ 47 ∷ rest) name rest h refl)
lone check levels k path f h (later_name l j name rest g n r o i) =
    absurd (no_slash_in (name ++ 47 ∷ rest) name rest h refl)

one_lone : (check : NameCheck) (k : EntryKind) (path : List ℕ) (f g : NameFault) → IsLone check k path f
    → IsLone check k path g → f ≡ g
one_lone check k path f g (inl a) (inl b) = one_bad check path k f g a b
one_lone check k path f g (inl a) (inr t) =
    absurd (good_not_bad check path kinds.Tree f t.1 (subst (λ (j : EntryKind). IsBadName check path j f) t.0 a))
one_lone check k path f g (inr t) (inl b) =
    absurd (good_not_bad check path kinds.Tree g t.1 (subst (λ (j : EntryKind). IsBadName check path j g) t.0 b))
one_lone check k path f g (inr t) (inr u) = t.2 ∙ sym u.2

-- the fault of a path that has a slash
data Fronted (check : NameCheck) (levels : ℕ) (k : EntryKind) (name rest : List ℕ) (f : NameFault) : Type 0 where
  bad : IsBadName check name kinds.Tree f → Fronted check levels k name rest f
  low : levels ≡ 0 → IsGood check name kinds.Tree → f ≡ faults.TooDeep → Fronted check levels k name rest f
  later : (l : ℕ) → levels ≡ suc l → IsGood check name kinds.Tree → (k ≢ kinds.Tree) ⊎ (rest ≢ [])
      → IsMisnamed check l k rest f → Fronted check levels k name rest f

later_same : (k : EntryKind) (r rest : List ℕ) → r ≡ rest → (k ≢ kinds.Tree) ⊎ (r ≢ []) → (k ≢ kinds.Tree) ⊎ (rest ≢ [])
later_same k r rest e o = subst (λ (x : List ℕ). (k ≢ kinds.Tree) ⊎ (x ≢ [])) e o

fronted : (check : NameCheck) (levels : ℕ) (k : EntryKind) (path name rest : List ℕ) (f : NameFault)
    → path ≡ name ++ 47 ∷ rest → NoSlash name → IsMisnamed check levels k path f → Fronted check levels k name rest f
fronted check levels k path name rest f e h (last_name l j n g s b) = absurd (no_slash_in n name rest s e)
fronted check levels k path name rest f e h (some_name l j n r g s b) =
    let same = first_slash n name r rest s h e in
    bad (subst (λ (x : List ℕ). IsBadName check x kinds.Tree g) same.0 b)
fronted check levels k path name rest f e h (no_slash l n m r) = absurd (no_slash_in n name rest m.component e)
fronted check levels k path name rest f e h (deep j n r m q) =
    let same = first_slash n name r rest m.component h e in
    low refl (subst (λ (x : List ℕ). IsGood check x kinds.Tree) same.0 (m, q)) refl
fronted check levels k path name rest f e h (later_name l j n r g m q o i) =
    let same = first_slash n name r rest m.component h e in
    later l refl (subst (λ (x : List ℕ). IsGood check x kinds.Tree) same.0 (m, q)) (later_same j r rest same.1 o)
    (subst (λ (x : List ℕ). IsMisnamed check l j x g) same.1 i)

one_fronted : (check : NameCheck) (levels : ℕ) (k : EntryKind) (name rest : List ℕ) (f g : NameFault)
    → ((l : ℕ) → levels ≡ suc l → IsMisnamed check l k rest f → IsMisnamed check l k rest g → f ≡ g)
    → Fronted check levels k name rest f → Fronted check levels k name rest g → f ≡ g
one_fronted check levels k name rest f g again (bad a) (bad b) = one_bad check name kinds.Tree f g a b
one_fronted check levels k name rest f g again (bad a) (low z t e) = absurd (good_not_bad check name kinds.Tree f t a)
one_fronted check levels k name rest f g again (bad a) (later l z t o i) =
    absurd (good_not_bad check name kinds.Tree f t a)
one_fronted check levels k name rest f g again (low z t e) (bad b) = absurd (good_not_bad check name kinds.Tree g t b)
one_fronted check levels k name rest f g again (low z t e) (low y u d) = e ∙ sym d
one_fronted check levels k name rest f g again (low z t e) (later l y u o i) = absurd (omega (arith, z, y))
one_fronted check levels k name rest f g again (later l z t o i) (bad b) =
    absurd (good_not_bad check name kinds.Tree g t b)
one_fronted check levels k name rest f g again (later l z t o i) (low y u d) = absurd (omega (arith, z, y))
one_fronted check levels k name rest f g again (later l z t o i) (later m y u p j) =
    let same : m ≡ l = omega (arith, z, y) in
    again l z i (subst (λ (x : ℕ). IsMisnamed check x k rest g) same j)

pub misnamed_one : (check : NameCheck) (levels : ℕ) (k : EntryKind) (path : List ℕ) (f g : NameFault)
    → IsMisnamed check levels k path f → IsMisnamed check levels k path g → f ≡ g
misnamed_one check zero k path f g a b = by (cut_path path)
  where
    by : NoSlash path ⊎ IsCutAt path → f ≡ g
    by (inl h) = one_lone check k path f g (lone check zero k path f h a) (lone check zero k path g h b)
    by (inr s) = one_fronted check zero k s.0 s.1 f g (λ l z i j. absurd (omega (arith, z)))
        (fronted check zero k path s.0 s.1 f s.3 s.2 a) (fronted check zero k path s.0 s.1 g s.3 s.2 b)
misnamed_one check (suc n) k path f g a b = by (λ p. misnamed_one check n k p f g) (cut_path path)
  where
    by : ((p : List ℕ) → IsMisnamed check n k p f → IsMisnamed check n k p g → f ≡ g) → NoSlash path ⊎ IsCutAt path
        → f ≡ g
    by again (inl h) = one_lone check k path f g (lone check (suc n) k path f h a) (lone check (suc n) k path g h b)
    by again (inr s) =
        one_fronted check (suc n) k s.0 s.1 f g
        (λ l z i j. let same : l ≡ n = omega (arith, z) in again s.1 (subst
        (λ (x : ℕ). IsMisnamed check x k s.1 f) same i) (subst (λ (x : ℕ). IsMisnamed check x k s.1 g) same j))
        (fronted check (suc n) k path s.0 s.1 f s.3 s.2 a) (fronted check (suc n) k path s.0 s.1 g s.3 s.2 b)

-- what is made of names has no fault
pub path_not_misnamed : (check : NameCheck) (levels : ℕ) (k : EntryKind) (path : List ℕ) (f : NameFault)
    → IsTreePath check levels k path → IsMisnamed check levels k path f → ⊥
path_not_misnamed check levels k path f (of_file l j name t n r) m = by (lone check l j name f n.component m)
  where
    by : IsLone check j name f → ⊥
    by (inl b) = good_not_bad check name j f (n, r) b
    by (inr u) = t u.0
path_not_misnamed check levels k path f (of_directory l name n r) m =
    by (fronted check (suc l) kinds.Tree (name ++ 47 ∷ []) name [] f refl n.component m)
  where
    by : Fronted check (suc l) kinds.Tree name [] f → ⊥
    by (bad b) = good_not_bad check name kinds.Tree f (n, r) b
    by (low z g e) = absurd (omega (arith, z))
    by (later i z g (inl o) d) = o refl
    by (later i z g (inr o) d) = o refl
path_not_misnamed check levels k path f (beneath l j name rest n r h) m = by (path_not_misnamed check l j rest f h)
    (fronted check (suc l) j (name ++ 47 ∷ rest) name rest f refl n.component m)
  where
    by : (IsMisnamed check l j rest f → ⊥) → Fronted check (suc l) j name rest f → ⊥
    by again (bad b) = good_not_bad check name kinds.Tree f (n, r) b
    by again (low z g e) = absurd (omega (arith, z))
    by again (later i z g o d) =
        let same : i ≡ l = omega (arith, z) in
        again (subst (λ (x : ℕ). IsMisnamed check x j rest f) same d)
