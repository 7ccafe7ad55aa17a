-- Names that paths begin with.
use Rattle.std.proofs.Common.{◌≡◌, ◌⊎◌, inl, inr, ℕ, suc, ◌+◌, ◌-◌, ◌<◌, ◌≤◌, List, [], ◌∷◌, ◌++◌, All, Bool, true}
use Rattle.std.proofs.Common.{false, ◌==◌, Option, Some, None, IfSome, Bor, length, refl, sym, ap, subst, ◌∙◌}
use Rattle.std.proofs.Common.{append_assoc, arith}
use Rattle.std.specs.Prelude.{◌≢◌}
use Rattle.std.specs.Option.{option_map}
use Rattle.std.specs.declared.cmp.Ordering.{Ordering}
use Rattle.std.specs.declared.cmp.Ordering.TheVariants.{Less, Equal, Greater}
use Rattle.std.proofs.lemmas.Bool.{eqb-false, eqb-true}
use Rattle.std.proofs.lemmas.Cmp.{nat_list_cmp_total, tied_itself}
use Rattle.std.proofs.lemmas.List.{append-nil, length-append, nil_from_length}
use Rattle.std.proofs.lemmas.List.Elements.{All-head, All-tail}
use Rattle.index_parts.specs.declared.object.tree.EntryKind.{EntryKind}
use Rattle.index_parts.specs.declared.object.tree.EntryKind.TheVariants as kinds
use Rattle.entry_list.specs.Order.{path_cmp}
use Rattle.std.proofs.lemmas.Map.Lookups.{exact_bytes}
use Rattle.index_parts.specs.NameCheck.{refusal_as}
use Rattle.tree_encode.specs.Directory.{IsPathComponent, key}
use Rattle.tree_encode.specs.Refusals.{HasPathPrefix, NameCheck, IsBadName, IsMisnamed, IsTreePath, of_file}
use Rattle.tree_encode.specs.Refusals.{of_directory, beneath, some_name, deep, later_name}
use Rattle.tree_encode.specs.Staged.{Staged}
use Rattle.tree_encode.specs.WritingSteps.{Ahead, IsComponent, IsPathSplit}
use Rattle.tree_encode.specs.declared.error.NameFault.{NameFault}
use Rattle.tree_encode.specs.declared.error.NameFault.TheVariants as faults
use Rattle.tree_encode.proofs.Aparts.{between}

abbrev pub NoSlash : List ℕ → Type 0
NoSlash name = All (λ b. b ≢ 47) name

-- ---- bytes

-- up to the first slash both are the same
pub first_slash : (a b x y : List ℕ) → NoSlash a → NoSlash b → a ++ 47 ∷ x ≡ b ++ 47 ∷ y → (a ≡ b) × (x ≡ y)
first_slash [] [] x y h k e = (refl, cc)
first_slash [] (d ∷ b) x y h k e = let slash : d ≡ 47 = cc in absurd (All-head (λ c. c ≢ 47) d b k slash)
first_slash (c ∷ a) [] x y h k e = let slash : c ≡ 47 = cc in absurd (All-head (λ c. c ≢ 47) c a h slash)
first_slash (c ∷ a) (d ∷ b) x y h k e =
    let head : c ≡ d = cc in
    let tail : a ++ 47 ∷ x ≡ b ++ 47 ∷ y = cc in
    let r = first_slash a b x y (All-tail (λ c. c ≢ 47) c a h) (All-tail (λ c. c ≢ 47) d b k) tail in
    (ap (λ (n : ℕ). n ∷ a) head ∙ ap (λ (l : List ℕ). d ∷ l) r.0, r.1)

-- what has no slash has none inside
pub no_slash_in : (a b x : List ℕ) → NoSlash a → a ≡ b ++ 47 ∷ x → ⊥
no_slash_in [] [] x h e = absurd cc
no_slash_in [] (d ∷ b) x h e = absurd cc
no_slash_in (c ∷ a) [] x h e = let slash : c ≡ 47 = cc in All-head (λ c. c ≢ 47) c a h slash
no_slash_in (c ∷ a) (d ∷ b) x h e =
    let tail : a ≡ b ++ 47 ∷ x = cc in
    no_slash_in a b x (All-tail (λ c. c ≢ 47) c a h) tail

-- ---- lists without elements

pub empty_from : {X : Type 0} (l : List X) (r : Bool) → r ≡ (length l == 0) → r ≡ true → l ≡ []
empty_from l r e t = nil_from_length l (eqb-true (length l) 0 (sym e ∙ t))

pub some_from : {X : Type 0} (l : List X) (r : Bool) → r ≡ (length l == 0) → r ≡ false → l ≢ []
some_from l r e t z = eqb-false (length l) 0 (sym e ∙ t) (ap length z)

-- ---- a path that is split

pub split_some : (path name : List ℕ) (o : Option (Bor (List ℕ))) (r : Bor (List ℕ)) → o ≡ Some r
    → IsPathSplit path name (option_map (λ r. r.now) o) → path ≡ name ++ 47 ∷ r.now
split_some path name o r e h =
    subst (λ (p : Option (Bor (List ℕ))). IsPathSplit path name (option_map (λ r. r.now) p)) e h

module _ (check : NameCheck) (k : EntryKind) (path name rest : List ℕ) (e : path ≡ name ++ 47 ∷ rest) where
  pub bad_front : (levels : ℕ) (f : NameFault) → NoSlash name → IsBadName check name kinds.Tree f
      → IsMisnamed check levels k path f
  bad_front levels f h bad =
      subst (λ (p : List ℕ). IsMisnamed check levels k p f) (sym e) (some_name levels k name rest f h bad)

  pub too_deep : (levels : ℕ) → levels ≡ 0 → IsPathComponent name → refusal_as check name kinds.Tree ≡ None
      → IsMisnamed check levels k path faults.TooDeep
  too_deep levels z n r = subst (λ (l : ℕ). IsMisnamed check l k path faults.TooDeep) (sym z)
      (subst (λ (p : List ℕ). IsMisnamed check 0 k p faults.TooDeep) (sym e) (deep k name rest n r))

  pub bad_later : (levels : ℕ) (f : NameFault) → (levels ≡ 0 → ⊥) → IsPathComponent name
      → refusal_as check name kinds.Tree ≡ None → (k ≢ kinds.Tree) ⊎ (rest ≢ [])
      → IsMisnamed check (levels - 1) k rest f → IsMisnamed check levels k path f
  bad_later levels f z n r o h =
      let same : suc (levels - 1) ≡ levels = omega (arith, z) in
      subst (λ (l : ℕ). IsMisnamed check l k path f) same (subst (λ (p : List ℕ). IsMisnamed check
      (suc (levels - 1)) k p f) (sym e) (later_name (levels - 1) k name rest f n r o h))

  pub path_later : (levels : ℕ) → (levels ≡ 0 → ⊥) → IsPathComponent name → refusal_as check name kinds.Tree ≡ None
      → IsTreePath check (levels - 1) k rest → IsTreePath check levels k path
  path_later levels z n r h =
      let same : suc (levels - 1) ≡ levels = omega (arith, z) in
      subst (λ (l : ℕ). IsTreePath check l k path) same (subst (λ (p : List ℕ). IsTreePath check (suc (levels - 1)) k p)
      (sym e) (beneath (levels - 1) k name rest n r h))

  pub path_whole : (levels : ℕ) → (levels ≡ 0 → ⊥) → IsPathComponent name → refusal_as check name kinds.Tree ≡ None
      → k ≡ kinds.Tree → rest ≡ [] → IsTreePath check levels k path
  path_whole levels z n r t nothing =
      let same : suc (levels - 1) ≡ levels = omega (arith, z) in
      let is : path ≡ name ++ 47 ∷ [] = e ∙ ap (λ (l : List ℕ). name ++ 47 ∷ l) nothing in
      subst (λ (j : EntryKind). IsTreePath check levels j path) (sym t)
      (subst (λ (l : ℕ). IsTreePath check l kinds.Tree path) same (subst (λ (p : List ℕ). IsTreePath check
      (suc (levels - 1)) kinds.Tree p) (sym is) (of_directory (levels - 1) name n r)))

  pub later_some : (levels : ℕ) → (levels ≡ 0 → ⊥) → IsPathComponent name → refusal_as check name kinds.Tree ≡ None
      → (k ≢ kinds.Tree) ⊎ (rest ≢ []) → (o : Option NameFault)
      → IfSome o (IsMisnamed check (levels - 1) k rest) → IfSome o (IsMisnamed check levels k path)
  later_some levels z n r h None i = tt
  later_some levels z n r h (Some f) i = bad_later levels f z n r h i

-- ---- components

pub whole_component : (tail name shown : List ℕ) → IsComponent tail name shown → length tail ≤ length shown
    → tail ≡ shown
whole_component tail name shown h short =
    let n : length tail ≡ length shown + length h.rest = ap length h.parts ∙ length-append shown h.rest in
    let nothing : h.rest ≡ [] = nil_from_length h.rest (omega arith) in
    h.parts ∙ ap (λ (l : List ℕ). shown ++ l) nothing ∙ append-nil shown

pub slash_behind : (tail name shown : List ℕ) → IsComponent tail name shown → length shown < length tail
    → shown ≡ name ++ 47 ∷ []
slash_behind tail name shown h longer = by h.is
  where
    by : (shown ≡ name ++ 47 ∷ []) ⊎ ((shown ≡ name) × (tail ≡ name)) → shown ≡ name ++ 47 ∷ []
    by (inl e) = e
    by (inr e) = absurd (omega (arith, longer, ap length e.0, ap length e.1))

pub path_some : (check : NameCheck) (levels : ℕ) (k : EntryKind) (p : List ℕ) → IsTreePath check levels k p → p ≢ []
path_some check levels k p (of_file l j name t n r) e = n.some e
path_some check levels k p (of_directory l name n r) e =
    absurd (omega (arith, ap length e, length-append name (47 ∷ [])))
path_some check levels k p (beneath l j name rest n r h) e =
    absurd (omega (arith, ap length e, length-append name (47 ∷ rest)))

key_file : (name : List ℕ) (k : EntryKind) → k ≢ kinds.Tree → key name k ≡ name
key_file name kinds.Tree h = absurd (h refl)
key_file name kinds.Blob h = refl
key_file name kinds.BlobExecutable h = refl
key_file name kinds.Link h = refl
key_file name kinds.Commit h = refl

-- the name of a leaf
pub leaf_name : (check : NameCheck) (levels : ℕ) (k : EntryKind) (tail name : List ℕ) → IsTreePath check levels k tail
    → IsComponent tail name tail → IsPathComponent name × (tail ≡ key name k)
leaf_name check levels k tail name (of_file l j n t m r) c = by c.is
  where
    by : (n ≡ name ++ 47 ∷ []) ⊎ ((n ≡ name) × (n ≡ name)) → IsPathComponent name × (n ≡ key name j)
    by (inl e) = absurd (no_slash_in n name [] m.component e)
    by (inr e) = (subst IsPathComponent e.0 m, e.0 ∙ sym (key_file name j t))
leaf_name check levels k tail name (of_directory l n m r) c = by c.is
  where
    by : (n ++ 47 ∷ [] ≡ name ++ 47 ∷ []) ⊎ ((n ++ 47 ∷ [] ≡ name) × (n ++ 47 ∷ [] ≡ name))
        → IsPathComponent name × (n ++ 47 ∷ [] ≡ key name kinds.Tree)
    by (inl e) = let f = first_slash n name [] [] m.component c.component e in (subst IsPathComponent f.0 m, e)
    by (inr e) = absurd (no_slash_in name n [] c.component (sym e.0))
leaf_name check levels k tail name (beneath l j n rest m r h) c = by c.is
  where
    by : (n ++ 47 ∷ rest ≡ name ++ 47 ∷ []) ⊎ ((n ++ 47 ∷ rest ≡ name) × (n ++ 47 ∷ rest ≡ name))
        → IsPathComponent name × (n ++ 47 ∷ rest ≡ key name j)
    by (inl e) = absurd (path_some check l j rest h (first_slash n name rest [] m.component c.component e).1)
    by (inr e) = absurd (no_slash_in name n rest c.component (sym e.0))

-- a path below a name: the name, and the path there
pub record IsBehind (check : NameCheck) (levels : ℕ) (k : EntryKind) (name rest : List ℕ) : Type 0 where
  pub named : IsPathComponent name
  pub more : 0 < levels
  pub path : IsTreePath check (levels - 1) k rest

pub path_behind : (check : NameCheck) (levels : ℕ) (k : EntryKind) (path name rest : List ℕ) → path ≡ name ++ 47 ∷ rest
    → NoSlash name → rest ≢ [] → IsTreePath check levels k path → IsBehind check levels k name rest
path_behind check levels k path name rest e s some (of_file l j n t m r) =
    absurd (no_slash_in n name rest m.component e)
path_behind check levels k path name rest e s some (of_directory l n m r) =
    absurd (some (sym (first_slash n name [] rest m.component s e).1))
path_behind check levels k path name rest e s some (beneath l j n more m r h) =
    let f = first_slash n name more rest m.component s e in
    let one : l ≡ suc l - 1 = omega arith in
    record {
      named = subst IsPathComponent f.0 m;
      more = omega arith;
      path = subst (λ (i : ℕ). IsTreePath check i j rest) one (subst (IsTreePath check l j) f.1 h);
    }

-- ---- what is ahead

not_itself : (p q : List ℕ) → path_cmp p q ≡ Less → p ≡ q → ⊥
not_itself p q e s =
    let less : path_cmp q q ≡ Less = subst (λ (x : List ℕ). path_cmp x q ≡ Less) s e in
    let tie = tied_itself nat_list_cmp_total q in
    absurd (cc (tie, less))

turned : (p q : List ℕ) → path_cmp p q ≡ Greater → path_cmp q p ≡ Less
turned p q e = nat_list_cmp_total.antisymm q p ∙ rw e refl

-- the last name, with a slash or without, and how a path may follow it
abbrev pub Leaves : List ℕ → List ℕ → Type 0
Leaves last q = NoSlash last ⊎ ((n : List ℕ) × (last ≡ n ++ 47 ∷ []) × NoSlash n × (HasPathPrefix q last → ⊥))

pub ahead_from : (last : List ℕ) (s : Staged) → path_cmp last s.path ≡ Less → Leaves last s.path → Ahead last s
ahead_from last s less h name shown c = by (path_cmp last shown) refl
  where
    q : List ℕ
    q = s.path

    starts : HasPathPrefix q shown
    starts = (c.rest, c.parts)

    inside : HasPathPrefix last shown → path_cmp shown last ≡ Less
        → (shown ≡ name ++ 47 ∷ []) ⊎ ((shown ≡ name) × (q ≡ name)) → Leaves last q → ⊥
    inside b lt (inr e) l = not_itself last last (nat_list_cmp_total.trans last q last less
        (subst (λ (x : List ℕ). path_cmp x last ≡ Less) (e.0 ∙ sym e.1) lt)) refl
    inside b lt (inl e) (inl none) =
        no_slash_in last name b.0 none (b.1 ∙ ap (λ (x : List ℕ). x ++ b.0) e ∙ append_assoc name (47 ∷ []) b.0)
    inside b lt (inl e) (inr d) =
        let whole : d.0 ++ 47 ∷ [] ≡ name ++ 47 ∷ b.0 =
        sym d.1 ∙ b.1 ∙ ap (λ (x : List ℕ). x ++ b.0) e ∙ append_assoc name (47 ∷ []) b.0 in
        let f = first_slash d.0 name [] b.0 d.2 c.component whole in
        not_itself shown last lt (e ∙ ap (λ (x : List ℕ). x ++ 47 ∷ []) (sym f.0) ∙ sym d.1)

    same : last ≡ shown → (shown ≡ name ++ 47 ∷ []) ⊎ ((shown ≡ name) × (q ≡ name)) → Leaves last q → ⊥
    same e (inr i) l = not_itself last q less (e ∙ i.0 ∙ sym i.1)
    same e (inl i) (inl none) = no_slash_in last name [] none (e ∙ i)
    same e (inl i) (inr d) = d.3 (subst (HasPathPrefix q) (sym e) starts)

    by : (o : Ordering) → path_cmp last shown ≡ o → path_cmp last shown ≡ Less
    by Less e = e
    by Equal e = absurd (same (exact_bytes last shown e) c.is h)
    by Greater e = let lt = turned last shown e in absurd (inside (between shown last q lt less starts) lt c.is h)
