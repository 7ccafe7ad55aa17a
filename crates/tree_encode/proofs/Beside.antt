-- What entries give if a merge hasn't decided on others.
use Rattle.std.proofs.Common.{◌≡◌, ◌⊎◌, inl, inr, ℕ, List, [], ◌∷◌, ◌++◌, All, Contains}
use Rattle.std.proofs.Common.{Option, Some, None, refl, sym, ap, subst, ◌∙◌, append_assoc}
use Rattle.std.specs.Prelude.{◌≢◌}
use Rattle.std.specs.Option.{option_and_then}
use Rattle.std.proofs.lemmas.List.Elements.{All-contains, All-weaker}
use Rattle.std.proofs.lemmas.Option.{same_Some}
use Rattle.index_parts.specs.declared.hash.Kind.{Kind}
use Rattle.index_parts.specs.declared.hash.ObjectId.{ObjectId}
use Rattle.ext_tree.specs.Tree.{Node}
use Rattle.entry_list.specs.Record.{Record}
use Rattle.tree_encode.specs.Refusals.{HasPathPrefix}
use Rattle.tree_encode.specs.Staged.{Staged, merged_in, staged_in, unmerged_in}
use Rattle.tree_encode.specs.TreeIds.{GivesId, GivesNone, IsMergedAt, behind, behind_all, staged_at}
use Rattle.tree_encode.specs.TreeIdsSteps.{GivesAt, IsExpectedNode, parent_path, given_node}
use Rattle.tree_encode.proofs.Behinds.{at_first, behind_at, behind_is, in_front}
use Rattle.tree_encode.proofs.Spots.{none_told, told_given}

-- ---- what follows names, and the names that something follows

behind_names : (names : List (List ℕ)) (path x : List ℕ) → behind_all names path ≡ Some x
    → path ≡ parent_path names ++ x
behind_names [] path x e = same_Some path x e
behind_names (n ∷ names) path x e = by (behind n path) refl e (λ y. behind_names names y x)
  where
    by : (o : Option (List ℕ)) → behind n path ≡ o → option_and_then (behind_all names) o ≡ Some x
        → ((y : List ℕ) → behind_all names y ≡ Some x → y ≡ parent_path names ++ x)
        → path ≡ parent_path (n ∷ names) ++ x
    by None o e rest = absurd cc
    by (Some y) o e rest = (behind_is n path y o).0 ∙ ap (λ (l : List ℕ). n ++ 47 ∷ l) (rest y e)
        ∙ sym (append_assoc n (47 ∷ parent_path names) x)

behind_others : (names : List (List ℕ)) (path y x : List ℕ) → behind_all names path ≡ Some y
    → behind_all names (parent_path names ++ x) ≡ Some x
behind_others [] path y x e = refl
behind_others (n ∷ names) path y x e = by (behind n path) refl e (λ z. behind_others names z y x)
  where
    by : (o : Option (List ℕ)) → behind n path ≡ o → option_and_then (behind_all names) o ≡ Some y
        → ((z : List ℕ) → behind_all names z ≡ Some y → behind_all names (parent_path names ++ x) ≡ Some x)
        → behind_all (n ∷ names) (parent_path (n ∷ names) ++ x) ≡ Some x
    by None o e rest = absurd cc
    by (Some z) o e rest =
        let parts = behind_is n path z o in
        ap (λ (l : List ℕ). option_and_then (behind_all names) (behind n l))
        (append_assoc n (47 ∷ parent_path names) x)
        ∙ ap (option_and_then (behind_all names)) (behind_at n (parent_path names ++ x) parts.1) ∙ rest z e

abbrev SomeAt : List (List ℕ) → Type 0
SomeAt names = (path y : List ℕ) × (behind_all names path ≡ Some y)

some_at : (names : List (List ℕ)) (ss : List Staged) → staged_at names ss ≢ [] → SomeAt names
some_at names [] h = absurd (h refl)
some_at names (s ∷ ss) h = by (behind_all names s.path) refl (some_at names ss)
  where
    by : (o : Option (List ℕ)) → behind_all names s.path ≡ o → (staged_at names ss ≢ [] → SomeAt names) → SomeAt names
    by None e rest =
        rest (λ z. h (at_first names s ss ∙ ap (λ (o : Option (List ℕ)). in_front s o (staged_at names ss)) e ∙ z))
    by (Some y) e rest = (s.path, y, e)

-- If an id is given to a directory other than the root, something is below it.
gives_some : (kind : Kind) (ss : List Staged) (names : List (List ℕ)) (i : ObjectId) (c : ℕ)
    → GivesId kind ss names i c → (names ≡ []) ⊎ SomeAt names
gives_some kind ss names i c (inl m) = by m.some
  where
    by : (names ≡ []) ⊎ (staged_at names ss ≢ []) → (names ≡ []) ⊎ SomeAt names
    by (inl z) = inl z
    by (inr full) = inr (some_at names ss full)
gives_some kind ss names i c (inr w) =
    inr (some_at names ss (λ z. let clash = sym w.0 ∙ z in absurd cc))

-- ---- with unmerged records

pub told_below : (kind : Kind) (rs : List Record) (names : List (List ℕ)) (parent : List ℕ)
    → parent ≡ parent_path names → (r : Record) → Contains (unmerged_in rs) r → HasPathPrefix r.path parent
    → GivesNone kind rs names
told_below kind rs names parent p r c b i n g = by (gives_some kind (staged_in (merged_in rs)) names i n g.1)
  where
    is : r.path ≡ parent_path names ++ b.0
    is = b.1 ∙ ap (λ (l : List ℕ). l ++ b.0) p

    none : behind_all names r.path ≡ None
    none = All-contains (λ r. behind_all names r.path ≡ None) (unmerged_in rs) r g.0 c

    clash : behind_all names (parent_path names ++ b.0) ≡ Some b.0 → ⊥
    clash e = let z : None ≡ Some b.0 = sym none ∙ ap (behind_all names) is ∙ e in absurd cc

    by : (names ≡ []) ⊎ SomeAt names → ⊥
    by (inl z) = clash (subst (λ (l : List (List ℕ)). behind_all l (parent_path l ++ b.0) ≡ Some b.0) (sym z) refl)
    by (inr s) = clash (behind_others names s.0 s.1 b.0 s.2)

merged_at : (rs : List Record) (names : List (List ℕ)) (parent : List ℕ) → parent ≡ parent_path names
    → All (λ r. HasPathPrefix r.path parent → ⊥) (unmerged_in rs) → IsMergedAt rs names
merged_at rs names parent p h = All-weaker (λ r. HasPathPrefix r.path parent → ⊥) (λ r. behind_all names r.path ≡ None)
    (λ r not_begun. by r not_begun (behind_all names r.path) refl) (unmerged_in rs) h
  where
    by : (r : Record) → (HasPathPrefix r.path parent → ⊥) → (o : Option (List ℕ)) → behind_all names r.path ≡ o
        → o ≡ None
    by r not_begun None e = refl
    by r not_begun (Some x) e =
        absurd (not_begun (x, behind_names names r.path x e ∙ ap (λ (l : List ℕ). l ++ x) (sym p)))

pub told_beside : (kind : Kind) (rs : List Record) (names : List (List ℕ)) (given : Option Node) (parent : List ℕ)
    → parent ≡ parent_path names → All (λ r. HasPathPrefix r.path parent → ⊥) (unmerged_in rs)
    → GivesAt kind (staged_in (merged_in rs)) names given → IsExpectedNode kind rs names (given_node given)
told_beside kind rs names given parent p h g = by (given_node given) refl
  where
    by : (o : Option (ObjectId × ℕ)) → given_node given ≡ o → IsExpectedNode kind rs names o
    by None e = λ i c gives. none_told kind (staged_in (merged_in rs)) names given g e i c gives.1
    by (Some told) e =
        (merged_at rs names parent p h, told_given kind (staged_in (merged_in rs)) names given told.0 told.1 g e)
