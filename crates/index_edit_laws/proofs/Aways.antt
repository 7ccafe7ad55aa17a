-- Directories that no change of a path touches, and the records that a change takes out.
use Rattle.std.proofs.Common.{◌≡◌, ◌⊎◌, inl, inr, ℕ, ◌==◌, List, [], ◌∷◌, ◌++◌, true, ◌||◌, take, drop}
use Rattle.std.proofs.Common.{Option, Some, None, length, refl, sym, ap, ◌∙◌, append_assoc, nat_eq}
use Rattle.std.specs.List.{starts_with}
use Rattle.std.specs.Option.{option_and_then}
use Rattle.std.proofs.lemmas.List.{take-append-drop}
use Rattle.std.proofs.lemmas.Option.{same_Some}
use Rattle.entry_list.specs.Order.{record_stage}
use Rattle.entry_list.specs.Record.{Record, with_path}
use Rattle.entry_lookup.specs.Closest.{is_below}
use Rattle.entry_lookup.proofs.TableMade.{and_both, or_cases, same_from}
use Rattle.entry_edit.specs.Changes.{change_path, takes_out}
use Rattle.entry_edit.specs.Edits.{have_df_conflict, is_succeeded}
use Rattle.entry_edit.specs.declared.change.Change.{Change}
use Rattle.entry_edit.specs.declared.change.Change.TheVariants as changes
use Rattle.entry_lookup.specs.Range.{is_at}
use Rattle.tree_encode.specs.TreeIds.{behind, behind_all}
use Rattle.tree_encode.proofs.Behinds.{behind_at, behind_is}

-- ---- a path that goes on

one_longer : (name p x y : List ℕ) → behind name p ≡ Some x → behind name (p ++ y) ≡ Some (x ++ y)
one_longer name p x y e =
    let b = behind_is name p x e in
    ap (behind name) (ap (λ (l : List ℕ). l ++ y) b.0 ∙ append_assoc name (47 ∷ x) y) ∙ behind_at name (x ++ y) b.1

pub longer : (names : List (List ℕ)) (p x y : List ℕ) → behind_all names p ≡ Some x
    → behind_all names (p ++ y) ≡ Some (x ++ y)
longer [] p x y e = ap (λ (l : List ℕ). Some (l ++ y)) (same_Some p x e)
longer (name ∷ names) p x y e = by (behind name p) refl e (λ q g. longer names q x y g)
  where
    by : (o : Option (List ℕ)) → behind name p ≡ o → option_and_then (behind_all names) o ≡ Some x
        → ((q : List ℕ) → behind_all names q ≡ Some x → behind_all names (q ++ y) ≡ Some (x ++ y))
        → behind_all (name ∷ names) (p ++ y) ≡ Some (x ++ y)
    by None f g rest = absurd cc
    by (Some q) f g rest = ap (option_and_then (behind_all names)) (one_longer name p q y f) ∙ rest q g

none_on : (names rest : List (List ℕ)) (p : List ℕ) → behind_all names p ≡ None → behind_all (names ++ rest) p ≡ None
none_on [] rest p e = absurd cc
none_on (name ∷ names) rest p e = by (behind name p) e (λ q g. none_on names rest q g)
  where
    by : (o : Option (List ℕ)) → option_and_then (behind_all names) o ≡ None
        → ((q : List ℕ) → behind_all names q ≡ None → behind_all (names ++ rest) q ≡ None)
        → option_and_then (behind_all (names ++ rest)) o ≡ None
    by None g more = refl
    by (Some q) g more = more q g

-- ---- directories away from a path

-- the path isn't below the directory that these names lead to, and wouldn't be if it were a folder
abbrev pub IsAway : List ℕ → List (List ℕ) → Type 0
IsAway path names = (x : List ℕ) → behind_all names (path ++ 47 ∷ x) ≡ None

pub away_on : (path : List ℕ) (names rest : List (List ℕ)) → IsAway path names → IsAway path (names ++ rest)
away_on path names rest h x = none_on names rest (path ++ 47 ∷ x) (h x)

none_from : (o : Option (List ℕ)) → ((x : List ℕ) → o ≡ Some x → ⊥) → o ≡ None
none_from None h = refl
none_from (Some x) h = absurd (h x refl)

pub away_itself : (path : List ℕ) (names : List (List ℕ)) → IsAway path names → behind_all names path ≡ None
away_itself path names h = none_from (behind_all names path) (λ x e.
    let clash : Some (x ++ 47 ∷ []) ≡ None = sym (longer names path x (47 ∷ []) e) ∙ h [] in
    absurd cc)

-- so is each directory that the path is in
away_above : (path above x : List ℕ) (names : List (List ℕ)) → IsAway path names → path ≡ above ++ 47 ∷ x
    → behind_all names above ≡ None
away_above path above x names h e = none_from (behind_all names above) (λ y f.
    let clash : Some (y ++ 47 ∷ x) ≡ None =
    sym (longer names above y (47 ∷ x) f) ∙ sym (ap (behind_all names) e) ∙ away_itself path names h in
    absurd cc)

-- ---- what a change takes out

below_is : (dir path : List ℕ) → starts_with nat_eq path (dir ++ 47 ∷ []) ≡ true
    → (x : List ℕ) × (path ≡ dir ++ 47 ∷ x)
below_is dir path t =
    let n = length (dir ++ 47 ∷ []) in
    let e : dir ++ 47 ∷ [] ≡ take n path = same_from (dir ++ 47 ∷ []) (take n path) t in (
      drop n path,
      sym (take-append-drop n path) ∙ ap (λ (l : List ℕ). l ++ drop n path) (sym e)
          ∙ append_assoc dir (47 ∷ []) (drop n path),
    )

module _ (names : List (List ℕ)) (path : List ℕ) (h : IsAway path names) where
  at_path : (r : Record) → is_at path r ≡ true → behind_all names r.path ≡ None
  at_path r t = ap (behind_all names) (same_from r.path path t) ∙ away_itself path names h

  in_path : (r : Record) → is_below path r ≡ true → behind_all names r.path ≡ None
  in_path r t = let b = below_is path r.path t in ap (behind_all names) b.1 ∙ h b.0

  over_path : (r new : Record) → new.path ≡ path → is_below r.path new ≡ true → behind_all names r.path ≡ None
  over_path r new e t = let b = below_is r.path new.path t in away_above path r.path b.0 names h (sym e ∙ b.1)

  at_odds : (r new : Record) → new.path ≡ path → (is_below new.path r ≡ true) ⊎ (is_below r.path new ≡ true)
      → behind_all names r.path ≡ None
  at_odds r new e (inl t) = in_path r (ap (λ (p : List ℕ). is_below p r) (sym e) ∙ t)
  at_odds r new e (inr t) = over_path r new e t

  displaced_away : (r new : Record) → new.path ≡ path → (is_succeeded new r ≡ true) ⊎ (have_df_conflict new r ≡ true)
      → behind_all names r.path ≡ None
  displaced_away r new e (inl t) = at_path r (ap (λ (p : List ℕ). is_at p r) (sym e)
      ∙ (and_both (is_at new.path r) ((record_stage new == 0) || (record_stage r == record_stage new)) t).0)
  displaced_away r new e (inr t) = at_odds r new e (or_cases (is_below new.path r) (is_below r.path new)
      (and_both (record_stage r == record_stage new) (is_below new.path r || is_below r.path new) t).1)

-- it isn't below a directory away from the path
pub taken_away : (c : Change) (r : Record) (names : List (List ℕ)) → IsAway (change_path c) names → takes_out c r ≡ true
    → behind_all names r.path ≡ None
taken_away (changes.Stage entry path) r names h t =
    let new = with_path path.now entry in
    displaced_away names path.now h r new refl (or_cases (is_succeeded new r) (have_df_conflict new r) t)
taken_away (changes.Unstage path) r names h t = at_path names path.now h r t
