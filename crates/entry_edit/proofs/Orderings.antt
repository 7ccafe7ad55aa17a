-- Changes in the order of their paths, and whether one is in a directory.
use Rattle.std.proofs.Common.{◌≡◌, ◌≢◌, ℕ, ◌+◌, ◌<◌, ◌≤◌, ◌⊎◌, inl, inr, Bool, true, false, List, [], ◌∷◌, ◌++◌, length}
use Rattle.std.proofs.Common.{get_or, take, map, refl, sym, ap, ◌∙◌, Bor, ◌-◌, arith}
use denote.Param.Members.{Mut}
use Rattle.std.specs.Cmp.{IsStrictWeakOrder}
use Rattle.std.specs.Cmp.Lexicographic.{texts_ties, nat_list_eq_equiv}
use Rattle.std.specs.Fn.{Called, ComputesOnPairs}
use Rattle.std.specs.List.{AllPairs, AllWithin, HoldsAt, IsAllAdjacentAnswer, list_any}
use Rattle.std.specs.List.Sorted.{IsPermutation, IsSortedByClosure, IsStableBy, IsStableByClosure}
use Rattle.std.specs.Ordering.{is_eq, is_le, is_lt, nat_cmp, ordering_reverse, ordering_then}
use Rattle.std.specs.declared.cmp.Ordering.{Ordering}
use Rattle.std.specs.declared.cmp.Ordering.TheVariants.{Less, Equal, Greater}
use Rattle.std.proofs.lemmas.Bool.{cases_lt}
use Rattle.std.proofs.lemmas.Cmp.{tied_itself}
use Rattle.std.proofs.lemmas.List.{length-map, get_or_default, get_or-map as at_map}
use Rattle.std.proofs.Math.ListN.{get_or-map as shift}
use Rattle.std.proofs.lemmas.Fn.{always_returns_same}
use Rattle.std.proofs.lemmas.List.Elements.{All-contains, Contains-get_or}
use Rattle.std.proofs.lemmas.List.Folds.{list_any_none}
use Rattle.std.proofs.lemmas.List.Sorted.{Contains-permutation, IsPermutation-sym, ranks_by, sorted_far}
use Rattle.entry_list.specs.Order.{path_cmp}
use Rattle.entry_list.proofs.Orders.{paths_total}
use Rattle.entry_lookup.proofs.Closest.{any_here}
use Rattle.entry_lookup.proofs.RunsFound.{within_map}
use Rattle.entry_lookup.proofs.TableSearch.{all_none}
use Rattle.base_search.specs.Halving.{IsPartedAt, IsRising, IsSplitBy, is_before}
use Rattle.base_search.specs.Prefix.{prefix_cmp}
use Rattle.base_search.proofs.Halving.{split_by}
use Rattle.base_search.proofs.OrderedAnswers.{rising_of}
use Rattle.base_search.proofs.Parting.{greater_from}
use Rattle.base_search.proofs.Places.{some_of}
use Rattle.base_search.proofs.Prefixes.{prefixes_rise}
use Rattle.entry_edit.specs.Changes.{change_path}
use Rattle.entry_edit.specs.Reorders.{AreInOrder, AreUnnested, are_nested, has_within, is_change_before}
use Rattle.entry_edit.specs.Reorders.{is_inside_folder}
use Rattle.entry_edit.specs.declared.change.Change.{Change}

pub weak : IsStrictWeakOrder is_change_before
weak = ranks_by paths_total change_path

not_greater : (o p : Ordering) → p ≡ ordering_reverse o → is_lt p ≡ false → o ≢ Greater
not_greater o p e h f = let less : is_lt p ≡ true = ap is_lt (e ∙ ap ordering_reverse f) in
    let both = sym less ∙ h in cc

never_fall : (cs : List Change) → AreInOrder cs
    → AllPairs (λ c d. path_cmp (change_path c) (change_path d) ≢ Greater) cs
never_fall cs up i j d before within =
    let c = get_or cs i d in
    let e = get_or cs j d in
    not_greater (path_cmp (change_path c) (change_path e)) (path_cmp (change_path e) (change_path c))
    (paths_total.antisymm (change_path e) (change_path c))
    (sorted_far is_change_before weak cs up i j d (omega arith) within)

-- what a search for a folder asks
abbrev pub answer : List ℕ → Change → Ordering
answer folder c = prefix_cmp (folder ++ 47 ∷ []) (change_path c)

pub split_folder : (folder : List ℕ) (cs : List Change) → AreInOrder cs → IsSplitBy (answer folder) cs
split_folder folder cs up =
    let n = length (folder ++ 47 ∷ []) in
    split_by paths_total (λ (c : Change). take n (change_path c)) (folder ++ 47 ∷ []) cs
    (λ i j d before within. prefixes_rise n _ _ (never_fall cs up i j d before within))

pub lies_is : (folder path : List ℕ) → is_eq (prefix_cmp (folder ++ 47 ∷ []) path) ≡ is_inside_folder folder path
lies_is folder path =
    let prefix = folder ++ 47 ∷ [] in
    sym (texts_ties (take (length prefix) path) prefix) ∙ nat_list_eq_equiv.symm (take (length prefix) path) prefix

then_less : (o p q : Ordering) → ordering_then o p ≢ Greater → (p ≢ Greater → q ≡ Less) → ordering_then o q ≡ Less
then_less Less p q h f = refl
then_less Equal p q h f = f h
then_less Greater p q h f = absurd (h refl)

-- a path that isn't after a directory isn't in it, and comes before those that are
upto_folder : (x f : List ℕ) → path_cmp x f ≢ Greater → prefix_cmp (f ++ 47 ∷ []) x ≡ Less
upto_folder [] [] h = refl
upto_folder (b ∷ x) [] h = absurd (h refl)
upto_folder [] (a ∷ f) h = refl
upto_folder (b ∷ x) (a ∷ f) h =
    then_less (nat_cmp b a) (path_cmp x f) (prefix_cmp (f ++ 47 ∷ []) x) h (upto_folder x f)

not_after : (o : Ordering) → o ≡ Equal → o ≢ Greater
not_after o e g = cc

front_folder : (cs : List Change) (place : ℕ) → AreInOrder cs → place < length cs → (d : Change) (k : ℕ)
    → k < place + 1 → answer (change_path (get_or cs place d)) (get_or cs k d) ≡ Less
front_folder cs place up within d k l =
    upto_folder (change_path (get_or cs k d)) (change_path (get_or cs place d)) (by (cases_lt k place))
  where
    by : (k < place) ⊎ (place ≤ k) → path_cmp (change_path (get_or cs k d)) (change_path (get_or cs place d)) ≢ Greater
    by (inl f) = never_fall cs up k place d f within
    by (inr g) =
        let e : k ≡ place = omega arith in
        not_after _ (ap (λ i. path_cmp (change_path (get_or cs i d)) (change_path (get_or cs place d))) e
        ∙ tied_itself paths_total (change_path (get_or cs place d)))

-- ---- whether the last one before those after a directory is in it

is_le_only : (o : Ordering) → is_le o ≡ true → is_eq o ≡ false → o ≡ Less
is_le_only Less e f = refl
is_le_only Equal e f = cc
is_le_only Greater e f = cc

lt_not_eq : (o : Ordering) → o ≡ Less → is_eq o ≡ false
lt_not_eq o e = ap is_eq e

module _ (folder : List ℕ) (cs : List Change) (end : ℕ) (split : IsSplitBy (answer folder) cs)
    (p : IsPartedAt true (map (answer folder) cs) end) where
  upto : (k : ℕ) (d : Change) → k < end → is_le (answer folder (get_or cs k d)) ≡ true
  upto k d l = within_map is_le (answer folder) (λ c. is_le (answer folder c)) true cs 0 end (λ c. refl) p.before k d
      (omega arith) l

  from : (k : ℕ) (d : Change) → end ≤ k → k < length cs → is_le (answer folder (get_or cs k d)) ≡ false
  from k d l within = within_map is_le (answer folder) (λ c. is_le (answer folder c)) false cs end
      (length (map (answer folder) cs)) (λ c. refl) p.behind k d l (omega (arith, length-map cs (answer folder)))

  fits : end ≤ length cs
  fits = omega (arith, p.in_range, length-map cs (answer folder))

  last_told : (o : Ordering) → 0 < end → HoldsAt (λ c. answer folder c ≡ o) cs (end - 1)
      → is_eq o ≡ has_within cs folder
  last_told o some here = by (is_eq o) refl
    where
      other : is_eq o ≡ false → (k : ℕ) (d : Change) → k < length cs → (k < end) ⊎ (end ≤ k)
          → is_eq (answer folder (get_or cs k d)) ≡ false
      other e k d within (inr l) = ap is_eq (greater_from (answer folder (get_or cs k d)) (from k d l within))
      other e k d within (inl l) =
          let last : answer folder (get_or cs (end - 1) d) ≡ Less =
          here d ∙ is_le_only o (ap is_le (sym (here d)) ∙ upto (end - 1) d (omega arith)) e in
          lt_not_eq _ (by2 (cases_lt k (end - 1)) last)
        where
          by2 : (k < end - 1) ⊎ (end - 1 ≤ k) → answer folder (get_or cs (end - 1) d) ≡ Less
              → answer folder (get_or cs k d) ≡ Less
          by2 (inl f) last = split.below k (end - 1) d f (omega (arith, fits)) last
          by2 (inr g) last =
              let e : k ≡ end - 1 = omega arith in
              ap (λ i. answer folder (get_or cs i d)) e ∙ last

      by : (b : Bool) → is_eq o ≡ b → is_eq o ≡ has_within cs folder
      by true e = e ∙ sym (any_here (λ c. is_inside_folder folder (change_path c)) cs (end - 1) (
        omega (arith, fits),
        λ d. sym (lies_is folder (change_path (get_or cs (end - 1) d))) ∙ ap is_eq (here d)
            ∙ e,
      ))
      by false e = e ∙ sym (list_any_none (λ c. is_inside_folder folder (change_path c)) cs (λ k d within.
          sym (lies_is folder (change_path (get_or cs k d))) ∙ other e k d within (cases_lt k end)))

pub below_told : (cs : List Change) (place : ℕ) → AreInOrder cs → place < length cs → (d : Change) (folder : List ℕ)
    → (z : Change) → folder ≡ change_path (get_or cs place z) → (end : ℕ) → place + 1 ≤ end
    → (IsRising (map (answer folder) cs)
    → AllWithin (λ o. is_before true o ≡ true) (map (answer folder) cs) 0 (place + 1)
    → IsPartedAt true (map (answer folder) cs) end)
    → (o : Ordering) → HoldsAt (λ q. q ≡ o) (map (answer folder) cs) (end - 1)
    → is_eq o ≡ has_within cs (change_path (get_or cs place d))
below_told cs place up within d folder z is end past parts o read =
    let here : HoldsAt (λ c. folder ≡ change_path c) cs place = λ x. is
    ∙ ap change_path (get_or_default cs place z x within) in
    let split = split_folder folder cs up in
    let front : AllWithin (λ o. is_before true o ≡ true) (map (answer folder) cs) 0 (place + 1) =
    λ k e low high.
    let x = some_of cs place within in
    let less : answer (change_path (get_or cs place x)) (get_or cs k x) ≡ Less = front_folder cs place up within x k
    high in
    ap (is_before true) (at_map (answer folder) cs k x e (omega arith)
    ∙ ap (λ f. answer f (get_or cs k x)) (here x) ∙ less) in
    let p = parts (rising_of (answer folder) cs split) front in
    last_told folder cs end split p o (omega arith)
    (λ x. sym (shift (answer folder) cs (end - 1) x) ∙ read (answer folder x))
    ∙ ap (has_within cs) (here d)

module _ {F : Type 0} (g : Mut F (Bor Change × (Bor Change × Unit {0})) Ordering) (f : F)
    (h : (a : Bor Change × (Bor Change × Unit {0})) (r : Ordering) (f' : F) → Called g f a r f'
    → (r ≡ path_cmp (change_path a.0.now) (change_path a.1.0.now)) × (f' ≡ f)) where
  pub sorted_changes : (cs : List Change) → IsSortedByClosure g f cs → AreInOrder cs
  sorted_changes cs s = s is_change_before weak (always_returns_same g (λ a r. is_lt r
      ≡ is_change_before a.0.now a.1.0.now) f (λ a r f' k. (ap is_lt (h a r f' k).0, (h a r f' k).1)))

  pub stable_changes : (cs ds : List Change) → IsStableByClosure g f cs ds → IsStableBy is_change_before cs ds
  stable_changes cs ds s = s is_change_before weak (always_returns_same g (λ a r. is_lt r
      ≡ is_change_before a.0.now a.1.0.now) f (λ a r f' k. (ap is_lt (h a r f' k).0, (h a r f' k).1)))

abbrev le : Change → Change → Bool
le c d = is_le (path_cmp (change_path c) (change_path d))

not_less : (o p : Ordering) → p ≡ ordering_reverse o → true ≡ is_le o → is_lt p ≡ false
not_less Less p e h = ap is_lt e
not_less Equal p e h = ap is_lt e
not_less Greater p e h = cc

module _ {F : Type 0} (g : Mut F (Bor Change × (Bor Change × Unit {0})) Bool) (f : F)
    (h : (a : Bor Change × (Bor Change × Unit {0})) (r : Bool) (f' : F) → Called g f a r f'
    → (r ≡ is_le (path_cmp (change_path a.0.now) (change_path a.1.0.now))) × (f' ≡ f)) where
  pub rising_changes : (cs : List Change) (r : Bool) → ((e : Change → Change → Bool) → ComputesOnPairs g e f
      → IsAllAdjacentAnswer (λ x y b. b ≡ e x y) cs r) → r ≡ true → AreInOrder cs
  rising_changes cs true told t = λ k d low within.
      let all = told le (always_returns_same g (λ a r. r ≡ le a.0.now a.1.0.now) f h) in
      let c = get_or cs k d in
      let e = get_or cs (k + 1) d in
      not_less (path_cmp (change_path c) (change_path e)) (path_cmp (change_path e) (change_path c))
      (paths_total.antisymm (change_path e) (change_path c)) (all k d within)
  rising_changes cs false told t = cc

-- ---- none that is a folder of another

pub unnested_from : (cs : List Change) → are_nested cs ≡ false → AreUnnested cs
unnested_from cs h = record {
  apart = λ c d p q.
      let none = all_none (λ c. list_any (λ d. is_inside_folder (change_path c) (change_path d)) cs) cs h in
      let here = All-contains (λ c. list_any (λ d. is_inside_folder (change_path c) (change_path d)) cs ≡ false) cs c
      none p in
      All-contains (λ d. is_inside_folder (change_path c) (change_path d) ≡ false) cs d
      (all_none (λ d. is_inside_folder (change_path c) (change_path d)) cs here) q;
}

nested_back : (cs ds : List Change) → IsPermutation cs ds → are_nested cs ≡ false → are_nested ds ≡ false
nested_back cs ds same h =
    let u = unnested_from cs h in
    let back = IsPermutation-sym cs ds same in
    list_any_none (λ c. list_any (λ d. is_inside_folder (change_path c) (change_path d)) ds) ds (λ k c within.
    let x = get_or ds k c in
    let here = Contains-permutation ds cs x back (Contains-get_or ds k c within) in
    list_any_none (λ d. is_inside_folder (change_path x) (change_path d)) ds (λ i d w.
    u.apart x (get_or ds i d) here (Contains-permutation ds cs (get_or ds i d) back (Contains-get_or ds i d w))))

pub nested_too : (cs ds : List Change) → IsPermutation cs ds → are_nested ds ≡ true → are_nested cs ≡ true
nested_too cs ds same h = by (are_nested cs) refl
  where
    by : (b : Bool) → are_nested cs ≡ b → are_nested cs ≡ true
    by true e = e
    by false e = let both : true ≡ false = sym h ∙ nested_back cs ds same e in cc

-- ---- the properties of a copy

pub copied : (none cs copy : List Change) → copy ≡ none ++ cs → none ≡ [] → copy ≡ cs
copied none cs copy e f = e ∙ ap (λ l. l ++ cs) f
