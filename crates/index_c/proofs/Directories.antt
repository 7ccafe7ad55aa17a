-- Which searched rows are a directory or below it.
use Rattle.std.proofs.Common.{◌≡◌, ℕ, ◌<◌, ◌≤◌, ◌⊎◌, inl, inr, Bool, true, false, List, [], ◌∷◌, ◌++◌, length, get_or}
use Rattle.std.proofs.Common.{map, Option, Some, None, refl, sym, ap, ◌∙◌, subst, arith}
use Rattle.std.proofs.Math.ListN.{get_or-map as shift}
use Rattle.std.specs.List.{AllWithin, HoldsAt, list_any, position}
use Rattle.std.specs.Ordering.{is_eq, is_lt}
use Rattle.std.specs.Prelude.{IfSome}
use Rattle.std.specs.declared.cmp.Ordering.{Ordering}
use Rattle.std.specs.declared.cmp.Ordering.TheVariants.{Less, Equal, Greater}
use Rattle.std.proofs.lemmas.Bool.{cases_lt}
use Rattle.std.proofs.lemmas.List.{append-nil, get_or-map as at_map, length-map}
use Rattle.gix_index.specs.Closest.{is_below, is_itself, stands_in}
use Rattle.gix_index.specs.Order.{IsOrderedByPath, path_cmp}
use Rattle.gix_index.specs.Range.{is_at}
use Rattle.gix_index.specs.Record.{Record}
use Rattle.entry_lookup.specs.SearchSteps.{prefix_answers}
use Rattle.entry_lookup.proofs.Closest.{any_none, below_in}
use Rattle.entry_lookup.proofs.Lookup.{split_by_path}
use Rattle.entry_lookup.proofs.RunsFound.{at_is}
use Rattle.base_search.specs.Halving.{IsPartedAt}
use Rattle.base_search.specs.Prefix.{prefix_cmp}
use Rattle.base_search.proofs.Halving.{position_is, position_none}
use Rattle.base_search.proofs.Parting.{less_from}
use Rattle.base_search.proofs.Prefixes.{below_by_prefix}

-- what is below a directory is in it
pub below_stands : (directory : List ℕ) (rs : List Record) (count : ℕ) (o : Option ℕ) → length rs ≡ count
    → IfSome o (λ i. (i < count) × HoldsAt (λ r. is_below directory r ≡ true) rs i)
    → IfSome o (λ i. (i < count) × HoldsAt (λ r. stands_in directory r ≡ true) rs i)
below_stands directory rs count (Some i) many h =
    let inside : i < length rs = omega (arith, h.0, many) in (h.0, (below_in directory rs i (inside, h.1)).1)
below_stands directory rs count None many h = tt

-- ---- the first index at which paths aren't below the directory's

same_answers : (f g : Record → Ordering) (b : Bool) (rs : List Record) (from to : ℕ) → to ≤ length rs
    → ((r : Record) → is_lt (g r) ≡ is_lt (f r))
    → AllWithin (λ o. is_lt o ≡ b) (map f rs) from to → AllWithin (λ o. is_lt o ≡ b) (map g rs) from to
same_answers f g b [] from to fits same h k d l u = absurd (omega arith)
same_answers f g b (x ∷ rs) from to fits same h k d l u =
    ap is_lt (at_map g (x ∷ rs) k x d (omega arith)) ∙ same (get_or (x ∷ rs) k x) ∙ ap is_lt
    (sym (at_map f (x ∷ rs) k x d (omega arith))) ∙ h k d l u

module _ (directory : List ℕ) (rs : List Record) (low : ℕ) where
  abbrev by_front : Record → Ordering
  by_front r = prefix_cmp directory r.path

  abbrev by_path : Record → Ordering
  by_path r = path_cmp r.path directory

  parted_paths : IsPartedAt false (map by_front rs) low → IsPartedAt false (map by_path rs) low
  parted_paths h =
      let fronts : length (map by_front rs) ≡ length rs = length-map rs by_front in
      let paths : length (map by_path rs) ≡ length rs = length-map rs by_path in
      record {
        in_range = omega (arith, h.in_range, fronts, paths);
        before = same_answers by_front by_path true rs 0 low (omega (arith, h.in_range, fronts))
            (λ r. below_by_prefix r.path directory) h.before;
        behind = λ k d l u. same_answers by_front by_path false rs low (length rs) (omega arith)
            (λ r. below_by_prefix r.path directory) (λ i e a c. h.behind i e a (omega (arith, c, fronts))) k d l
            (omega (arith, u, paths));
      }

  pub parted_at : IsPartedAt false (prefix_answers (directory ++ []) rs) low
      → IsPartedAt false (map (λ r. path_cmp r.path directory) rs) low
  parted_at h = parted_paths
      (subst (λ (p : List ℕ). IsPartedAt false (prefix_answers p rs) low) (append-nil directory) h)

  above_from : (o : Ordering) → is_lt o ≡ false → is_eq o ≡ false → o ≡ Greater
  above_from Less e f = cc
  above_from Equal e f = cc
  above_from Greater e f = refl

  module _ (parted : IsPartedAt false (map (λ r. path_cmp r.path directory) rs) low) where
    -- those before the first that isn't below are elsewhere
    front_other : (k : ℕ) (d : Record) → k < low → is_at directory (get_or rs k d) ≡ false
    front_other k d before =
        let less : path_cmp (get_or rs k d).path directory ≡ Less =
        sym (shift by_path rs k d) ∙ less_from _ (parted.before k (by_path d) (omega arith) before) in
        sym (at_is directory (get_or rs k d)) ∙ ap is_eq less

    -- and so are those from one on that is elsewhere
    module _ (o : IsOrderedByPath rs) (place : ℕ) (from : low ≤ place) (within : place < length rs)
        (other : HoldsAt (λ r. is_at directory r ≡ false) rs place) where
      above : (d : Record) → path_cmp (get_or rs place d).path directory ≡ Greater
      above d = above_from _
          (ap is_lt (sym (shift by_path rs place d)) ∙ parted.behind place (by_path d) from
          (omega (arith, within, length-map rs by_path))) (at_is directory (get_or rs place d) ∙ other d)

      behind_other : (k : ℕ) (d : Record) → place ≤ k → k < length rs → is_at directory (get_or rs k d) ≡ false
      behind_other k d low high = by (cases_lt place k)
        where
          by : (place < k) ⊎ (k ≤ place) → is_at directory (get_or rs k d) ≡ false
          by (inl after) = sym (at_is directory (get_or rs k d)) ∙ ap is_eq
              ((split_by_path directory rs o).above place k d after high (above d))
          by (inr upto) = let same : k ≡ place =
              omega arith in ap (λ (i : ℕ). is_at directory (get_or rs i d)) same ∙ other d

    -- no row is at the directory, if none is at the first index that isn't below it
    pub none_at : IsOrderedByPath rs → (low < length rs → HoldsAt (λ r. is_at directory r ≡ false) rs low)
        → list_any (is_at directory) rs ≡ false
    none_at o other = any_none (is_at directory) rs (λ k d within. by k d within (cases_lt k low))
      where
        by : (k : ℕ) (d : Record) → k < length rs → (k < low) ⊎ (low ≤ k) → is_at directory (get_or rs k d) ≡ false
        by k d within (inl before) = front_other k d before
        by k d within (inr from) = let inside : low < length rs =
            omega arith in behind_other o low (omega arith) inside (other inside) k d from within

    -- ---- the first that is the directory itself, if those from low up to an index aren't

    not_itself : (r : Record) → is_at directory r ≡ false → is_itself directory r ≡ false
    not_itself r e = rw e refl

    module _ (place : ℕ) (passed : AllWithin (λ r. is_itself directory r ≡ false) rs low place) where
      so_far : (k : ℕ) (d : Record) → k < place → is_itself directory (get_or rs k d) ≡ false
      so_far k d before = by (cases_lt k low)
        where
          by : (k < low) ⊎ (low ≤ k) → is_itself directory (get_or rs k d) ≡ false
          by (inl front) = not_itself (get_or rs k d) (front_other k d front)
          by (inr from) = passed k d from before

      pub itself_at : place < length rs → HoldsAt (λ r. is_itself directory r ≡ true) rs place
          → Some place ≡ position (is_itself directory) rs
      itself_at within here =
          sym (position_is (is_itself directory) rs place within (λ k d from before. so_far k d before) here)

      pub none_itself : length rs ≤ place → None ≡ position (is_itself directory) rs
      none_itself past = sym (position_none (is_itself directory) rs (λ k d within. so_far k d (omega arith)))

      pub none_past : IsOrderedByPath rs → low ≤ place → place < length rs
          → HoldsAt (λ r. is_at directory r ≡ false) rs place → None ≡ position (is_itself directory) rs
      none_past o from within other =
          sym (position_none (is_itself directory) rs (λ k d inside. by k d inside (cases_lt k place)))
        where
          by : (k : ℕ) (d : Record) → k < length rs → (k < place) ⊎ (place ≤ k)
              → is_itself directory (get_or rs k d) ≡ false
          by k d inside (inl before) = so_far k d before
          by k d inside (inr behind) =
              not_itself (get_or rs k d) (behind_other o place from within other k d behind inside)
