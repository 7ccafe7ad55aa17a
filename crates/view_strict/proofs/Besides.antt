-- Which records are below a path.
use Rattle.std.proofs.Common.{◌≡◌, ◌∙◌, ℕ, ◌<◌, ◌≤◌, ◌⊎◌, inl, inr, Bool, true, false, List, length, get_or, map, Some}
use Rattle.std.proofs.Common.{None, Option, refl, sym, ap, subst, arith}
use Rattle.std.proofs.Math.ListN.{get_or-map as shift}
use Rattle.std.specs.List.{AllWithin, HoldsAt, list_any}
use Rattle.std.specs.Prelude.{◌==◌}
use Rattle.std.specs.Ordering.{is_eq, is_le, is_lt, is_ne}
use Rattle.std.specs.declared.cmp.Ordering.{Ordering}
use Rattle.std.specs.declared.cmp.Ordering.TheVariants.{Less, Equal, Greater}
use Rattle.std.proofs.lemmas.Bool.{cases_lt}
use Rattle.std.proofs.lemmas.List.{length-map}
use Rattle.entry_edit.specs.EditSteps.{is_side_at}
use Rattle.entry_list.specs.Order.{record_stage}
use Rattle.entry_list.specs.Record.{Record}
use Rattle.entry_lookup.specs.Range.{begins_with}
use Rattle.entry_lookup.specs.SearchSteps.{prefix_answers}
use Rattle.entry_lookup.proofs.RunsFound.{begins_is}
use Rattle.base_search.specs.Halving.{IsPartedAt, IsRising}
use Rattle.base_search.specs.Prefix.{prefix_cmp}
use Rattle.base_search.proofs.Halving.{position_is}
use Rattle.base_search.proofs.Parting.{behind_middle, greater_from, less_from}
use Rattle.index_parts.specs.Mode.{directory_mode}
use Rattle.view_strict.specs.Beside.{IsFirstPlace, counts_in, directory_prefix, has_sides_beside, is_beside, lies_in}

is_equal : (o : Ordering) → is_ne o ≡ false → is_eq o ≡ true
is_equal Less e = cc
is_equal Equal e = refl
is_equal Greater e = cc

is_above : (o : Ordering) → is_lt o ≡ false → is_ne o ≡ true → is_le o ≡ false
is_above Less e f = cc
is_above Equal e f = cc
is_above Greater e f = refl

module _ (whole : Bool) (path front : List ℕ) (stage : ℕ) (rs : List Record) (same : front ≡ directory_prefix whole
    path) where
  abbrev answer : Record → Ordering
  answer r = prefix_cmp front r.path

  starts : (r : Record) → begins_with (directory_prefix whole path) r ≡ is_eq (answer r)
  starts r = ap (λ (f : List ℕ). begins_with f r) (sym same) ∙ sym (begins_is front r)

  outside : (r : Record) → is_eq (answer r) ≡ false → lies_in whole path stage r ≡ false
  outside r e = rw (starts r ∙ e) refl

  -- none is below it before the first that begins with the prefix
  pub none_before : (low : ℕ) → IsPartedAt false (prefix_answers front rs) low
      → AllWithin (λ r. lies_in whole path stage r ≡ false) rs 0 low
  none_before low parted k d l u =
      let less : answer (get_or rs k d) ≡ Less =
      sym (shift answer rs k d) ∙ less_from _ (parted.before k (answer d) l u) in
      outside (get_or rs k d) (ap is_eq less)

  module _ (place : ℕ) (within : place < length rs) (o : Ordering)
      (read : HoldsAt (λ q. q ≡ o) (prefix_answers front rs) place) where
    -- one that begins with the prefix is below it if it counts
    pub here : (b : Bool) → is_ne o ≡ false → HoldsAt (λ r. counts_in whole path stage r ≡ b) rs place
        → HoldsAt (λ r. lies_in whole path stage r ≡ b) rs place
    here b e counts d =
        let begins : begins_with (directory_prefix whole path) (get_or rs place d) ≡ true =
        starts (get_or rs place d) ∙ ap is_eq (sym (shift answer rs place d) ∙ read (answer d)) ∙ is_equal o e in
        rw (begins, counts d) refl

    pub found : AllWithin (λ r. lies_in whole path stage r ≡ false) rs 0 place → is_ne o ≡ false
        → HoldsAt (λ r. counts_in whole path stage r ≡ true) rs place
        → IsFirstPlace (lies_in whole path stage) rs (Some place)
    found before e counts =
        (within, position_is (lies_in whole path stage) rs place within before (here true e counts))

    -- after the first that doesn't begin with the prefix none does
    pub none_behind : (low : ℕ) → low ≤ place → IsRising (prefix_answers front rs)
        → IsPartedAt false (prefix_answers front rs) low → AllWithin (λ r. lies_in whole path stage r ≡ false) rs 0 place
        → is_ne o ≡ true → IsFirstPlace (lies_in whole path stage) rs None
    none_behind low from rising parted before e k d inside = by k d inside (cases_lt k place)
      where
        n : length (map answer rs) ≡ length rs
        n = length-map rs answer

        below : Record → is_lt o ≡ false
        below d = sym (ap is_lt (read (answer d))) ∙ parted.behind place (answer d) from (omega (arith, within, n))

        above : (k : ℕ) (d : Record) → place ≤ k → k < length rs → answer (get_or rs k d) ≡ Greater
        above k d l u = sym (shift answer rs k d) ∙ greater_from _
            (behind_middle true (map answer rs) place o (omega (arith, within, n)) read (is_above o (below d) e) rising k
            (answer d) l (omega (arith, u, n)))

        by : (k : ℕ) (d : Record) → k < length rs → (k < place) ⊎ (place ≤ k)
            → lies_in whole path stage (get_or rs k d) ≡ false
        by k d inside (inl f) = before k d (omega arith) f
        by k d inside (inr l) = outside (get_or rs k d) (ap is_eq (above k d l inside))

  -- none is below it at all
  pub none_at_all : (place : ℕ) → length rs ≤ place → AllWithin (λ r. lies_in whole path stage r ≡ false) rs 0 place
      → IsFirstPlace (lies_in whole path stage) rs None
  none_at_all place past before k d inside = before k d (omega arith) (omega (arith, past, inside))

-- the first index for a record is that for its path, if it is a sparse directory or has this stage
pub place_of_record : (rs : List Record) (whole : Bool) (path : List ℕ) (stage : ℕ) (r : Record) (place : Option ℕ)
    → whole ≡ (r.mode == directory_mode) → r.path ≡ path → stage ≡ record_stage r
    → IsFirstPlace (lies_in whole path stage) rs place → IsFirstPlace (is_beside r) rs place
place_of_record rs whole path stage r place w p s h =
    let A : Bool → Type 0 = λ b. IsFirstPlace (lies_in b r.path (record_stage r)) rs place in
    let B : List ℕ → Type 0 = λ q. IsFirstPlace (lies_in whole q (record_stage r)) rs place in
    let C : ℕ → Type 0 = λ n. IsFirstPlace (lies_in whole path n) rs place in
    subst A w (subst B (sym p) (subst C s h))

-- sides at the path of a merged record
pub sides_of : (r : Record) (rs : List Record) (path : List ℕ) (told : Bool) → (record_stage r == 0) ≡ true
    → r.path ≡ path → told ≡ list_any (is_side_at path) rs → has_sides_beside r rs ≡ told
sides_of r rs path told merged name is = rw (merged, name) (sym is)
