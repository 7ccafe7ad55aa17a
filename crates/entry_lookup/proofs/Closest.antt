-- The consequences of a run at a directory, or below it, for the index that is searched for.
use Rattle.std.proofs.Common.{◌≡◌, ℕ, suc, ◌<◌, ◌≤◌, ◌⊎◌, inl, inr, Bool, true, false, List, [], ◌∷◌, ◌++◌, length}
use Rattle.std.proofs.Common.{get_or, map, All, Option, Some, None, Result, Ok, Err, IfOk, IfErr, refl, sym, ap, ◌∙◌}
use Rattle.std.proofs.Common.{subst, arith}
use Rattle.std.proofs.Math.ListN.{get_or-map as shift}
use Rattle.std.specs.List.{HoldsAt, list_any, position}
use Rattle.std.specs.Ordering.{is_eq}
use Rattle.std.specs.Result.{result_ok}
use Rattle.std.specs.Prelude.{◌||◌, IfSome, is_some, option_and_then, slice_get}
use Rattle.std.specs.Bool.{OnTrue}
use Rattle.std.specs.declared.cmp.Ordering.{Ordering}
use Rattle.std.specs.declared.cmp.Ordering.TheVariants.{Less, Equal, Greater}
use Rattle.std.proofs.lemmas.Bool.{cases_lt}
use Rattle.std.proofs.lemmas.List.{get_or-map, length-map}
use Rattle.std.proofs.lemmas.List.Folds.{list_any_at}
use Rattle.std.proofs.lemmas.Option.{slice_get-get_or}
use Rattle.entry_list.specs.declared.Entry.{Entry}
use Rattle.entry_list.specs.Record.{Record, record_in, records_in}
use Rattle.entry_lookup.specs.Closest.{closest, is_below, is_itself, stands_in}
use Rattle.entry_lookup.specs.Range.{is_at}
use Rattle.base_search.specs.Halving.{IsEqualAt, IsGapAt, IsPartedAt}
use Rattle.base_search.specs.Prefix.{prefix_cmp}
use Rattle.base_search.proofs.Halving.{position_is, position_none}
use Rattle.base_search.proofs.Parting.{less_from}
use Rattle.entry_lookup.proofs.RunsFound.{begins_is}

pub any_none : {X : Type 0} (p : X → Bool) (xs : List X) → All (λ x. p x ≡ false) xs → list_any p xs ≡ false
any_none p [] h = refl
any_none p (x ∷ xs) h = rw (h 0 x (omega arith)) (any_none p xs (λ k d within. h (suc k) d (omega arith)))

-- ---- the first below a directory

module _ (directory : List ℕ) (rs : List Record) where
  abbrev answer : Record → Ordering
  answer r = prefix_cmp (directory ++ 47 ∷ []) r.path

  below_is : (o : Ordering) (k : ℕ) (d : Record) → prefix_cmp (directory ++ 47 ∷ []) (get_or rs k d).path ≡ o
      → is_below directory (get_or rs k d) ≡ is_eq o
  below_is o k d e = sym (begins_is (directory ++ 47 ∷ []) (get_or rs k d)) ∙ ap is_eq e

  pub below_found : (r : Result ℕ ℕ) → IfOk r (IsEqualAt (λ r. prefix_cmp (directory ++ 47 ∷ []) r.path) rs)
      → IfSome (result_ok r) (λ i. (i < length rs) × HoldsAt (λ r. is_below directory r ≡ true) rs i)
  below_found (Ok i) h = (h.in_range, λ d. below_is Equal i d (h.here d))
  below_found (Err i) h = tt

  pub below_first : (r : Result ℕ ℕ) → IfOk r (IsEqualAt (λ r. prefix_cmp (directory ++ 47 ∷ []) r.path) rs)
      → IfOk r (IsPartedAt false (map (λ r. prefix_cmp (directory ++ 47 ∷ []) r.path) rs))
      → IfErr r (IsGapAt (λ r. prefix_cmp (directory ++ 47 ∷ []) r.path) rs)
      → result_ok r ≡ position (is_below directory) rs
  below_first (Ok i) here first gap = sym (position_is (is_below directory) rs i here.in_range
      (λ k d l u. below_is Less k d (sym (shift answer rs k d) ∙ less_from _ (first.before k (answer d) l u)))
      (λ d. below_is Equal i d (here.here d)))
  below_first (Err i) here first gap =
      sym (position_none (is_below directory) rs (λ k d within. by k d within (cases_lt k i)))
    where
      by : (k : ℕ) (d : Record) → k < length rs → (k < i) ⊎ (i ≤ k) → is_below directory (get_or rs k d) ≡ false
      by k d within (inl u) = below_is Less k d (gap.below k d (omega arith) u)
      by k d within (inr l) = below_is Greater k d (gap.above k d l within)

-- ---- at the directory, or else below it

pub closest_at : (directory : List ℕ) (rs : List Record) (r : Option ℕ) → list_any (is_at directory) rs ≡ true
    → r ≡ position (is_itself directory) rs → r ≡ closest directory rs
closest_at directory rs r there e = rw there e

pub closest_below : (directory : List ℕ) (rs : List Record) (r : Option ℕ) → list_any (is_at directory) rs ≡ false
    → r ≡ position (is_below directory) rs → r ≡ closest directory rs
closest_below directory rs r none e = rw none e

or_first : (a b : Bool) → a ≡ true → (a || b) ≡ true
or_first a b e = rw e refl

or_second : (a b : Bool) → b ≡ true → (a || b) ≡ true
or_second true b e = refl
or_second false b e = e

pub itself_in : (directory : List ℕ) (rs : List Record) (i : ℕ)
    → (i < length rs) × HoldsAt (λ r. is_itself directory r ≡ true) rs i
    → (i < length rs) × HoldsAt (λ r. stands_in directory r ≡ true) rs i
itself_in directory rs i h = (h.0, λ d. or_first _ _ (h.1 d))

pub below_in : (directory : List ℕ) (rs : List Record) (i : ℕ)
    → (i < length rs) × HoldsAt (λ r. is_below directory r ≡ true) rs i
    → (i < length rs) × HoldsAt (λ r. stands_in directory r ≡ true) rs i
below_in directory rs i h = (h.0, λ d. or_second _ _ (h.1 d))

-- ---- the entry at a place that a definition gives

pub entry_given : (storage : List ℕ) (es : List Entry) (i : ℕ) (z : Entry) (o : Option ℕ)
    → i < length (records_in storage es) → Some i ≡ o → Some (get_or es i z) ≡ option_and_then (slice_get es) o
entry_given storage es i z o within same =
    sym (slice_get-get_or es i z (omega (arith, length-map es (record_in storage))))
    ∙ ap (option_and_then (slice_get es)) same

pub holds_entry : (P : Record → Type 0) (storage : List ℕ) (es : List Entry) (i : ℕ) (z : Entry)
    → (i < length (records_in storage es)) × HoldsAt P (records_in storage es) i → P (record_in storage (get_or es i z))
holds_entry P storage es i z h = subst P (get_or-map (record_in storage) es i z (record_in storage z)
    (omega (arith, h.0, length-map es (record_in storage)))) (h.1 (record_in storage z))

pub any_here : {X : Type 0} (p : X → Bool) (xs : List X) (i : ℕ) → (i < length xs) × HoldsAt (λ x. p x ≡ true) xs i
    → list_any p xs ≡ true
any_here p [] i h = absurd (omega (arith, h.0))
any_here p (x ∷ xs) i h = list_any_at p (x ∷ xs) i x h.0 (h.1 x)

pub any_given : (p : Record → Bool) (rs : List Record) (r : Option ℕ)
    → IfSome r (λ i. (i < length rs) × HoldsAt (λ x. p x ≡ true) rs i) → OnTrue (is_some r) (list_any p rs ≡ true)
any_given p rs (Some i) h = any_here p rs i h
any_given p rs None h = tt
