-- Directories and the records below them: the position of a path that is searched for.
use Rattle.std.proofs.Common.{◌≡◌, ℕ, zero, suc, ◌-◌, ◌<◌, ◌≤◌, Bool, false, List, [], ◌∷◌, ◌++◌, length, get_or, take}
use Rattle.std.proofs.Common.{map, All, cond, Option, Some, None, refl, sym, ap, ◌∙◌, arith}
use Rattle.std.proofs.Math.ListN.{get_or-map}
use Rattle.std.specs.List.{AllWithin, count_by}
use Rattle.std.specs.Ordering.{nat_cmp, ordering_then}
use Rattle.std.specs.declared.cmp.Ordering.{Ordering}
use Rattle.std.specs.declared.cmp.Ordering.TheVariants.{Less, Equal, Greater}
use Rattle.std.proofs.lemmas.List.{length-map, get_or-map as at_map}
use Rattle.std.proofs.lemmas.List.Sums.{sum_by-cons}
use Rattle.entry_fields.specs.Flags.{stage_code}
use Rattle.entry_fields.specs.declared.entry.flags.Stage.{Stage}
use Rattle.entry_list.specs.Order.{path_cmp, record_stage}
use Rattle.entry_list.specs.Record.{Record}
use Rattle.entry_lookup.specs.SearchSteps.{asked_cmp}
use Rattle.base_search.specs.Halving.{IsBracket}
use Rattle.base_search.specs.Prefix.{prefix_cmp}
use Rattle.base_search.proofs.Halving.{count_by_is}
use Rattle.entry_lookup.specs.Closest.{is_below}
use Rattle.entry_lookup.specs.SpanSteps.{IsSpan}
use Rattle.entry_lookup.specs.WalkSteps.{SpanValue}
use Rattle.entry_lookup.specs.Range.{IsRun}
use Rattle.base_search.proofs.Parting.{greater_from, less_from}
use Rattle.entry_lookup.proofs.RunsFound.{run_between, run_map, begins_is}

-- ---- paths compare as their prefixes do, if these differ

then_less : (o p q : Ordering) → (p ≡ Less → q ≡ Less) → ordering_then o p ≡ Less → ordering_then o q ≡ Less
then_less Less p q f e = refl
then_less Equal p q f e = f e
then_less Greater p q f e = cc

then_greater : (o p q : Ordering) → (p ≡ Greater → q ≡ Greater) → ordering_then o p ≡ Greater
    → ordering_then o q ≡ Greater
then_greater Less p q f e = cc
then_greater Equal p q f e = f e
then_greater Greater p q f e = refl

pub prefixes_below : (n : ℕ) (x y : List ℕ) → path_cmp (take n x) (take n y) ≡ Less → path_cmp x y ≡ Less
prefixes_below zero x y e = cc
prefixes_below (suc n) [] [] e = e
prefixes_below (suc n) [] (b ∷ y) e = refl
prefixes_below (suc n) (a ∷ x) [] e = e
prefixes_below (suc n) (a ∷ x) (b ∷ y) e = then_less (nat_cmp a b) _ _ (prefixes_below n x y) e

pub prefixes_above : (n : ℕ) (x y : List ℕ) → path_cmp (take n x) (take n y) ≡ Greater → path_cmp x y ≡ Greater
prefixes_above zero x y e = cc
prefixes_above (suc n) [] [] e = e
prefixes_above (suc n) [] (b ∷ y) e = cc
prefixes_above (suc n) (a ∷ x) [] e = refl
prefixes_above (suc n) (a ∷ x) (b ∷ y) e = then_greater (nat_cmp a b) _ _ (prefixes_above n x y) e

-- a path begins with the bytes before its slash, and the slash
pub own_prefix : (path : List ℕ) (slash : ℕ) → slash < length path → get_or path slash 0 ≡ 47
    → take (length (take slash path ++ 47 ∷ [])) path ≡ take slash path ++ 47 ∷ []
own_prefix [] slash within e = absurd (omega arith)
own_prefix (x ∷ path) zero within e = ap (λ (b : ℕ). b ∷ []) e
own_prefix (x ∷ path) (suc slash) within e = ap (λ (bs : List ℕ). x ∷ bs) (own_prefix path slash (omega arith) e)

asked_less : (path : List ℕ) (stage : Option Stage) (r : Record) → path_cmp r.path path ≡ Less
    → asked_cmp path stage r ≡ Less
asked_less path None r e = e
asked_less path (Some stage) r e =
    ap (λ (o : Ordering). ordering_then o (nat_cmp (record_stage r) (stage_code stage))) e

asked_greater : (path : List ℕ) (stage : Option Stage) (r : Record) → path_cmp r.path path ≡ Greater
    → asked_cmp path stage r ≡ Greater
asked_greater path None r e = e
asked_greater path (Some stage) r e =
    ap (λ (o : Ordering). ordering_then o (nat_cmp (record_stage r) (stage_code stage))) e

-- what holds of each record in a part of the list holds of the answers
answers_within : (f : Record → Ordering) (o : Ordering) (rs : List Record) (from to : ℕ) → to ≤ length rs
    → ((k : ℕ) (z : Record) → from ≤ k → k < to → f (get_or rs k z) ≡ o) → AllWithin (λ q. q ≡ o) (map f rs) from to
answers_within f o [] from to fits h k d low high = absurd (omega arith)
answers_within f o (r ∷ rs) from to fits h k d low high = at_map f (r ∷ rs) k r d (omega arith) ∙ h k r low high

module _ (rs : List Record) (s : SpanValue) (span : IsSpan rs s) where
  abbrev prefix : List ℕ
  prefix = s.name ++ 47 ∷ []

  abbrev answer : Record → Ordering
  answer r = prefix_cmp (s.name ++ 47 ∷ []) r.path

  prefix_below : (k : ℕ) (z : Record) → k < s.start → path_cmp (take (length prefix) (get_or rs k z).path) prefix ≡ Less
  prefix_below k z u = ap (λ (o : Ordering). o) (sym (get_or-map answer rs k z))
      ∙ less_from _ (span.starts.before k (answer z) (omega arith) u)

  prefix_above : (k : ℕ) (z : Record) → s.end ≤ k → k < length rs
      → path_cmp (take (length prefix) (get_or rs k z).path) prefix ≡ Greater
  prefix_above k z l u = sym (get_or-map answer rs k z)
      ∙ greater_from _ (span.ends.behind k (answer z) l (omega (arith, length-map rs answer)))

  -- records before the directory's are below each path in it, records after them above
  pub window_of : (path : List ℕ) → take (length (s.name ++ 47 ∷ [])) path ≡ s.name ++ 47 ∷ [] → (stage : Option Stage)
      → IsBracket (map (asked_cmp path stage) rs) s.start s.end
  window_of path own stage = record {
    below = answers_within (asked_cmp path stage) Less rs 0 s.start (omega (arith, span.some, span.in_range))
        (λ k z l u. asked_less path stage (get_or rs k z) (prefixes_below (length prefix) (get_or rs k z).path path
        (ap (path_cmp (take (length prefix) (get_or rs k z).path)) own ∙ prefix_below k z u)));
    above = let n : length (map (asked_cmp path stage) rs) ≡ length rs = length-map rs (asked_cmp path stage) in
        λ k d l u. answers_within (asked_cmp path stage) Greater rs s.end (length rs) (omega arith)
        (λ i z l' u'. asked_greater path stage (get_or rs i z) (prefixes_above (length prefix) (get_or rs i z).path
        path (ap (path_cmp (take (length prefix) (get_or rs i z).path)) own ∙ prefix_above i z l' u'))) k d l
        (omega (arith, n));
  }

  pub run_of_span : IsRun (is_below s.name) rs s.start s.end
  run_of_span = run_map answer (is_below s.name) (begins_is prefix) rs s.start s.end
      (run_between (map answer rs) s.start s.end span.starts span.ends span.some)

-- ---- how many are in a run

pub count_none : {X : Type 0} (p : X → Bool) (xs : List X) → All (λ x. p x ≡ false) xs → count_by p xs ≡ 0
count_none p xs h = count_by_is p xs 0 (omega arith) (λ k d l u. absurd (omega arith)) (λ k d l u. h k d u)

pub count_run : {X : Type 0} (p : X → Bool) (xs : List X) (start end : ℕ) → IsRun p xs start end
    → count_by p xs ≡ end - start
count_run p [] start end run = omega (arith, run.in_range, run.in_order)
count_run p (x ∷ xs) zero end run =
    let e : end ≡ end - 0 = omega arith in
    count_by_is p (x ∷ xs) end run.in_range run.within run.behind ∙ e
count_run p (x ∷ xs) (suc start) end run =
    let rest : count_by p xs ≡ (end - 1) - start = count_run p xs start (end - 1) (record {
      in_order = omega (arith, run.in_order);
      in_range = omega (arith, run.in_range, run.in_order);
      before = λ k d l u. run.before (suc k) d (omega arith) (omega arith);
      within = λ k d l u. run.within (suc k) d (omega arith) (omega arith);
      behind = λ k d l u. run.behind (suc k) d (omega arith) (omega arith);
    }) in
    sum_by-cons (λ y. cond (p y) 1 0) x xs
    ∙ rw (run.before 0 x (omega arith) (omega arith)) (omega (arith, rest, run.in_order))
