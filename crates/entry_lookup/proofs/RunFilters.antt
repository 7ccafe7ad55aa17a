-- The elements at the indices that pass a test are the filter of the list.
use Rattle.std.proofs.Common.{◌≡◌, ℕ, zero, suc, ◌-◌, ◌≤◌, Bool, true, false, List, [], ◌∷◌, ◌++◌, length, take, drop}
use Rattle.std.proofs.Common.{map, All, Option, Some, None, refl, sym, ap, ◌∙◌, arith}
use Rattle.std.specs.Prelude.{filter, slice_range}
use Rattle.std.specs.List.{AllWithin}
use Rattle.std.specs.Option.{option_map, unwrap_or}
use Rattle.std.proofs.lemmas.List.{take-map, drop-map}
use Rattle.std.specs.declared.ops.Range.{Range}
use Rattle.entry_list.specs.Record.{Record}
use Rattle.entry_lookup.specs.Closest.{is_below}
use Rattle.entry_lookup.specs.Range.{IsRun, IsRange, IsPrefixRange, begins_with, part_at, part_of}

-- ---- of a run

filter_none : {X : Type 0} (test : X → Bool) (xs : List X) → All (λ x. test x ≡ false) xs → filter test xs ≡ []
filter_none test [] h = refl
filter_none test (x ∷ xs) h = rw (h 0 x (omega arith)) (filter_none test xs (λ k d u. h (suc k) d (omega arith)))

front : {X : Type 0} (test : X → Bool) (xs : List X) (end : ℕ) → AllWithin (λ x. test x ≡ true) xs 0 end
    → AllWithin (λ x. test x ≡ false) xs end (length xs) → end ≤ length xs → take end xs ≡ filter test xs
front test [] zero within behind fits = refl
front test [] (suc n) within behind fits = refl
front test (x ∷ xs) zero within behind fits = sym (filter_none test (x ∷ xs) (λ k d u. behind k d (omega arith) u))
front test (x ∷ xs) (suc n) within behind fits =
    let rest = front test xs n (λ k d l u. within (suc k) d (omega arith) (omega arith))
    (λ k d l u. behind (suc k) d (omega arith) (omega arith)) (omega arith) in
    rw (within 0 x (omega arith) (omega arith)) (ap (λ l. x ∷ l) rest)

pub run_is_filter : {X : Type 0} (test : X → Bool) (xs : List X) (start end : ℕ) → IsRun test xs start end
    → slice_range xs start end ≡ filter test xs
run_is_filter test xs zero end run =
    let e : end - 0 ≡ end = omega arith in
    ap (λ n. take n xs) e ∙ front test xs end run.within run.behind run.in_range
run_is_filter test [] (suc start) end run = absurd (omega (arith, run.in_order, run.in_range))
run_is_filter test (x ∷ xs) (suc start) end run =
    let e : end - suc start ≡ (end - 1) - start = omega arith in
    let rest : IsRun test xs start (end - 1) = record {
      in_order = omega (arith, run.in_order);
      in_range = omega (arith, run.in_order, run.in_range);
      before = λ k d l u. run.before (suc k) d (omega arith) (omega arith);
      within = λ k d l u. run.within (suc k) d (omega arith) (omega arith);
      behind = λ k d l u. run.behind (suc k) d (omega (arith, run.in_order)) (omega arith);
    } in
    ap (λ n. take n (drop start xs)) e
    ∙ (run_is_filter test xs start (end - 1) rest ∙ rw (run.before 0 x (omega arith) (omega arith)) refl)

-- ---- of what a lookup gives

pub range_is_filter : {X : Type 0} (test : X → Bool) (xs : List X) (range : Option (Range ℕ)) → IsRange test xs range
    → part_of xs range ≡ filter test xs
range_is_filter test xs None h = sym (filter_none test xs h)
range_is_filter test xs (Some p) h = run_is_filter test xs p.start p.end h.1

all_begin : (rs : List Record) → IsRun (begins_with []) rs 0 (length rs)
all_begin rs = record {
  in_order = omega arith;
  in_range = omega arith;
  before = λ k d l u. absurd (omega arith);
  within = λ k d l u. refl;
  behind = λ k d l u. absurd (omega arith);
}

pub prefix_is_filter : (prefix : List ℕ) (rs : List Record) (range : Option (Range ℕ)) → IsPrefixRange prefix rs range
    → part_of rs range ≡ filter (begins_with prefix) rs
prefix_is_filter [] rs None h = absurd h
prefix_is_filter [] rs (Some p) h = rw (h.0, h.1) (run_is_filter (begins_with []) rs 0 (length rs) (all_begin rs))
prefix_is_filter (b ∷ bs) rs range h = range_is_filter (begins_with (b ∷ bs)) rs range h

pub directory_is_filter : (directory : List ℕ) (rs : List Record) (range : Option (Range ℕ))
    → IsPrefixRange (directory ++ 47 ∷ []) rs range → part_of rs range ≡ filter (is_below directory) rs
directory_is_filter directory rs range h = prefix_is_filter (directory ++ 47 ∷ []) rs range h

-- ---- of entries, if the test is one of their records

pub map_part : {X Y : Type 0} (f : X → Y) (xs : List X) (range : Option (Range ℕ))
    → map f (part_of xs range) ≡ part_of (map f xs) range
map_part f xs None = refl
map_part f xs (Some p) =
    sym (take-map f (p.end - p.start) (drop p.start xs)) ∙ ap (take (p.end - p.start)) (sym (drop-map f p.start xs))

-- ---- of the part that a lookup lends, or None

pub lent_is_part : {X : Type 0} (xs : List X) (range : Option (Range ℕ)) (lent : Option (List X))
    → lent ≡ option_map (part_at xs) range → unwrap_or lent [] ≡ part_of xs range
lent_is_part xs None lent e = ap (λ l. unwrap_or l []) e
lent_is_part xs (Some p) lent e = ap (λ l. unwrap_or l []) e
