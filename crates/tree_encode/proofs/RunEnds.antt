-- The end of the records that continue alike after a front, and what they stage.
use Rattle.std.proofs.Common.{◌≡◌, ℕ, zero, suc, ◌+◌, ◌-◌, ◌<◌, ◌≤◌, List, [], ◌∷◌, ◌++◌, All, true}
use Rattle.std.proofs.Common.{false, Option, Some, length, map, take, drop, get_or, get_or-drop, refl, sym}
use Rattle.std.proofs.Common.{ap, subst, ◌∙◌, arith}
use Rattle.std.specs.Prelude.{◌≢◌, slice_range}
use Rattle.std.specs.List.{AllWithin, HoldsAt}
use Rattle.std.specs.Option.{option_map}
use Rattle.std.specs.Ordering.{is_le}
use Rattle.std.specs.declared.cmp.Ordering.{Ordering}
use Rattle.std.specs.declared.cmp.Ordering.TheVariants.{Less, Equal, Greater}
use Rattle.std.proofs.Math.ListN.{get_or-map}
use Rattle.std.proofs.lemmas.Cmp.{nat_list_cmp_total, tied_itself}
use Rattle.std.proofs.lemmas.List.{drop-drop, get_or-take, get_or_default, length-map, length-take, length-drop}
use Rattle.std.proofs.lemmas.List.{take-append-drop}
use Rattle.std.proofs.lemmas.List.Prefix.{front_rest}
use Rattle.std.proofs.lemmas.Map.Lookups.{exact_bytes}
use Rattle.entry_list.specs.Order.{IsStrictlyOrdered, path_cmp}
use Rattle.entry_list.specs.Record.{Record}
use Rattle.entry_list.proofs.Orders.{paths_total}
use Rattle.base_search.specs.Halving.{IsPartedAt, IsRising, is_before}
use Rattle.base_search.specs.Prefix.{prefix_cmp}
use Rattle.base_search.proofs.Halving.{split_by}
use Rattle.entry_lookup.proofs.Lookup.{ordered_by_path}
use Rattle.base_search.proofs.Prefixes.{prefixes_rise}
use Rattle.base_search.proofs.OrderedAnswers.{rising_of}
use Rattle.tree_encode.specs.EndSteps.{ContinuesAt, NeverFall, tail_answers}
use Rattle.tree_encode.specs.Refusals.{HasPathPrefix}
use Rattle.tree_encode.specs.Staged.{staged_entry, staged_in, staged_of}
use Rattle.tree_encode.specs.WritingSteps.{Goes}
use Rattle.tree_encode.specs.declared.leaf.Leaf.{Leaf}
use Rattle.tree_encode.proofs.Checked.{some_staged, staged_each}
use Rattle.tree_encode.proofs.Ranges.{no_record}
use Rattle.tree_encode.proofs.Ready.{cancel}

-- ---- a list of bytes that begins with another compares equal to it

front_of : (shown rest : List ℕ) → take (length shown) (shown ++ rest) ≡ shown
front_of [] rest = refl
front_of (b ∷ shown) rest = ap (λ (l : List ℕ). b ∷ l) (front_of shown rest)

pub goes_equal : (shown tail : List ℕ) → HasPathPrefix tail shown → prefix_cmp shown tail ≡ Equal
goes_equal shown tail b =
    ap (λ (l : List ℕ). path_cmp (take (length shown) l) shown) b.1
    ∙ ap (λ (l : List ℕ). path_cmp l shown) (front_of shown b.0) ∙ tied_itself nat_list_cmp_total shown

pub equal_goes : (shown tail : List ℕ) → prefix_cmp shown tail ≡ Equal → HasPathPrefix tail shown
equal_goes shown tail e = (
  drop (length shown) tail,
  sym (take-append-drop (length shown) tail)
      ∙ ap (λ (l : List ℕ). l ++ drop (length shown) tail) (exact_bytes (take (length shown) tail) shown e),
)

-- ---- a range of a list

pub range_at : {X : Type 0} (xs : List X) (a b k : ℕ) (d : X) → a + k < b
    → get_or (slice_range xs a b) k d ≡ get_or xs (a + k) d
range_at xs a b k d lt = get_or-take (b - a) (drop a xs) k d (omega (arith, lt)) ∙ get_or-drop a xs k d

pub range_length : {X : Type 0} (xs : List X) (a b : ℕ) → b ≤ length xs → length (slice_range xs a b) ≡ b - a
range_length xs a b within = omega (arith, within, length-take (b - a) (drop a xs), length-drop a xs)

pub range_inside : {X Y : Type 0} (f : X → Y) (xs : List X) (a b k : ℕ) → k < length (map f (slice_range xs a b))
    → a + k < b
range_inside f xs a b k lt =
    omega (arith, lt, length-map (slice_range xs a b) f, length-take (b - a) (drop a xs), length-drop a xs)

pub all_in_range : {X : Type 0} (P : X → Type 0) (xs : List X) (a b : ℕ) → b ≤ length xs → AllWithin P xs a b
    → All P (slice_range xs a b)
all_in_range P xs a b within h k d lt =
    let inside : a + k < b = omega (arith, lt, range_length xs a b within) in
    subst P (sym (range_at xs a b k d inside)) (h (a + k) d (omega arith) inside)

-- ---- the answers of a run

le_from : (o : Ordering) → is_le o ≡ true → (o ≡ Less → ⊥) → o ≡ Equal
le_from Less e n = absurd (n refl)
le_from Equal e n = refl
le_from Greater e n = cc

module _ (front : ℕ) (shown : List ℕ) (rs : List Record) (start end : ℕ) (more : start < end) (within : end ≤ length rs)
    (first : HoldsAt (ContinuesAt front shown) rs start) (order : NeverFall front rs start end) where
  abbrev run : List Record
  run = slice_range rs start end

  abbrev answer : Record → Ordering
  answer r = prefix_cmp shown (drop front r.path)

  abbrev os : List Ordering
  os = tail_answers front shown run

  pub count : length os ≡ end - start
  count = length-map run answer ∙ range_length rs start end within

  at : (k : ℕ) (d : Record) → start + k < end → get_or os k (answer d) ≡ answer (get_or rs (start + k) d)
  at k d lt = get_or-map answer run k d ∙ ap answer (range_at rs start end k d lt)

  pub rising : IsRising os
  rising = rising_of answer run
      (split_by paths_total (λ (r : Record). take (length shown) (drop front r.path)) shown run
      (λ i j d before inside. prefixes_rise (length shown) _ _ (falls i j d before
      (omega (arith, inside, range_length rs start end within)))))
    where
      falls : (i j : ℕ) (d : Record) → i < j → start + j < end
          → path_cmp (drop front (get_or run i d).path) (drop front (get_or run j d).path) ≢ Greater
      falls i j d before inside =
          let a = range_at rs start end i d (omega (arith, before, inside)) in
          let b = range_at rs start end j d inside in
          subst (λ (r : Record). path_cmp (drop front (get_or run i d).path) (drop front r.path) ≢ Greater) (sym b)
          (subst (λ (r : Record). path_cmp (drop front r.path)
          (drop front (get_or rs (start + j) d).path) ≢ Greater) (sym a)
          (order (start + i) (start + j) d (omega arith) (omega (arith, before)) inside))

  first_equal : (d : Record) → get_or os 0 (answer d) ≡ Equal
  first_equal d =
      let none : start + 0 ≡ start = omega arith in
      at 0 d (omega (arith, more)) ∙ ap (λ (k : ℕ). answer (get_or rs k d)) none
      ∙ goes_equal shown (drop front (get_or rs start d).path) (first d)

  pub one_before : AllWithin (λ o. is_before true o ≡ true) os 0 1
  one_before k e low high =
      let none : k ≡ 0 = omega (arith, high) in
      ap (λ (i : ℕ). is_le (get_or os i e)) none
      ∙ ap is_le (get_or_default os 0 e (answer no_record) (omega (arith, count, more)) ∙ first_equal no_record)

  module _ (i : ℕ) (part : IsPartedAt true os i) where
    pub fits : start + i ≤ end
    fits = omega (arith, part.in_range, count, more)

    pub run_goes : AllWithin (ContinuesAt front shown) rs start (start + i)
    run_goes k d low high =
        let there : start + (k - start) ≡ k = omega (arith, low) in
        let n : ℕ = k - start in
        let inside : start + n < end = omega (arith, there, high, fits) in
        let here : get_or os n (answer d) ≡ answer (get_or rs k d) =
        at n d inside ∙ ap (λ (j : ℕ). answer (get_or rs j d)) there in
        let before : is_le (get_or os n (answer d)) ≡ true =
        part.before n (answer d) (omega arith) (omega (arith, there, high)) in
        equal_goes shown (drop front (get_or rs k d).path)
        (sym here ∙ le_from (get_or os n (answer d)) before (not_less n d inside))
      where
        not_less : (n : ℕ) (d : Record) → start + n < end → get_or os n (answer d) ≡ Less → ⊥
        not_less zero d inside e = let z = first_equal d in absurd (cc (z, e))
        not_less (suc n) d inside e =
            let z = first_equal d in
            let l : get_or os 0 (answer d) ≡ Less =
            rising.below 0 (suc n) (answer d) (omega arith) (omega (arith, count, inside)) e in
            absurd (cc (z, l))

    pub run_stops : AllWithin (λ r. ContinuesAt front shown r → ⊥) rs (start + i) end
    run_stops k d low high b =
        let there : start + (k - start) ≡ k = omega (arith, low) in
        let n : ℕ = k - start in
        let inside : start + n < end = omega (arith, there, high) in
        let here : get_or os n (answer d) ≡ answer (get_or rs k d) =
        at n d inside ∙ ap (λ (j : ℕ). answer (get_or rs j d)) there in
        let behind : is_le (get_or os n (answer d)) ≡ false =
        part.behind n (answer d) (omega (arith, there, low)) (omega (arith, count, inside)) in
        let equal : is_le (get_or os n (answer d)) ≡ true =
        ap is_le (here ∙ goes_equal shown (drop front (get_or rs k d).path) b) in
        absurd (cc (behind, equal))

-- ---- what follows the first component never decreases either

pub fall_behind : (front : ℕ) (shown : List ℕ) (rs : List Record) (start end at stop : ℕ) → NeverFall front rs start end
    → start ≤ at → stop ≤ end → AllWithin (ContinuesAt front shown) rs at stop
    → NeverFall (front + length shown) rs at stop
fall_behind front shown rs start end at stop order low high run i j d from before upto e =
    let p = (get_or rs i d).path in
    let q = (get_or rs j d).path in
    let a = run i d from (omega (arith, before, upto)) in
    let b = run j d (omega (arith, from, before)) upto in
    let same : path_cmp (drop front p) (drop front q)
    ≡ path_cmp (drop (front + length shown) p) (drop (front + length shown) q) =
    ap (λ (l : List ℕ). path_cmp l (drop front q)) a.1 ∙ ap (λ (l : List ℕ). path_cmp (shown ++ a.0) l) b.1
    ∙ cancel shown a.0 b.0 ∙ ap (λ (l : List ℕ). path_cmp l b.0) (sym (tail p a))
    ∙ ap (λ (l : List ℕ). path_cmp (drop (front + length shown) p) l) (sym (tail q b)) in
    order i j d (omega (arith, low, from)) before (omega (arith, upto, high)) (same ∙ e)
  where
    tail : (p : List ℕ) (a : HasPathPrefix (drop front p) shown) → drop (front + length shown) p ≡ a.0
    tail p a = sym (drop-drop (length shown) front p) ∙ front_rest (drop front p) shown a.0 a.1

-- ---- what records stage

pub staged_all : (P : List ℕ → Type 0) (rs : List Record) → All (λ r. P r.path) rs → All (λ s. P s.path) (staged_in rs)
staged_all P = staged_each (λ r. P r.path) (λ s. P s.path) (λ r s h e. subst P (sym (some_staged r s e).0) h)

module _ (front : ℕ) (shown : List ℕ) (rs : List Record) (a b : ℕ) (within : b ≤ length rs) where
  pub goes_staged : AllWithin (ContinuesAt front shown) rs a b → All (Goes front shown) (staged_in (slice_range rs a b))
  goes_staged h = staged_all (λ (p : List ℕ). HasPathPrefix (drop front p) shown) (slice_range rs a b)
      (all_in_range (ContinuesAt front shown) rs a b within h)

  pub stops_staged : AllWithin (λ r. ContinuesAt front shown r → ⊥) rs a b
      → All (λ s. Goes front shown s → ⊥) (staged_in (slice_range rs a b))
  stops_staged h = staged_all (λ (p : List ℕ). HasPathPrefix (drop front p) shown → ⊥) (slice_range rs a b)
      (all_in_range (λ r. ContinuesAt front shown r → ⊥) rs a b within h)

-- the record of a leaf goes on with its first component
pub leaf_goes : (front : ℕ) (shown rest tail : List ℕ) (r : Record) (o : Option Leaf) (leaf : Leaf) → o ≡ Some leaf
    → option_map staged_of o ≡ staged_entry r → tail ≡ drop front leaf.path.now → tail ≡ shown ++ rest
    → ContinuesAt front shown r
leaf_goes front shown rest tail r o leaf is e tailed parts =
    let path = (some_staged r (staged_of leaf) (sym e ∙ ap (option_map staged_of) is)).0 in
    (rest, ap (drop front) (sym path) ∙ sym tailed ∙ parts)

-- at first paths never fall
pub fall_whole : (rs : List Record) (n : ℕ) → n ≤ length rs → IsStrictlyOrdered rs → NeverFall 0 rs 0 n
fall_whole rs n within order i j d from before upto =
    (ordered_by_path rs order).never_falls i j d before (omega (arith, upto, within))
