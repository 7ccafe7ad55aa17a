-- A list of records in which those that are saved are put first, one after another.
use Rattle.std.proofs.Common.{◌≡◌, ◌≢◌, ◌⊎◌, inl, inr, ℕ, ◌+◌, ◌-◌, ◌<◌, ◌≤◌, List, [], ◌∷◌, ◌++◌, length, take, map}
use Rattle.std.proofs.Common.{get_or, set, All, refl, sym, ap, subst, ◌∙◌, arith}
use Rattle.std.specs.List.{swap}
use Rattle.std.specs.declared.cmp.Ordering.TheVariants.{Less}
use Rattle.std.proofs.lemmas.Bool.{cases_lt}
use Rattle.std.proofs.lemmas.List.{get_or-map, get_or-set_other, get_or-set_same, get_or-take, get_or_default, length-set}
use Rattle.std.proofs.lemmas.List.{length-take, map-set, take-set-le, take_all, take_more, take-map}
use Rattle.std.proofs.lemmas.List.Edits.{length-swap, swap_is}
use Rattle.std.proofs.lemmas.List.Elements.{All-set}
use Rattle.gix_index.specs.EntryType.{Entry}
use Rattle.gix_index.specs.Order.{record_cmp}
use Rattle.gix_index.specs.Record.{Record, record_in, records_in}
use Rattle.gix_index.specs.Sorted.{IsOrdered}
use Rattle.view_salvage.specs.Choice.{IsSortedSelection, with_key_of}
use Rattle.view_salvage.specs.SalvageSteps.{AreKept, IsAbove}
use Rattle.view_salvage.proofs.Saving.{IsAboveLast, above_all, above_last, agrees_with_none, first_at, saved_more}
use Rattle.view_salvage.proofs.Saving.{saved_none, saved_same}

-- ---- two elements in each other's place

module _ {X : Type 0} where
  pub swap_all : (P : X → Type 0) (xs : List X) (i j : ℕ) → i < length xs → j < length xs → All P xs
      → All P (swap xs i j)
  swap_all P [] i j li lj h = h
  swap_all P (x ∷ xs) i j li lj h =
      All-set P (set (x ∷ xs) i (get_or (x ∷ xs) j x)) j (get_or (x ∷ xs) i x) (h i x li)
      (All-set P (x ∷ xs) i (get_or (x ∷ xs) j x) (h j x lj) h)

  swap_first : (xs : List X) (i j : ℕ) (d : X) → i ≤ j → i < length xs → j < length xs
      → get_or (swap xs i j) i d ≡ get_or xs j d
  swap_first xs i j d le li lj =
      let w = set xs i (get_or xs j d) in
      let is : get_or (swap xs i j) i d ≡ get_or (set w j (get_or xs i d)) i d =
      ap (λ (l : List X). get_or l i d) (sym (swap_is xs i j d li lj)) in
      is ∙ by (cases_lt i j)
    where
      by : (i < j) ⊎ (j ≤ i)
          → get_or (set (set xs i (get_or xs j d)) j (get_or xs i d)) i d ≡ get_or xs j d
      by (inl less) =
          let apart : i ≢ j = λ e. absurd (omega arith) in
          get_or-set_other (set xs i (get_or xs j d)) j i (get_or xs i d) d apart
          ∙ get_or-set_same xs i (get_or xs j d) d li
      by (inr more) =
          let e : i ≡ j = omega arith in
          let w = set xs i (get_or xs j d) in
          ap (λ (n : ℕ). get_or (set w j (get_or xs i d)) n d) e
          ∙ get_or-set_same w j (get_or xs i d) d (omega (arith, length-set xs i (get_or xs j d)))
          ∙ ap (λ (n : ℕ). get_or xs n d) e

  swap_behind : (xs : List X) (i j k : ℕ) (d : X) → i ≤ j → j < k → i < length xs → j < length xs
      → get_or (swap xs i j) k d ≡ get_or xs k d
  swap_behind xs i j k d le behind li lj =
      let w = set xs i (get_or xs j d) in
      let i_apart : k ≢ i = λ e. absurd (omega arith) in
      let j_apart : k ≢ j = λ e. absurd (omega arith) in
      ap (λ (l : List X). get_or l k d) (sym (swap_is xs i j d li lj))
      ∙ get_or-set_other w j k (get_or xs i d) d j_apart ∙ get_or-set_other xs i k (get_or xs j d) d i_apart

  swap_before : (xs : List X) (i j : ℕ) (d : X) → i ≤ j → i < length xs → j < length xs
      → take i (swap xs i j) ≡ take i xs
  swap_before xs i j d le li lj =
      ap (λ (l : List X). take i l) (sym (swap_is xs i j d li lj))
      ∙ take-set-le i (set xs i (get_or xs j d)) j (get_or xs i d) le
      ∙ take-set-le i xs i (get_or xs j d) (omega arith)

pub swap_map : {X Y : Type 0} (f : X → Y) (xs : List X) (i j : ℕ) → i < length xs → j < length xs
    → map f (swap xs i j) ≡ swap (map f xs) i j
swap_map f [] i j li lj = refl
swap_map {X} {Y} f (x ∷ xs) i j li lj =
    let a = get_or (x ∷ xs) i x in
    let b = get_or (x ∷ xs) j x in
    map-set f (set (x ∷ xs) i b) j a ∙ ap (λ (l : List Y). set l j (f a)) (map-set f (x ∷ xs) i b)
    ∙ ap (λ (y : Y). set (set (map f (x ∷ xs)) i y) j (f a)) (sym (get_or-map f (x ∷ xs) j x (f x) lj))
    ∙ ap (λ (y : Y). set (set (map f (x ∷ xs)) i (get_or (map f (x ∷ xs)) j (f x))) j y)
    (sym (get_or-map f (x ∷ xs) i x (f x) li))

-- ---- the first ones that are kept

pub kept_none : (rs : List Record) → AreKept rs 0 rs 0
kept_none rs = record { few = omega arith; same_length = refl; saved = saved_none; behind = λ k d le. refl }

module _ (rs now : List Record) (i kept : ℕ) (up : IsOrdered rs) (lt : i < length rs) (a : AreKept rs i now kept) where
  -- the last of those that are kept is one of the list
  last_kept : (d : Record) → 0 < kept
      → get_or (take kept now) (length (take kept now) - 1) d ≡ get_or now (kept - 1) d
  last_kept d pos =
      let le : kept ≤ length now = omega (arith, a.few, a.same_length) in
      let len : length (take kept now) ≡ kept = omega (arith, length-take kept now) in
      ap (λ (n : ℕ). get_or (take kept now) (n - 1) d) len ∙ get_or-take kept now (kept - 1) d (omega arith)

  some_kept : 0 < length (take kept now) → 0 < kept
  some_kept pos = omega (arith, length-take kept now)

  here : (d e : Record) → get_or now i e ≡ get_or rs i d
  here d e = a.behind i e (omega arith) ∙ get_or_default rs i e d lt

  pub keeps_more : IsAbove now kept i → AreKept rs (i + 1) (swap now kept i) (kept + 1)
  keeps_more above =
      let d = first_at rs i lt in
      let x = get_or rs i d in
      let ks = take kept now in
      let inside : i < length now = omega (arith, a.same_length) in
      let le : kept ≤ i = a.few in
      let named : x.path ≢ [] = subst (λ (q : Record). q.path ≢ []) (here d d) (above d).0 in
      let last : IsAboveLast ks x = λ e pos.
      subst (λ (q : Record). record_cmp q x ≡ Less) (sym (last_kept e (some_kept pos)))
      (subst (λ (q : Record). record_cmp (get_or now (kept - 1) e) q ≡ Less) (here d e) ((above e).1 (some_kept pos))) in
      let none : with_key_of x (take i rs) ≡ [] = agrees_with_none (take i rs) ks x a.saved named last in
      let more = saved_more (take i rs) ks x (above_all rs i d up lt none) named a.saved in
      let len : length (swap now kept i) ≡ length now = length-swap now kept i in
      let taken : take (kept + 1) (swap now kept i) ≡ ks ++ x ∷ [] =
      take_more (swap now kept i) kept d (omega arith)
      ∙ ap (λ (l : List Record). l ++ get_or (swap now kept i) kept d ∷ [])
      (swap_before now kept i d le (omega arith) inside)
      ∙ ap (λ (q : Record). ks ++ q ∷ []) (swap_first now kept i d le (omega arith) inside ∙ here d d) in
      record {
        few = omega (arith, le);
        same_length = len ∙ a.same_length;
        saved = subst (IsSortedSelection (take (i + 1) rs)) (sym taken)
            (subst (λ (l : List Record). IsSortedSelection l (ks ++ x ∷ [])) (sym (take_more rs i d lt)) more);
        behind = λ k e more_than.
            swap_behind now kept i k e le (omega (arith, more_than)) (omega arith) inside
            ∙ a.behind k e (omega (arith, more_than));
      }

  -- one that isn't greater has no path, if none before it has its path and stage
  nameless : (d : Record) (path : List ℕ) → (IsAbove now kept i → ⊥)
      → with_key_of (get_or rs i d) (take i rs) ≡ [] → (get_or rs i d).path ≡ path → (get_or rs i d).path ≡ []
  nameless d [] below none e = e
  nameless d (b ∷ path) below none e = absurd (below (λ f. (
    λ empty.
        let clash : b ∷ path ≡ [] = sym e ∙ sym (ap (λ (r : Record). r.path) (here d f)) ∙ empty in
        absurd cc,
    λ pos.
        let long : 0 < length (take kept now) = omega (arith, length-take kept now, a.few, a.same_length) in
        let last = above_last (take i rs) (take kept now) (get_or rs i d) a.saved (above_all rs i d up lt none) f long in
        subst (λ (q : Record). record_cmp (get_or now (kept - 1) f) q ≡ Less) (sym (here d f))
        (subst (λ (q : Record). record_cmp q (get_or rs i d) ≡ Less) (last_kept f pos) last),
  )))

  pub keeps_same : (IsAbove now kept i → ⊥) → AreKept rs (i + 1) now kept
  keeps_same below =
      let d = first_at rs i lt in
      record {
        few = omega (arith, a.few);
        same_length = a.same_length;
        saved = subst (λ (l : List Record). IsSortedSelection l (take kept now)) (sym (take_more rs i d lt))
            (saved_same (take i rs) (take kept now) (get_or rs i d)
            (λ none. nameless d (get_or rs i d).path below none refl) a.saved);
        behind = λ k e more_than. a.behind k e (omega (arith, more_than));
      }

-- all are looked at, and those that are kept are left
pub kept_all : (storage : List ℕ) (rs : List Record) (now : List Entry) (i kept : ℕ) → length rs ≤ i
    → AreKept rs i (records_in storage now) kept → IsSortedSelection rs (records_in storage (take kept now))
kept_all storage rs now i kept le a =
    subst (λ (l : List Record). IsSortedSelection rs l) (take-map (record_in storage) kept now)
    (subst (λ (l : List Record). IsSortedSelection l (take kept (records_in storage now))) (take_all i rs le) a.saved)
