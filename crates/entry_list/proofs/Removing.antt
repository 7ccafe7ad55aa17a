-- One more call of a closure that looks at each entry.
use Rattle.std.proofs.Common.{◌≡◌, ℕ, ◌+◌, ◌<◌, ◌≤◌, ◌⊎◌, inl, inr, true, false, not, List, [], ◌∷◌, ◌++◌, length, take}
use Rattle.std.proofs.Common.{drop, set, map, get_or, refl, sym, ap, ◌∙◌, arith, length-append, length-take}
use Rattle.std.specs.List.{filter}
use Rattle.std.proofs.lemmas.Bool.{cases_lt}
use Rattle.std.proofs.lemmas.List.{take_more, get_or_at, get_or_append_left, map-append, length-map, drop-drop}
use Rattle.std.proofs.lemmas.List.{get_or-drop, append-nil, take_more_set, take-set-le, length-set}
use Rattle.std.proofs.lemmas.List.Elements.{filter-append}
use Rattle.entry_list.specs.declared.Entry.{Entry}
use Rattle.entry_list.specs.Removed.{Call}

-- lists that agree from i on agree at i, and from the next place on
pub same_at : {A : Type 0} (xs ys : List A) (i : ℕ) (d : A) → drop i xs ≡ drop i ys → get_or xs i d ≡ get_or ys i d
same_at xs ys i d e =
    let n : i + 0 ≡ i = omega arith in
    let a : get_or (drop i xs) 0 d ≡ get_or xs i d = get_or-drop i xs 0 d ∙ ap (λ k. get_or xs k d) n in
    let b : get_or (drop i ys) 0 d ≡ get_or ys i d = get_or-drop i ys 0 d ∙ ap (λ k. get_or ys k d) n in
    sym a ∙ ap (λ zs. get_or zs 0 d) e ∙ b

pub drop_next : {A : Type 0} (xs ys : List A) (i : ℕ) → drop i xs ≡ drop i ys → drop (i + 1) xs ≡ drop (i + 1) ys
drop_next xs ys i e = sym (drop-drop 1 i xs) ∙ ap (drop 1) e ∙ drop-drop 1 i ys

-- an element that is changed at its index i is put after the k retained ones: k is i, or less than i
pub kept_here : {A : Type 0} (xs : List A) (i k : ℕ) (y : A) → k ≡ i → i < length xs
    → take (k + 1) (set xs i y) ≡ take k xs ++ y ∷ []
kept_here xs i k y e inside = rw e (take_more_set xs i y inside)

pub kept_below : {A : Type 0} (xs : List A) (i k : ℕ) (y : A) → k < i → i < length xs
    → take (k + 1) (set (set xs i y) k y) ≡ take k xs ++ y ∷ []
kept_below xs i k y lt inside =
    let long : k < length (set xs i y) = omega (arith, length-set xs i y) in
    take_more_set (set xs i y) k y long ∙ ap (λ zs. zs ++ y ∷ []) (take-set-le k xs i y (omega arith))

module _ (calls : List Call) (old : List Entry) (i : ℕ) (inside : i < length old)
    (seen : map (λ (c : Call). c.before) calls ≡ take i old) where
  calls_len : length calls ≡ i
  calls_len = sym (length-map calls (λ (c : Call). c.before)) ∙ ap length seen ∙ omega (arith, length-take i old)

  pub seen_more : (c : Call) → ((d : Entry) → c.before ≡ get_or old i d)
      → map (λ (c : Call). c.before) (calls ++ c ∷ []) ≡ take (i + 1) old
  seen_more c e =
      map-append (λ (c : Call). c.before) calls (c ∷ []) ∙ rw (seen, take_more old i c.before inside, ← e c.before) refl

  pub order_more : (c : Call) → c.place ≡ i → ((k : ℕ) (d : Call) → k < length calls → (get_or calls k d).place ≡ k)
      → (k : ℕ) (d : Call) → k < length (calls ++ c ∷ []) → (get_or (calls ++ c ∷ []) k d).place ≡ k
  order_more c e o k d l = by (cases_lt k (length calls))
    where
      by : (k < length calls) ⊎ (length calls ≤ k) → (get_or (calls ++ c ∷ []) k d).place ≡ k
      by (inl a) = rw (get_or_append_left calls (c ∷ []) d k a) (o k d a)
      by (inr b) =
          let same : length calls ≡ k = omega (arith, length-append calls (c ∷ [])) in
          rw (get_or_at calls c [] d k same) (e ∙ sym calls_len ∙ same)

-- what the calls leave, after one that takes its entry out, and after one that leaves it
pub removed : (calls : List Call) (c : Call) (kept : List Entry) → c.is_removed ≡ true
    → kept ≡ map (λ (c : Call). c.after) (filter (λ (c : Call). not c.is_removed) calls)
    → kept ≡ map (λ (c : Call). c.after) (filter (λ (c : Call). not c.is_removed) (calls ++ c ∷ []))
removed calls c kept b e = rw (filter-append (λ (c : Call). not c.is_removed) calls (c ∷ []), b, append-nil) e

pub stays : (calls : List Call) (c : Call) (kept : List Entry) → c.is_removed ≡ false
    → kept ≡ map (λ (c : Call). c.after) (filter (λ (c : Call). not c.is_removed) calls)
    → kept ++ c.after ∷ [] ≡ map (λ (c : Call). c.after) (filter (λ (c : Call). not c.is_removed) (calls ++ c ∷ []))
stays calls c kept b e =
    rw (filter-append (λ (c : Call). not c.is_removed) calls (c ∷ []), b, map-append) (ap (λ xs. xs ++ c.after ∷ []) e)
