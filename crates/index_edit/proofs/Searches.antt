-- A search among recorded paths that rise, and whether they do.
use Rattle.std.proofs.Common.{◌≡◌, ◌≢◌, ℕ, suc, ◌+◌, ◌<◌, Bool, true, false, List, [], ◌∷◌, length, get_or, map, refl, sym, ap, ◌∙◌}
use Rattle.std.proofs.Common.{arith, length-take, Bor}
use denote.Param.Members.{Mut}
use Rattle.std.proofs.Math.ListN.{get_or-map}
use Rattle.std.proofs.lemmas.Fn.{always_returns_same}
use Rattle.std.proofs.lemmas.List.{get_or-take, length-map}
use Rattle.std.proofs.lemmas.List.Elements.{All-cons, All-weaker}
use Rattle.std.proofs.lemmas.List.Kept.{AllPairs-cons}
use Rattle.std.specs.Fn.{Called, ComputesOnPairs}
use Rattle.std.specs.List.{IsAllAdjacentAnswer}
use Rattle.std.specs.Ordering.{is_lt}
use Rattle.std.specs.declared.cmp.Ordering.{Ordering}
use Rattle.std.specs.declared.cmp.Ordering.TheVariants.{Less, Equal, Greater}
use Rattle.entry_list.specs.Order.{path_cmp}
use Rattle.entry_list.proofs.Orders.{paths_total}
use Rattle.entry_lookup.proofs.RunsFound.{within_map}
use Rattle.base_search.specs.Halving.{IsPartedAt, IsRising}
use Rattle.base_search.proofs.Halving.{split_by}
use Rattle.base_search.proofs.OrderedAnswers.{rising_of}
use Rattle.ext_small.specs.ResolveUndo.{PathStages}
use Rattle.index_edit.specs.RecordingSteps.{IsPlaceFor}
use Rattle.index_edit.specs.Rising.{ArePathsRising}
use Rattle.index_edit.proofs.Risings.{Before, head_rises}

not_greater : (o : Ordering) → o ≡ Less → o ≢ Greater
not_greater o e f = let both : Less ≡ Greater = sym e ∙ f in cc

lt_less : (o : Ordering) → is_lt o ≡ true → o ≡ Less
lt_less Less e = refl
lt_less Equal e = cc
lt_less Greater e = cc

module _ {X : Type 0} (f : X → PathStages) (path : List ℕ) (xs : List X) where
  abbrev answer : X → Ordering
  answer x = path_cmp (f x).name path

  -- if the paths increase, so do the answers
  pub rising_names : ArePathsRising (map f xs) → IsRising (map (λ x. path_cmp (f x).name path) xs)
  rising_names h = rising_of answer xs (split_by paths_total (λ (x : X). (f x).name) path xs (λ i j d before within.
      not_greater (path_cmp (f (get_or xs i d)).name (f (get_or xs j d)).name)
      (ap (λ (p : PathStages). path_cmp p.name (f (get_or xs j d)).name) (sym (get_or-map f xs i d))
      ∙ ap (λ (q : PathStages). path_cmp (get_or (map f xs) i (f d)).name q.name) (sym (get_or-map f xs j d))
      ∙ h i j (f d) before (omega (arith, within, length-map xs f)))))

  -- at the index at which the answers change, the path has its index
  pub place_found : (i : ℕ) → IsPartedAt false (map (λ x. path_cmp (f x).name path) xs) i → IsPlaceFor f path xs i
  place_found i p =
      let n : length (map answer xs) ≡ length xs = length-map xs answer in
      record {
        inside = omega (arith, n, p.in_range);
        before = λ k d within.
            let low : k < i = omega (arith, within, length-take i xs) in
            rw (get_or-take i xs k d low)
            (within_map is_lt answer (λ x. is_lt (answer x)) true xs 0 i (λ x. refl) p.before k d (omega arith) low);
        here = λ within d. within_map is_lt answer (λ x. is_lt (answer x)) false xs i (length (map answer xs)) (λ x. refl)
            p.behind i d (omega arith) (omega (arith, n, within));
      }

abbrev is_before : PathStages → PathStages → Bool
is_before p q = is_lt (path_cmp p.name q.name)

-- if each path is before the next, they increase
rises : {X : Type 0} (f : X → PathStages) (xs : List X)
    → ((k : ℕ) (d : X) → k + 1 < length xs → is_before (f (get_or xs k d)) (f (get_or xs (k + 1) d)) ≡ true)
    → ArePathsRising (map f xs)
rises f [] h = λ i j d lt within. absurd (omega arith)
rises f (x ∷ []) h = λ i j d lt within. absurd (omega arith)
rises f (x ∷ (y ∷ xs)) h =
    let rest : ArePathsRising (map f (y ∷ xs)) = rises f (y ∷ xs) (λ k d within.
    let e : suc (k + 1) ≡ suc k + 1 = omega arith in
    ap (λ n. is_before (f (get_or (y ∷ xs) k d)) (f (get_or (x ∷ (y ∷ xs)) n d))) e
    ∙ h (suc k) d (omega (arith, within))) in
    let first : Before (f x) (f y) = lt_less _ (h 0 x (omega arith)) in
    AllPairs-cons Before (f x) (map f (y ∷ xs))
    (All-cons (Before (f x)) (f y) (map f xs) first (All-weaker (Before (f y)) (Before (f x))
    (λ q b. paths_total.trans (f x).name (f y).name q.name first b) (map f xs) (head_rises (f y) (map f xs) rest))) rest

module _ {X F : Type 0} (f : X → PathStages) (g : Mut F (Bor X × (Bor X × Unit {0})) Bool) (s : F)
    (h : (a : Bor X × (Bor X × Unit {0})) (r : Bool) (s' : F) → Called g s a r s'
    → (r ≡ is_before (f a.0.now) (f a.1.0.now)) × (s' ≡ s)) where
  pub told_rising : (xs : List X) (r : Bool) → ((e : X → X → Bool) → ComputesOnPairs g e s
      → IsAllAdjacentAnswer (λ x y b. b ≡ e x y) xs r) → r ≡ true → ArePathsRising (map f xs)
  told_rising xs true told t =
      let test = λ (x y : X). is_before (f x) (f y) in
      let all = told test (always_returns_same g (λ a r. r ≡ test a.0.now a.1.0.now) s h) in
      rises f xs (λ k d within. sym (all k d within))
  told_rising xs false told t = cc
