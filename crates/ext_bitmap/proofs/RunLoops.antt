-- Runs of places side by side, taken at once.
use Rattle.std.proofs.Common.{◌≡◌, ℕ, zero, suc, ◌+◌, ◌-◌, ◌<◌, ◌≤◌, ◌==◌, min, nat_lt, List, [], ◌∷◌, ◌++◌, Some, Bool}
use Rattle.std.proofs.Common.{true, false, refl, sym, ap, ◌∙◌, append-nil, arith}
use Rattle.std.proofs.lemmas.Bool.Decides.{nat_tests}
use Rattle.std.specs.Prelude.{◌≢◌, Result}
use Rattle.ext_bitmap.specs.declared.ewah.iter.Malformed.{Malformed}
use Rattle.ext_bitmap.specs.Bits.{run_places}
use Rattle.ext_bitmap.specs.RangeSteps.{ranges_behind, side_by_side}
use Rattle.ext_bitmap.specs.Ranges.{breaks_below, places_below}
use Rattle.ext_bitmap.specs.declared.ranges.Range.{Range}

-- ---- positions right after the current range, or apart from it

grown : (f e n : ℕ) (ps : List ℕ) → ranges_behind (Some (record { first = f; end = e })) (side_by_side e n ++ ps)
    ≡ ranges_behind (Some (record { first = f; end = e + n })) ps
grown f e zero ps =
    let k : e ≡ e + 0 = omega arith in
    ap (λ (x : ℕ). ranges_behind (Some (record { first = f; end = x })) ps) k
grown f e (suc n) ps =
    let t : (e == e) ≡ true = grind (arith, nat_tests) in
    let k : e + 1 + n ≡ e + suc n = omega arith in
    rw t (grown f (e + 1) n ps ∙ ap (λ (x : ℕ). ranges_behind (Some (record { first = f; end = x })) ps) k)

pub run_joins : (b run : Range) (ps : List ℕ) → run.first < run.end → run.first ≡ b.end
    → ranges_behind (Some (record { first = b.first; end = run.end })) ps
    ≡ ranges_behind (Some b) (side_by_side run.first (run.end - run.first) ++ ps)
run_joins b run ps lt e =
    let k : run.end ≡ b.end + (run.end - run.first) = omega arith in
    ap (λ (x : ℕ). ranges_behind (Some (record { first = b.first; end = x })) ps) k
    ∙ sym (grown b.first b.end (run.end - run.first) ps)
    ∙ ap (λ (x : ℕ). ranges_behind (Some b) (side_by_side x (run.end - run.first) ++ ps)) (sym e)

apart_by : (b : Range) (first n : ℕ) (ps : List ℕ) → first ≢ b.end
    → ranges_behind (Some b) (side_by_side first (suc n) ++ ps)
    ≡ b ∷ ranges_behind (Some (record { first = first; end = first + suc n })) ps
apart_by b first n ps ne =
    let t : (first == b.end) ≡ false = grind (arith, nat_tests) in
    let k : first + 1 + n ≡ first + suc n = omega arith in
    rw t (ap (λ (l : List Range). b ∷ l) (grown first (first + 1) n ps
    ∙ ap (λ (x : ℕ). ranges_behind (Some (record { first = first; end = x })) ps) k))

pub run_apart : (b run : Range) (ps : List ℕ) → run.first < run.end → run.first ≢ b.end
    → b ∷ ranges_behind (Some run) ps ≡ ranges_behind (Some b) (side_by_side run.first (run.end - run.first) ++ ps)
run_apart b run ps lt ne =
    let n : ℕ = run.end - run.first - 1 in
    let k : run.end - run.first ≡ suc n = omega arith in
    let e : run.end ≡ run.first + suc n = omega arith in
    ap (λ (x : ℕ). b ∷ ranges_behind (Some (record { first = run.first; end = x })) ps) e
    ∙ sym (apart_by b run.first n ps ne)
    ∙ ap (λ (x : ℕ). ranges_behind (Some b) (side_by_side run.first x ++ ps)) (sym k)

pub no_run : (first end : ℕ) (ps : List ℕ) → end ≤ first → side_by_side first (end - first) ++ ps ≡ ps
no_run first end ps le =
    let k : end - first ≡ 0 = omega arith in
    ap (λ (x : ℕ). side_by_side first x ++ ps) k

pub one_place : (place : ℕ) (ps : List ℕ) → side_by_side place (place + 1 - place) ++ ps ≡ place ∷ ps
one_place place ps =
    let k : place + 1 - place ≡ 1 = omega arith in
    ap (λ (x : ℕ). side_by_side place x ++ ps) k

-- ---- a run among items, below a limit or past it

below_run : (limit first n : ℕ) (items : List (Result ℕ Malformed)) → first + n ≤ limit
    → places_below limit (run_places first n ++ items) ≡ side_by_side first n ++ places_below limit items
unfolding places_below
below_run limit first zero items le = refl
below_run limit first (suc n) items le =
    let t : nat_lt first limit ≡ true = grind (arith, nat_tests) in
    rw t (ap (λ (l : List ℕ). first ∷ l) (below_run limit (first + 1) n items (omega arith)))

whole_run : (limit first n : ℕ) (items : List (Result ℕ Malformed)) → first + n ≤ limit
    → breaks_below limit (run_places first n ++ items) ≡ breaks_below limit items
unfolding breaks_below
whole_run limit first zero items le = refl
whole_run limit first (suc n) items le =
    let t : nat_lt first limit ≡ true = grind (arith, nat_tests) in
    rw t (whole_run limit (first + 1) n items (omega arith))

-- the positions of the run that are below the limit, and nothing after them
IsCut : ℕ → ℕ → ℕ → List (Result ℕ Malformed) → Type 0
IsCut limit first n items =
    (places_below limit (run_places first (suc n) ++ items) ≡ side_by_side first (limit - first))
    × (breaks_below limit (run_places first (suc n) ++ items) ≡ false)

cut_at : (limit first n : ℕ) (items : List (Result ℕ Malformed)) → limit ≤ first → IsCut limit first n items
unfolding IsCut places_below breaks_below
cut_at limit first n items le =
    let t : nat_lt first limit ≡ false = grind (arith, nat_tests) in
    let k : limit - first ≡ 0 = omega arith in
    (rw (t, k) refl, rw t refl)

cut_step : (limit first n : ℕ) (items : List (Result ℕ Malformed)) (t : Bool) → nat_lt first limit ≡ t
    → IsCut limit (first + 1) n items → IsCut limit first (suc n) items
unfolding IsCut places_below breaks_below
cut_step limit first n items false e more =
    let le : limit ≤ first = grind (arith, nat_tests) in
    cut_at limit first (suc n) items le
cut_step limit first n items true e more =
    let lt : first < limit = grind (arith, nat_tests) in
    let k : limit - first ≡ suc (limit - (first + 1)) = omega arith in
    (rw (e, k) (ap (λ (l : List ℕ). first ∷ l) more.0), rw e more.1)

cut_run : (limit first n : ℕ) (items : List (Result ℕ Malformed)) → limit < first + suc n → IsCut limit first n items
cut_run limit first zero items lt = cut_at limit first zero items (omega arith)
cut_run limit first (suc n) items lt =
    cut_step limit first n items (nat_lt first limit) refl (cut_run limit (first + 1) n items (omega arith))

-- ---- a run that was passed

-- a run that doesn't pass the limit, of which the places before a stop were taken
abbrev pub IsKept : ℕ → ℕ → ℕ → List (Result ℕ Malformed) → List (Result ℕ Malformed) → Type 0
IsKept limit first stop rest items =
    (places_below limit rest ≡ side_by_side first (stop - first) ++ places_below limit items)
    × (breaks_below limit rest ≡ breaks_below limit items)

kept_by : (limit first end stop n : ℕ) (items : List (Result ℕ Malformed)) → n ≡ end - first → stop ≡ min end limit
    → (first < end → end ≤ limit) → IsKept limit first stop (run_places first n ++ items) items
kept_by limit first end stop zero items e m le =
    let k : stop - first ≡ 0 = omega arith in
    (ap (λ (x : ℕ). side_by_side first x ++ places_below limit items) (sym k), refl)
kept_by limit first end stop (suc n) items e m le =
    let lt : first < end = omega arith in
    let fits : end ≤ limit = le lt in
    let k : stop - first ≡ suc n = omega arith in (
      below_run limit first (suc n) items (omega arith)
          ∙ ap (λ (x : ℕ). side_by_side first x ++ places_below limit items) (sym k),
      whole_run limit first (suc n) items (omega arith),
    )

pub run_kept : (limit first end stop : ℕ) (rest items : List (Result ℕ Malformed))
    → rest ≡ run_places first (end - first) ++ items → stop ≡ min end limit → (first < end → end ≤ limit)
    → IsKept limit first stop rest items
run_kept limit first end stop rest items e m le =
    let k = kept_by limit first end stop (end - first) items refl m le in
    (ap (places_below limit) e ∙ k.0, ap (breaks_below limit) e ∙ k.1)

-- a run that passes the limit ends the places
abbrev pub IsLast : ℕ → ℕ → ℕ → List (Result ℕ Malformed) → Type 0
IsLast limit first stop rest =
    (places_below limit rest ≡ side_by_side first (stop - first) ++ []) × (breaks_below limit rest ≡ false)

pub run_ends : (limit first end stop : ℕ) (rest items : List (Result ℕ Malformed))
    → rest ≡ run_places first (end - first) ++ items → stop ≡ min end limit → first < end → limit < end
    → IsLast limit first stop rest
unfolding IsCut
run_ends limit first end stop rest items e m lt past =
    let n : ℕ = end - first - 1 in
    let k : end - first ≡ suc n = omega arith in
    let same : rest ≡ run_places first (suc n) ++ items = e ∙ ap (λ (x : ℕ). run_places first x ++ items) k in
    let at : limit - first ≡ stop - first = omega arith in
    let c = cut_run limit first n items (omega arith) in (
      ap (places_below limit) same ∙ c.0 ∙ ap (side_by_side first) at
          ∙ sym (append-nil (side_by_side first (stop - first))),
      ap (breaks_below limit) same ∙ c.1,
    )

-- ---- what is there and what is left, after a run

pub after_run : (limit first stop : ℕ) (begun next : Range) (mid new all : List Range)
    (rest items : List (Result ℕ Malformed))
    → IsKept limit first stop rest items
    → ((ps : List ℕ) → new ++ ranges_behind (Some next) ps
    ≡ mid ++ ranges_behind (Some begun) (side_by_side first (stop - first) ++ ps))
    → mid ++ ranges_behind (Some begun) (places_below limit rest) ≡ all
    → new ++ ranges_behind (Some next) (places_below limit items) ≡ all
after_run limit first stop begun next mid new all rest items kept step before =
    step (places_below limit items) ∙ ap (λ (ps : List ℕ). mid ++ ranges_behind (Some begun) ps) (sym kept.0) ∙ before

pub after_last : (limit first stop : ℕ) (begun next : Range) (mid new last all : List Range)
    (rest : List (Result ℕ Malformed))
    → IsLast limit first stop rest
    → ((ps : List ℕ) → new ++ ranges_behind (Some next) ps
    ≡ mid ++ ranges_behind (Some begun) (side_by_side first (stop - first) ++ ps))
    → mid ++ ranges_behind (Some begun) (places_below limit rest) ≡ all → last ≡ new ++ ranges_behind (Some next) []
    → last ≡ all
after_last limit first stop begun next mid new last all rest cut step before e =
    e ∙ step [] ∙ ap (λ (ps : List ℕ). mid ++ ranges_behind (Some begun) ps) (sym cut.0) ∙ before
