-- Ranges as they are taken, and as they are defined.
use Rattle.std.proofs.Common.{◌≡◌, ℕ, ◌+◌, ◌<◌, ◌≤◌, ◌==◌, nat_lt, List, [], ◌∷◌, ◌++◌, Option, Some, None, Bool, true}
use Rattle.std.proofs.Common.{false, if◌then◌else◌, refl, sym, ap, ◌∙◌, arith}
use Rattle.std.proofs.lemmas.Bool.Decides.{nat_tests}
use Rattle.std.specs.Prelude.{Result, Ok, Err}
use Rattle.ext_bitmap.proofs.Places.{lists_unpacked, one_listing}
use Rattle.ext_bitmap.specs.Bitmap.{Bitmap}
use Rattle.ext_bitmap.specs.declared.ewah.iter.Malformed.{Malformed}
use Rattle.ext_bitmap.specs.Bits.{ListPlaces}
use Rattle.ext_bitmap.specs.RangeSteps.{ranges_behind}
use Rattle.ext_bitmap.specs.Ranges.{breaks_below, places_below, ranges_of, set_places, with_place}
use Rattle.ext_bitmap.specs.declared.ranges.Range.{Range}

-- a range before others: it and the first of them become one if that begins right after it
with_range : Range → List Range → List Range
with_range r [] = r ∷ []
with_range r (s ∷ rs) = if s.first == r.end then record { first = r.first; end = s.end } ∷ rs else r ∷ (s ∷ rs)

alone : (place : ℕ) (rs : List Range) → with_range (record { first = place; end = place + 1 }) rs ≡ with_place place rs
unfolding with_range with_place
alone place [] = refl
alone place (s ∷ rs) = refl

joins : (r s : Range) (rs : List Range) (b : Bool) → (s.first == r.end) ≡ b
    → with_range r (s ∷ rs) ≡ (if b then record { first = r.first; end = s.end } ∷ rs else r ∷ (s ∷ rs))
unfolding with_range
joins r s rs b e = rw e refl

begins : (s : Range) (place : ℕ) (rs : List Range) (t : Bool) → (s.first == place + 1) ≡ t
    → with_place place (s ∷ rs)
    ≡ (if t then record { first = place; end = s.end } ∷ rs else record { first = place; end = place + 1 } ∷ (s ∷ rs))
unfolding with_place
begins s place rs t f = rw f refl

after : Range → ℕ → Bool → List Range → List Range
after r place b rs = if b then with_range (record { first = r.first; end = place + 1 }) rs
    else r ∷ with_range (record { first = place; end = place + 1 }) rs

-- a range, a position after it, and the ranges after both
step_at : (r s : Range) (place : ℕ) (rs : List Range) (b t : Bool) → (place == r.end) ≡ b → (s.first == place + 1) ≡ t
    → after r place b (s ∷ rs) ≡ with_range r (with_place place (s ∷ rs))
unfolding after
step_at r s place rs true true e f =
    joins (record { first = r.first; end = place + 1 }) s rs true f
    ∙ sym (ap (with_range r) (begins s place rs true f) ∙ joins r (record { first = place; end = s.end }) rs true e)
step_at r s place rs true false e f =
    joins (record { first = r.first; end = place + 1 }) s rs false f
    ∙ sym (ap (with_range r) (begins s place rs false f)
    ∙ joins r (record { first = place; end = place + 1 }) (s ∷ rs) true e)
step_at r s place rs false true e f =
    ap (λ (l : List Range). r ∷ l) (joins (record { first = place; end = place + 1 }) s rs true f)
    ∙ sym (ap (with_range r) (begins s place rs true f) ∙ joins r (record { first = place; end = s.end }) rs false e)
step_at r s place rs false false e f =
    ap (λ (l : List Range). r ∷ l) (joins (record { first = place; end = place + 1 }) s rs false f)
    ∙ sym (ap (with_range r) (begins s place rs false f)
    ∙ joins r (record { first = place; end = place + 1 }) (s ∷ rs) false e)

step : (r : Range) (place : ℕ) (rs : List Range)
    → (if place == r.end then with_range (record { first = r.first; end = place + 1 }) rs
    else r ∷ with_range (record { first = place; end = place + 1 }) rs)
    ≡ with_range r (with_place place rs)
unfolding with_range with_place after
step r place [] = refl
step r place (s ∷ rs) = step_at r s place rs (place == r.end) (s.first == place + 1) refl refl

behind_some : (r : Range) (ps : List ℕ) → ranges_behind (Some r) ps ≡ with_range r (ranges_of ps)
unfolding with_range ranges_of
behind_some r [] = refl
behind_some r (place ∷ ps) =
    rw (
      behind_some (record { first = r.first; end = place + 1 }) ps,
      behind_some (record { first = place; end = place + 1 }) ps,
    )
    (step r place (ranges_of ps))

pub behind_none : (ps : List ℕ) → ranges_behind None ps ≡ ranges_of ps
unfolding ranges_of
behind_none [] = refl
behind_none (place ∷ ps) = behind_some (record { first = place; end = place + 1 }) ps ∙ alone place (ranges_of ps)

pub listed_places : (b : Bitmap) (items : List (Result ℕ Malformed)) → ListPlaces items b.words → items ≡ set_places b
unfolding set_places
listed_places b items h = one_listing b.words items _ h (lists_unpacked _ b.words refl)

pub all_ranges : (b : Bitmap) (items : List (Result ℕ Malformed)) (limit : ℕ) (old new : List Range)
    → old ≡ [] → limit ≡ b.num_bits → ListPlaces items b.words
    → new ≡ old ++ ranges_behind None (places_below limit items)
    → new ≡ ranges_of (places_below b.num_bits (set_places b))
all_ranges b items limit old new none l h e =
    e ∙ ap (λ (rs : List Range). rs ++ ranges_behind None (places_below limit items)) none
    ∙ ap (λ (n : ℕ). ranges_behind None (places_below n items)) l ∙ behind_none (places_below b.num_bits items)
    ∙ ap (λ (is : List (Result ℕ Malformed)). ranges_of (places_below b.num_bits is)) (listed_places b items h)

pub all_breaks : (b : Bitmap) (items : List (Result ℕ Malformed)) (limit : ℕ) (r : Bool) → limit ≡ b.num_bits
    → ListPlaces items b.words → r ≡ breaks_below limit items → r ≡ breaks_below b.num_bits (set_places b)
all_breaks b items limit r l h e =
    e ∙ ap (λ (n : ℕ). breaks_below n items) l
    ∙ ap (λ (is : List (Result ℕ Malformed)). breaks_below b.num_bits is) (listed_places b items h)

-- ---- items that are taken one by one

taken : {E : Type 0} (limit place : ℕ) (items rest : List (Result ℕ E)) → items ≡ Ok place ∷ rest → place < limit
    → places_below limit items ≡ place ∷ places_below limit rest
unfolding places_below
taken limit place items rest e lt = let t : nat_lt place limit ≡ true = grind (arith, nat_tests) in rw (e, t) refl

pub place_taken : {E : Type 0} (limit place : ℕ) (items rest : List (Result ℕ E)) (begun : Option Range) (next : Range)
    (mid new all : List Range) → items ≡ Ok place ∷ rest → place < limit
    → ((ps : List ℕ) → new ++ ranges_behind (Some next) ps ≡ mid ++ ranges_behind begun (place ∷ ps))
    → mid ++ ranges_behind begun (places_below limit items) ≡ all
    → new ++ ranges_behind (Some next) (places_below limit rest) ≡ all
place_taken limit place items rest begun next mid new all e lt step before =
    step (places_below limit rest)
    ∙ ap (λ (l : List ℕ). mid ++ ranges_behind begun l) (sym (taken limit place items rest e lt)) ∙ before

pub fault_left : {E : Type 0} (limit place : ℕ) (items rest : List (Result ℕ E)) (b : Bool)
    → items ≡ Ok place ∷ rest → place < limit → breaks_below limit items ≡ b → breaks_below limit rest ≡ b
unfolding breaks_below
fault_left limit place items rest b e lt before =
    let t : nat_lt place limit ≡ true = grind (arith, nat_tests) in
    let same : breaks_below limit items ≡ breaks_below limit rest = rw (e, t) refl in
    sym same ∙ before

-- ---- no more is taken

past : {E : Type 0} (limit place : ℕ) (items rest : List (Result ℕ E)) → items ≡ Ok place ∷ rest → limit ≤ place
    → places_below limit items ≡ []
unfolding places_below
past limit place items rest e le = let t : nat_lt place limit ≡ false = grind (arith, nat_tests) in rw (e, t) refl

pub no_fault_past : {E : Type 0} (limit place : ℕ) (items rest : List (Result ℕ E)) (b : Bool)
    → items ≡ Ok place ∷ rest → limit ≤ place → breaks_below limit items ≡ b → false ≡ b
unfolding breaks_below
no_fault_past limit place items rest b e le before =
    let t : nat_lt place limit ≡ false = grind (arith, nat_tests) in
    let same : false ≡ breaks_below limit items = rw (e, t) refl in
    same ∙ before

ended : {E : Type 0} (limit : ℕ) (items : List (Result ℕ E)) (begun : Option Range) (mid new all : List Range)
    → places_below limit items ≡ []
    → new ≡ mid ++ ranges_behind begun [] → mid ++ ranges_behind begun (places_below limit items) ≡ all → new ≡ all
ended limit items begun mid new all e h before = h ∙ ap (λ (l : List ℕ). mid ++ ranges_behind begun l) (sym e) ∙ before

pub ended_past : {E : Type 0} (limit place : ℕ) (items rest : List (Result ℕ E)) (begun : Option Range)
    (mid new all : List Range) → items ≡ Ok place ∷ rest → limit ≤ place → new ≡ mid ++ ranges_behind begun []
    → mid ++ ranges_behind begun (places_below limit items) ≡ all → new ≡ all
ended_past limit place items rest begun mid new all e le h before =
    ended limit items begun mid new all (past limit place items rest e le) h before

pub ended_broken : {E : Type 0} (limit : ℕ) (fault : E) (items rest : List (Result ℕ E)) (begun : Option Range)
    (mid new all : List Range) → items ≡ Err fault ∷ rest → new ≡ mid ++ ranges_behind begun []
    → mid ++ ranges_behind begun (places_below limit items) ≡ all → new ≡ all
unfolding places_below
ended_broken limit fault items rest begun mid new all e h before =
    ended limit items begun mid new all (rw e refl) h before

pub broken : {E : Type 0} (limit : ℕ) (fault : E) (items rest : List (Result ℕ E)) (b : Bool) → items ≡ Err fault ∷ rest
    → breaks_below limit items ≡ b → true ≡ b
unfolding breaks_below
broken limit fault items rest b e before = let same : true ≡ breaks_below limit items = rw e refl in same ∙ before

pub ended_whole : {E : Type 0} (limit : ℕ) (items : List (Result ℕ E)) (begun : Option Range) (mid new all : List Range)
    → items ≡ [] → new ≡ mid ++ ranges_behind begun []
    → mid ++ ranges_behind begun (places_below limit items) ≡ all → new ≡ all
unfolding places_below
ended_whole limit items begun mid new all e h before = ended limit items begun mid new all (rw e refl) h before

pub no_fault_left : {E : Type 0} (limit : ℕ) (items : List (Result ℕ E)) (b : Bool) → items ≡ []
    → breaks_below limit items ≡ b → false ≡ b
unfolding breaks_below
no_fault_left limit items b e before = let same : false ≡ breaks_below limit items = rw e refl in same ∙ before
