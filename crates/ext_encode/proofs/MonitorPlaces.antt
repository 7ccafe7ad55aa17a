-- Places that are taken one by one or as a run, and whether those that are left are below a limit.
use Rattle.std.proofs.Common.{◌≡◌, ℕ, zero, suc, ◌+◌, ◌-◌, ◌<◌, ◌≤◌, nat_le, nat_lt, ◌&&◌, List, [], ◌∷◌, ◌++◌}
use Rattle.std.proofs.Common.{Bool, true, false, Result, Ok, Err, refl, ap, ◌∙◌, arith}
use Rattle.std.proofs.lemmas.Bool.Decides.{nat_tests}
use Rattle.ext_bitmap.proofs.Places.{lists_unpacked, one_listing}
use Rattle.ext_bitmap.specs.Bitmap.{Bitmap}
use Rattle.ext_bitmap.specs.Bits.{run_places, ListPlaces}
use Rattle.ext_bitmap.specs.Ranges.{set_places}
use Rattle.ext_bitmap.specs.declared.ewah.iter.Malformed.{Malformed}
use Rattle.ext_small.specs.FsMonitor.{Monitor}
use Rattle.ext_encode.specs.MonitorPlaces.{are_below, monitor_is_within}

listed_below : (b : Bitmap) (items : List (Result ℕ Malformed)) (limit : ℕ) → ListPlaces items b.words
    → are_below limit items ≡ are_below limit (set_places b)
unfolding set_places
listed_below b items limit h = ap (are_below limit) (one_listing b.words items _ h (lists_unpacked _ b.words refl))

pub all_below : (m : Monitor) (b : Bitmap) (count : ℕ) (items : List (Result ℕ Malformed)) (r : Bool)
    → b ≡ m.dirty → b.num_bits ≤ count → ListPlaces items b.words → r ≡ are_below count items
    → r ≡ monitor_is_within count m
all_below m b count items r same le h e =
    let t : nat_le b.num_bits count ≡ true = grind (arith, nat_tests) in
    let within : r ≡ (nat_le b.num_bits count && are_below count (set_places b))
    = e ∙ rw t (listed_below b items count h) in
    within ∙ ap (λ (x : Bitmap). nat_le x.num_bits count && are_below count (set_places x)) same

-- ---- one item

pub none_left : {E : Type 0} (limit : ℕ) (items : List (Result ℕ E)) → items ≡ [] → are_below limit items ≡ true
unfolding are_below
none_left limit items e = rw e refl

pub broken : {E : Type 0} (limit : ℕ) (fault : E) (items rest : List (Result ℕ E)) → items ≡ Err fault ∷ rest
    → are_below limit items ≡ false
unfolding are_below
broken limit fault items rest e = rw e refl

pub past : {E : Type 0} (limit place : ℕ) (items rest : List (Result ℕ E)) → items ≡ Ok place ∷ rest → limit ≤ place
    → are_below limit items ≡ false
unfolding are_below
past limit place items rest e le = let t : nat_lt place limit ≡ false = grind (arith, nat_tests) in rw (e, t) refl

pub taken : {E : Type 0} (limit place : ℕ) (items rest : List (Result ℕ E)) → items ≡ Ok place ∷ rest → place < limit
    → are_below limit items ≡ are_below limit rest
unfolding are_below
taken limit place items rest e lt = let t : nat_lt place limit ≡ true = grind (arith, nat_tests) in rw (e, t) refl

-- ---- a run

run_below : (limit first n : ℕ) (items : List (Result ℕ Malformed)) → first + n ≤ limit
    → are_below limit (run_places first n ++ items) ≡ are_below limit items
run_below limit first zero items le = refl
run_below limit first (suc n) items le =
    taken limit first _ (run_places (first + 1) n ++ items) refl (omega arith)
    ∙ run_below limit (first + 1) n items (omega arith)

past_by : (limit first n : ℕ) (items : List (Result ℕ Malformed)) (t : Bool) → nat_lt first limit ≡ t
    → are_below limit (run_places (first + 1) (suc n) ++ items) ≡ false
    → are_below limit (run_places first (suc (suc n)) ++ items) ≡ false
past_by limit first n items false e more =
    let le : limit ≤ first = grind (arith, nat_tests) in
    past limit first _ (run_places (first + 1) (suc n) ++ items) refl le
past_by limit first n items true e more =
    let lt : first < limit = grind (arith, nat_tests) in
    taken limit first _ (run_places (first + 1) (suc n) ++ items) refl lt ∙ more

run_past : (limit first n : ℕ) (items : List (Result ℕ Malformed)) → limit < first + suc n
    → are_below limit (run_places first (suc n) ++ items) ≡ false
run_past limit first zero items lt = past limit first _ items refl (omega arith)
run_past limit first (suc n) items lt =
    past_by limit first n items (nat_lt first limit) refl (run_past limit (first + 1) n items (omega arith))

-- a run that was skipped, and what is left after it
below_by : (limit first end n : ℕ) (items : List (Result ℕ Malformed)) → n ≡ end - first
    → (first < end → end ≤ limit) → are_below limit (run_places first n ++ items) ≡ are_below limit items
below_by limit first end zero items e le = refl
below_by limit first end (suc n) items e le =
    let lt : first < end = omega arith in
    let fits : end ≤ limit = le lt in
    run_below limit first (suc n) items (omega arith)

pub run_kept : (limit first end : ℕ) (rest items : List (Result ℕ Malformed))
    → rest ≡ run_places first (end - first) ++ items → (first < end → end ≤ limit)
    → are_below limit rest ≡ are_below limit items
run_kept limit first end rest items e le =
    ap (are_below limit) e ∙ below_by limit first end (end - first) items refl le

pub run_ends : (limit first end : ℕ) (rest items : List (Result ℕ Malformed))
    → rest ≡ run_places first (end - first) ++ items → first < end → limit < end → are_below limit rest ≡ false
run_ends limit first end rest items e lt far =
    let n : ℕ = end - first - 1 in
    let k : end - first ≡ suc n = omega arith in
    ap (are_below limit) (e ∙ ap (λ (x : ℕ). run_places first x ++ items) k)
    ∙ run_past limit first n items (omega arith)
