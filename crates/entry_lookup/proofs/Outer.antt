-- The order in which a name comes after all that continue it, and the consequences of rising paths for it.
use Rattle.std.proofs.Common.{◌≡◌, ◌≢◌, ◌↔◌, ℕ, zero, suc, ◌<◌, ◌≤◌, Bool, true, false, List, [], ◌∷◌, length, take}
use Rattle.std.proofs.Common.{refl, sym, ap, ◌∙◌, arith}
use Rattle.std.specs.Cmp.{IsTotalOrder}
use Rattle.std.specs.Ordering.{nat_cmp, ordering_then}
use Rattle.std.specs.declared.cmp.Ordering.{Ordering}
use Rattle.std.specs.declared.cmp.Ordering.TheVariants.{Less, Equal, Greater}
use Rattle.std.specs.Prelude.{◌==◌}
use Rattle.std.proofs.lemmas.Bool.Decides.{nat_tests}
use Rattle.std.proofs.lemmas.Cmp.{back_total, lists_total, nat_cmp_total, tied_itself}
use Rattle.entry_list.specs.Order.{path_cmp}
use Rattle.entry_list.specs.Shared.{shared_len}
use Rattle.entry_list.proofs.Orders.{paths_total, same_path}
use Rattle.entry_lookup.specs.NameSteps.{common_cmp, outer_cmp, name_order}
use Rattle.entry_lookup.proofs.Fronts.{folded_len, nat_below, nat_above, nat_suc, path_by_front, then_assoc}
use Rattle.entry_lookup.specs.Folded.{folded}

pub outer_total : IsTotalOrder outer_cmp
outer_total = back_total (lists_total (back_total nat_cmp_total))

nat_same : (m n : ℕ) → nat_cmp m n ≡ Equal → m ≡ n
nat_same m n e = grind (arith, nat_tests, e)

then_both : (o p : Ordering) → ordering_then o p ≡ Equal → (o ≡ Equal) × (p ≡ Equal)
then_both Less p e = cc
then_both Equal p e = (refl, e)
then_both Greater p e = cc

outer_same : (a b : List ℕ) → outer_cmp a b ≡ Equal → a ≡ b
outer_same [] [] e = refl
outer_same [] (y ∷ b) e = cc
outer_same (x ∷ a) [] e = cc
outer_same (x ∷ a) (y ∷ b) e =
    let both = then_both (nat_cmp x y) (outer_cmp a b) e in
    let heads : x ≡ y = nat_same x y both.0 in
    let tails : a ≡ b = outer_same a b both.1 in
    cc

pub order_total : (outer : Bool) → IsTotalOrder (name_order outer)
order_total true = outer_total
order_total false = paths_total

pub same_name : (outer : Bool) (a b : List ℕ) → (name_order outer a b ≡ Equal) ↔ (a ≡ b)
same_name true a b = (outer_same a b, λ e. ap (λ (x : List ℕ). outer_cmp x b) e ∙ tied_itself outer_total b)
same_name false a b = same_path a b

-- the longer name comes first, if the first bytes are equal
pub outer_by_front : (xs ys : List ℕ)
    → outer_cmp xs ys ≡ ordering_then (common_cmp xs ys) (nat_cmp (length ys) (length xs))
outer_by_front [] [] = refl
outer_by_front [] (y ∷ ys) = sym (nat_above (suc (length ys)) 0 (omega arith))
outer_by_front (x ∷ xs) [] = sym (nat_below 0 (suc (length xs)) (omega arith))
outer_by_front (x ∷ xs) (y ∷ ys) =
    ap (ordering_then (nat_cmp x y)) (outer_by_front xs ys)
    ∙ sym (then_assoc (nat_cmp x y) (common_cmp xs ys) (nat_cmp (length ys) (length xs)))
    ∙ ap (ordering_then (ordering_then (nat_cmp x y) (common_cmp xs ys))) (sym (nat_suc (length ys) (length xs)))

pub order_by_front : (outer : Bool) (xs ys : List ℕ) (front sizes o : Ordering) → front ≡ common_cmp xs ys
    → o ≡ ordering_then front sizes → (outer ≡ true → sizes ≡ nat_cmp (length ys) (length xs))
    → (outer ≡ false → sizes ≡ nat_cmp (length xs) (length ys)) → o ≡ name_order outer xs ys
order_by_front true xs ys front sizes o d e f g = e ∙ ap (λ (p : Ordering). ordering_then p sizes) d
    ∙ ap (ordering_then (common_cmp xs ys)) (f refl) ∙ sym (outer_by_front xs ys)
order_by_front false xs ys front sizes o d e f g = e ∙ ap (λ (p : Ordering). ordering_then p sizes) d
    ∙ ap (ordering_then (common_cmp xs ys)) (g refl) ∙ sym (path_by_front xs ys)

-- ---- the consequences of the first bytes

-- one step: the comparisons of x with y and of y with z decide that of x with z, or leave it to the rest
step_stays : (x y z : ℕ) (o p : Ordering) (front path new : Ordering) → o ≡ nat_cmp x y → p ≡ nat_cmp y z
    → (front ≡ Less → path ≢ Greater → new ≡ Less) → ordering_then o front ≡ Less → ordering_then p path ≢ Greater
    → ordering_then (nat_cmp x z) new ≡ Less
step_stays x y z Less Less front path new d e f g h =
    let r : nat_cmp x z ≡ Less = grind (arith, nat_tests, d, e) in
    rw r refl
step_stays x y z Less Equal front path new d e f g h =
    let r : nat_cmp x z ≡ Less = grind (arith, nat_tests, d, e) in
    rw r refl
step_stays x y z Equal Less front path new d e f g h =
    let r : nat_cmp x z ≡ Less = grind (arith, nat_tests, d, e) in
    rw r refl
step_stays x y z Equal Equal front path new d e f g h =
    let r : nat_cmp x z ≡ Equal = grind (arith, nat_tests, d, e) in
    rw r (f g h)
step_stays x y z o Greater front path new d e f g h = absurd (h refl)
step_stays x y z Greater p front path new d e f g h = cc

-- a name whose first bytes are below a path is below each later path
pub front_stays : (t P Q : List ℕ) → common_cmp t P ≡ Less → path_cmp P Q ≢ Greater → common_cmp t Q ≡ Less
front_stays [] P Q e h = cc
front_stays (x ∷ t) [] Q e h = cc
front_stays (x ∷ t) (y ∷ P) [] e h = absurd (h refl)
front_stays (x ∷ t) (y ∷ P) (z ∷ Q) e h = step_stays x y z (nat_cmp x y) (nat_cmp y z) (common_cmp t P) (path_cmp P Q)
    (common_cmp t Q) refl refl (front_stays t P Q) e h

-- a prefix of a path that is longer than the common prefix with the next path is below that path
pub front_left : (t P Q : List ℕ) → t ≡ take (length t) P → length t ≤ length P → shared_len P Q < length t
    → path_cmp P Q ≢ Greater → common_cmp t Q ≡ Less
front_left [] P Q e w l h = absurd (omega arith)
front_left (x ∷ t) [] Q e w l h = absurd (omega arith)
front_left (x ∷ t) (y ∷ P) [] e w l h = absurd (h refl)
front_left (x ∷ t) (y ∷ P) (z ∷ Q) e w l h = by (front_left t P Q) (y == z) refl (nat_cmp y z) refl
  where
    heads : x ≡ y
    heads = cc

    tails : t ≡ take (length t) P
    tails = cc

    by : (t ≡ take (length t) P → length t ≤ length P → shared_len P Q < length t → path_cmp P Q ≢ Greater
        → common_cmp t Q ≡ Less) → (b : Bool) → (y == z) ≡ b → (o : Ordering) → nat_cmp y z ≡ o
        → common_cmp (x ∷ t) (z ∷ Q) ≡ Less
    by later true d o f =
        let shorter : shared_len P Q < length t = let k : shared_len (y ∷ P) (z ∷ Q) ≡ suc (shared_len P Q) =
        rw d refl in
        omega arith in
        let level : nat_cmp y z ≡ Equal = grind (arith, nat_tests, d) in
        let same : nat_cmp x z ≡ Equal = ap (λ (n : ℕ). nat_cmp n z) heads ∙ level in
        rw same (later tails (omega arith) shorter (λ g. h (rw level g)))
    by later false d Less f = let less : nat_cmp x z ≡ Less = ap (λ (n : ℕ). nat_cmp n z) heads ∙ f in rw less refl
    by later false d Equal f = let eq : (y == z) ≡ true = grind (arith, nat_tests, f) in cc
    by later false d Greater f = absurd (h (rw f refl))

-- and before each front of it
pub outer_of_front : (t P : List ℕ) (m : ℕ) → common_cmp t P ≡ Less → outer_cmp t (take m P) ≡ Less
outer_of_front [] P m e = cc
outer_of_front (x ∷ t) [] m e = cc
outer_of_front (x ∷ t) (y ∷ P) zero e = refl
outer_of_front (x ∷ t) (y ∷ P) (suc m) e = by (outer_of_front t P m) (nat_cmp x y) refl e
  where
    by : (common_cmp t P ≡ Less → outer_cmp t (take m P) ≡ Less) → (o : Ordering) → nat_cmp x y ≡ o
        → ordering_then o (common_cmp t P) ≡ Less → ordering_then (nat_cmp x y) (outer_cmp t (take m P)) ≡ Less
    by later Less f g = rw f refl
    by later Equal f g = rw f (later g)
    by later Greater f g = cc

pub outer_longer : (P : List ℕ) (m n : ℕ) → m < n → n ≤ length P → outer_cmp (take n P) (take m P) ≡ Less
outer_longer P m zero l w = absurd (omega arith)
outer_longer [] m (suc n) l w = absurd (omega arith)
outer_longer (y ∷ P) zero (suc n) l w = refl
outer_longer (y ∷ P) (suc m) (suc n) l w =
    let same : nat_cmp y y ≡ Equal = grind (arith, nat_tests) in
    rw same (outer_longer P m n (omega arith) (omega arith))

pub sizes_folded : (ignore_case : Bool) (a b : List ℕ)
    → nat_cmp (length a) (length b) ≡ nat_cmp (length (folded ignore_case a)) (length (folded ignore_case b))
sizes_folded ignore_case a b = rw (folded_len ignore_case a, folded_len ignore_case b) refl
