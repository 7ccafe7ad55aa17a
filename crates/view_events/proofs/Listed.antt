-- Events of items, appended one after another.
use Rattle.std.proofs.Common.{◌≡◌, ℕ, ◌≤◌, List, [], ◌∷◌, ◌++◌, ap, append-nil, length, map, take, refl, sym, ◌∙◌}
use Rattle.std.proofs.lemmas.Grind.{flat_map-append}
use Rattle.std.proofs.lemmas.List.{take_all}
use Rattle.std.specs.List.{enumerate_from, flat_map}
use Rattle.base_text.proofs.Placed.{placed_map}
use Rattle.view_events.specs.Event.{Event, listed, print}

-- the text of an item
abbrev pub shown : {X Y : Type 0} → (Event → List ℕ) → (ℕ → Y → List Event) → (X → Y) → ℕ × X → List ℕ
shown spell events g p = print spell (events p.0 (g p.1))

-- that of items
abbrev pub all_shown : {X Y : Type 0} → (Event → List ℕ) → (ℕ → Y → List Event) → (X → Y) → List X → List ℕ
all_shown spell events g xs = flat_map (λ p. print spell (events p.0 (g p.1))) (enumerate_from 0 xs)

printed_each : {Z : Type 0} (spell : Event → List ℕ) (events : Z → List Event) (zs : List Z)
    → flat_map (λ z. print spell (events z)) zs ≡ print spell (flat_map events zs)
printed_each spell events [] = refl
printed_each spell events (z ∷ zs) =
    ap (λ (l : List ℕ). print spell (events z) ++ l) (printed_each spell events zs)
    ∙ sym (flat_map-append spell (events z) (flat_map events zs))

pub shown_is : {X Y : Type 0} (spell : Event → List ℕ) (events : ℕ → Y → List Event) (g : X → Y) (old : List ℕ)
    (xs : List X) → old ++ all_shown spell events g xs ≡ old ++ print spell (listed events (map g xs))
shown_is {X} {Y} spell events g old xs =
    ap (λ (l : List ℕ). old ++ l)
    (placed_map (λ (p : ℕ × Y). print spell (events p.0 p.1)) g 0 xs
    ∙ printed_each spell (λ (p : ℕ × Y). events p.0 p.1) (enumerate_from 0 (map g xs)))

-- if they are appended as they are
pub shown_self : {X : Type 0} (spell : Event → List ℕ) (events : ℕ → X → List Event) (old : List ℕ)
    (xs : List X) → old ++ all_shown spell events (λ (x : X). x) xs ≡ old ++ print spell (listed events xs)
shown_self {X} spell events old xs = ap (λ (l : List ℕ). old ++ l)
    (printed_each spell (λ (p : ℕ × X). events p.0 p.1) (enumerate_from 0 xs))

-- all of them were
pub all_listed : {X Y : Type 0} (spell : Event → List ℕ) (events : ℕ → Y → List Event) (g : X → Y)
    (old new : List ℕ) (xs : List X) (i : ℕ) → length xs ≤ i → new ≡ old ++ all_shown spell events g (take i xs)
    → new ≡ old ++ print spell (listed events (map g xs))
all_listed {X} spell events g old new xs i le h =
    h ∙ ap (λ (ys : List X). old ++ all_shown spell events g ys) (take_all i xs le) ∙ shown_is spell events g old xs

pub self_listed : {X : Type 0} (spell : Event → List ℕ) (events : ℕ → X → List Event) (old new : List ℕ)
    (xs : List X) (i : ℕ) → length xs ≤ i → new ≡ old ++ all_shown spell events (λ (x : X). x) (take i xs)
    → new ≡ old ++ print spell (listed events xs)
self_listed {X} spell events old new xs i le h =
    h ∙ ap (λ (ys : List X). old ++ all_shown spell events (λ (x : X). x) ys) (take_all i xs le)
    ∙ shown_self spell events old xs

-- one event more, known by what it is
pub single_told : (spell : Event → List ℕ) (old new : List ℕ) (e f : Event) → new ≡ old ++ spell e → e ≡ f
    → new ≡ old ++ print spell (f ∷ [])
single_told spell old new e f h is = h ∙ ap (λ (x : Event). old ++ spell x) is
    ∙ ap (λ (l : List ℕ). old ++ l) (sym (append-nil (spell f)))
