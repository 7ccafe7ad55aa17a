-- Positions in order, as a bitmap lists them (git's bitmap-format document, "Serialization format for an EWAH bitmap":
-- bits at lower order first).
use Rattle.std.specs.Prelude.{◌≡◌, ℕ, ◌+◌, ◌≤◌, List, [], ◌∷◌, Result, Ok, Err}

-- positions ascend, the first one is at least `place`, and an error is the last item
abbrev pub Ascends : {E : Type 0} → ℕ → List (Result ℕ E) → Type 0
Ascends {E} place [] = Unit {0}
Ascends {E} place (Ok next ∷ items) = (place ≤ next) × Ascends (next + 1) items
Ascends {E} place (Err fault ∷ items) = items ≡ []
