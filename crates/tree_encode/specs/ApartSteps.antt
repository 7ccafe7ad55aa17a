-- The leaves with whose paths a later path may begin. Public clauses cite none of these.
use Rattle.std.specs.Prelude.{◌≡◌, ◌⊎◌, ℕ, List, [], ◌∷◌, ◌++◌, All, Contains, drop, take}
use Rattle.tree_encode.specs.Refusals.{HasPathPrefix, LiesIn, Refusal, Both}
use Rattle.tree_encode.specs.Staged.{staged_of}
use Rattle.tree_encode.specs.declared.leaf.Leaf.{Leaf}

-- The list has a last element, and `P` holds for it.
abbrev pub EndsWith : {X : Type 0} → List X → (X → Type 0) → Type 0
EndsWith {X} xs P = (init : List X) × (last : X) × (xs ≡ init ++ last ∷ []) × P last

-- The first `k` leaves are left for this path. It begins with none of the leaves after them. If there is a last one
-- among the first `k`, the path begins with it, but isn't inside it.
pub record AreBeginnings (k : ℕ) (path : List ℕ) (ls : List Leaf) : Type 0 where
  pub taken : All (λ f. HasPathPrefix path f.path.now → ⊥) (drop k ls)
  pub last : (take k ls ≡ []) ⊎ EndsWith (take k ls) (λ f. HasPathPrefix path f.path.now × (LiesIn path (staged_of f)
      → ⊥))

-- The path is inside one of these leaves, and the error names both.
abbrev pub LiesInOne : List ℕ → List Leaf → Refusal → Type 0
LiesInOne path ls f = (l : Leaf) × Contains ls l × LiesIn path (staged_of l) × (f ≡ Both l.path.now path)
