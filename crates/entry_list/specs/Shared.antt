-- The common prefix of two paths (gitformat-index, "Version 4").
use Rattle.std.specs.Prelude.{ℕ, suc, ◌==◌, List, [], ◌∷◌, if◌then◌else◌}

-- the number of bytes of the longest common prefix
abbrev pub shared_len : List ℕ → List ℕ → ℕ
shared_len [] ys = 0
shared_len (x ∷ xs) [] = 0
shared_len (x ∷ xs) (y ∷ ys) = if x == y then suc (shared_len xs ys) else 0
