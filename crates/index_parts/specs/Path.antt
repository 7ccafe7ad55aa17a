-- Paths, whose names are separated by slashes (gitformat-index, "Index entry").
use Rattle.std.specs.Prelude.{ℕ, ◌==◌, List, Option, position}

-- the position of the first slash in a path
abbrev pub slash_of : List ℕ → Option ℕ
slash_of path = position (λ b. b == 47) path
