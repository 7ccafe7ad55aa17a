-- The comparison of bytes with a prefix (the library's own; bytes in the order that gitformat-index gives paths).
use Rattle.std.specs.Prelude.{ℕ, List, length, take}
use Rattle.std.specs.Cmp.Lexicographic.{slice_cmp}
use Rattle.std.specs.Ordering.{nat_cmp}
use Rattle.std.specs.declared.cmp.Ordering.{Ordering}

-- the comparison of the first bytes of a list with a prefix: Equal if the list begins with it
abbrev pub prefix_cmp : List ℕ → List ℕ → Ordering
prefix_cmp prefix bytes = slice_cmp nat_cmp (take (length prefix) bytes) prefix
