-- The path of an entry before another. Public clauses cite none of these.
use Rattle.std.specs.Prelude.{◌≡◌, ◌⊎◌, ℕ, List, []}
use Rattle.index_parts.specs.declared.object.tree.EntryKind.{EntryKind}
use Rattle.tree_encode.specs.Refusals.{NameCheck, IsTreePath}

-- The path is valid, or there is none.
abbrev pub IsCheckPassed : NameCheck → ℕ → List ℕ → Type 0
IsCheckPassed check levels path = (path ≡ []) ⊎ ((k : EntryKind) × IsTreePath check levels k path)
