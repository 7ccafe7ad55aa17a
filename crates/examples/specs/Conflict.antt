-- A path in conflict: the stages 1, 2 and 3 of a merge (gitformat-index, "Index entry", "2-bit stage (during merge)").
use Rattle.std.specs.Prelude.{ℕ, ◌*◌, not, List, [], ◌∷◌, filter}
use Rattle.gix_index.specs.Record.{Record}
use Rattle.gix_index.specs.Range.{is_at}
use Rattle.examples.specs.declared.merge.Side.{Side}

-- The record of one side of a conflict. Its flags have the stage in bits 12 and 13, and no other bit.
abbrev pub side_record : List ℕ → ℕ → Side → Record
side_record path stage side =
    record { path = path; stat = side.stat; id = side.id; flags = stage * 4096; mode = side.mode.0 }

-- The records of a path in conflict.
abbrev pub stages : List ℕ → Side → Side → Side → List Record
stages path base ours theirs = side_record path 1 base ∷ (side_record path 2 ours ∷ (side_record path 3 theirs ∷ []))

-- The records at other paths.
abbrev pub elsewhere : List ℕ → List Record → List Record
elsewhere path rs = filter (λ r. not (is_at path r)) rs
