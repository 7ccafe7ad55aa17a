-- The record in resolve-undo of a removed side of a conflict (gitformat-index, "Resolve undo"; git-update-index,
-- "--unresolve"). Each definition is for any list. If paths increase by their bytes, they still do afterwards.
use Rattle.std.specs.Prelude.{ℕ, ◌-◌, List, [], ◌∷◌, None, slice_set, if◌then◌else◌}
use Rattle.std.specs.Ordering.{is_eq, is_lt}
use Rattle.entry_list.specs.Order.{path_cmp, record_stage}
use Rattle.entry_list.specs.Record.{Record}
use Rattle.ext_small.specs.ResolveUndo.{PathStages, side_of}

-- a path without a side
abbrev pub no_sides : List ℕ → PathStages
no_sides path = record { name = path; stages = None ∷ None ∷ None ∷ [] }

-- the path with the record's mode and id for its stage, which is 1 to 3
abbrev pub with_side : Record → PathStages → PathStages
with_side r p = record { name = p.name; stages = slice_set p.stages (record_stage r - 1) (side_of r.mode r.id) }

-- The paths with the record as a side. It is at its path, or else between those below its path and the next.
unfoldable pub recorded : Record → List PathStages → List PathStages
recorded r [] = with_side r (no_sides r.path) ∷ []
recorded r (p ∷ ps) =
    if is_lt (path_cmp p.name r.path) then p ∷ recorded r ps
    else if is_eq (path_cmp p.name r.path) then with_side r p ∷ ps
    else with_side r (no_sides r.path) ∷ p ∷ ps
