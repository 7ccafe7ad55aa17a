-- Resolve-undo after changes of an index. Each change removes sides of conflicts, which are recorded (gitformat-index,
-- "Resolve undo"; git-update-index, "--unresolve"). A side that an entry of its path and stage replaces isn't recorded.
-- Each definition is for any list.
use Rattle.std.specs.Prelude.{◌==◌, ◌&&◌, Bool, not, List, [], ◌∷◌, filter, map, Option, Some}
use Rattle.std.specs.Option.{option_map, unwrap_or}
use Rattle.std.specs.declared.vec.Vec.{Vec}
use Rattle.entry_list.specs.Order.{record_stage}
use Rattle.entry_list.specs.Record.{Record}
use Rattle.entry_edit.specs.Changes.{applied_one, takes_out}
use Rattle.entry_edit.specs.declared.change.Change.{Change}
use Rattle.index_edit.specs.Dirty.{is_replaced}
use Rattle.ext_small.specs.ResolveUndo.{PathStages, path_stages}
use Rattle.ext_small.specs.declared.resolve_undo.ResolvePath.{ResolvePath}
use Rattle.index_edit.specs.Recorded.{recorded}

-- the paths of resolve-undo, if there is any
abbrev pub undo_paths : {Z : Type 0} → Option (Vec ResolvePath Z) → Option (List PathStages)
undo_paths undo = option_map (λ paths. map path_stages paths.items) undo

-- the record is a side of a conflict, and is removed by the change
abbrev pub is_lost : Change → Record → Bool
is_lost c r = not (record_stage r == 0) && (takes_out c r && not (is_replaced c r))

-- the sides that are removed, in the order of the list
abbrev pub lost : Change → List Record → List Record
lost c rs = filter (is_lost c) rs

-- The paths with these sides, recorded one after another. Without a side nothing is recorded.
unfoldable pub all_recorded : List Record → Option (List PathStages) → Option (List PathStages)
all_recorded [] undo = undo
all_recorded (r ∷ rs) undo = all_recorded rs (Some (recorded r (unwrap_or undo [])))

-- The record after changes of a list of records, one after another. Each change adds the sides that it removes from the
-- list after those before it.
unfoldable pub undone : List Change → List Record → Option (List PathStages) → Option (List PathStages)
undone [] rs undo = undo
undone (c ∷ cs) rs undo = undone cs (applied_one c rs) (all_recorded (lost c rs) undo)
