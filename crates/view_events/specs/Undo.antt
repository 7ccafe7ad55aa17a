-- The events of resolved conflicts (the library's own). The parts are those of gitformat-index, "Resolve undo".
use Rattle.std.specs.Prelude.{ℕ, List, [], ◌∷◌, ◌++◌, length, Option, Some, None, slice_index_or}
use Rattle.ext_small.specs.ResolveUndo.{PathStages}
use Rattle.view_events.specs.declared.event.Datum.TheVariants.{Absent, Side}
use Rattle.view_events.specs.declared.event.Item.TheVariants as items
use Rattle.view_events.specs.declared.event.Key.TheVariants as keys
use Rattle.view_events.specs.declared.event.Where.TheVariants.{Element, Member}
use Rattle.view_events.specs.Event.{Event, begin_array, begin_object, datum_field, end_array, end_object, listed}
use Rattle.view_events.specs.Event.{text_field}

-- A path and its three sides: the common ancestor's, ours and theirs.
unfoldable pub path_events : ℕ → PathStages → List Event
path_events place p =
    begin_object (Element items.ResolvedPath 1 place) ∷ text_field (Member keys.ResolvedPath 2 0) p.name
    ∷ begin_array (Member keys.Stages 2 1) 3
    ∷ datum_field (Element items.Base 3 0) (Side (slice_index_or p.stages 0 None))
    ∷ datum_field (Element items.Ours 3 1) (Side (slice_index_or p.stages 1 None))
    ∷ datum_field (Element items.Theirs 3 2) (Side (slice_index_or p.stages 2 None))
    ∷ end_array (Member keys.Stages 2 1) ∷ end_object (Element items.ResolvedPath 1 place) ∷ []

-- The paths in their order.
abbrev pub undo_events : Option (List PathStages) → List Event
undo_events None = datum_field (Member keys.ResolveUndo 0 6) Absent ∷ []
undo_events (Some paths) =
    begin_array (Member keys.ResolveUndo 0 6) (length paths) ∷ listed path_events paths
    ++ end_array (Member keys.ResolveUndo 0 6) ∷ []
